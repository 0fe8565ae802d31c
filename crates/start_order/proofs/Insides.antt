-- Modules that are created: each has its parent among those that are created with it, but the first;
-- and all that live stand at most 33 levels down still.
use Rattle.std.proofs.Common.{◌≡◌, ◌⊎◌, inl, inr, ℕ, zero, suc, ◌+◌, ◌≤◌, ◌<◌, false, true, List, [], ◌∷◌, ◌++◌, Option, Some, None, refl, sym, ap, ◌∙◌, subst, arith, length, slice_get}
use Rattle.event_set.proofs.Order.{each_append, each_map}
use Rattle.module_api.specs.declared.reply.Creation.{Creation}
use Rattle.model_questions.specs.declared.answer.Answer.{Answer}
use Rattle.model_questions.specs.declared.answer.Answer.TheVariants as answer
use Rattle.model_questions.specs.declared.answer.Built.{Built}
use Rattle.model_questions.specs.declared.answer.Question.TheVariants.{Build}
use Rattle.model_questions.specs.declared.record.Record.{Record}
use Rattle.model_questions.specs.Answers.{Answers, answer_of}
use Rattle.model_questions.specs.Records.{lineage_up, place_of, record_at, with_those_around}
use Rattle.model_questions.proofs.AnswerLemmas.{last_at}
use Rattle.run_semantics.specs.Creating.{is_full, levels_in, record_for, with_created}
use Rattle.run_semantics.specs.Laws.{Each}
use Rattle.run_semantics.specs.Perform.{Flow, On, Stopped, Broken, ◌>>=◌, for_each}
use Rattle.run_semantics.specs.Run.{with_submodules, room_in, unless_many, if_compound, compounds_from, built, set_up, most_nested}
use Rattle.run_semantics.specs.World.{World, asked, is_live, live_of}
use Rattle.run_semantics.proofs.Alive.{live_within}
use Rattle.run_semantics.proofs.Bounds.{created_live}
use Rattle.run_semantics.proofs.Growth.{Fits}
use Rattle.run_semantics.proofs.Lasting.{HasLevels, not_full}
use Rattle.run_semantics.proofs.Setting.{Stays, length_created, stays_as, stays_then}
use Rattle.nested_starts.specs.Levels.{ParentIs, IsWithin}
use Rattle.nested_starts.proofs.Levels.{Builds, set_up_builds, within_on}
use Rattle.nested_starts.proofs.Within.{AreWithin, among_back, among_is, each_there, live_above, within_most}

-- ---- records of ids

each_got : (T : Record → Type 0) (rs : List Record) (i : ℕ) (r : Record) → Each T rs → slice_get rs i ≡ Some r → T r
each_got T [] i r h e = cc
each_got T (x ∷ xs) zero r h e = let same : x ≡ r = cc in subst T same h.0
each_got T (x ∷ xs) (suc i) r h e = each_got T xs i r h.1 e

-- a record of two lists is one of the first, or of the second
got_of : (T : Record → Type 0) (rs more : List Record) (i : ℕ) (r : Record) → Each T more → slice_get (rs ++ more) i ≡ Some r → (slice_get rs i ≡ Some r) ⊎ T r
got_of T [] more i r h e = inr (each_got T more i r h e)
got_of T (x ∷ xs) more zero r h e = inl e
got_of T (x ∷ xs) more (suc i) r h e = got_of T xs more i r h e

pub record_of : (T : Record → Type 0) (rs more : List Record) (k : ℕ) (r : Record) → Each T more → record_at (rs ++ more) k ≡ Some r → (record_at rs k ≡ Some r) ⊎ T r
record_of T rs more zero r h e = cc
record_of T rs more (suc i) r h e = got_of T rs more i r h e

got_before : (rs more : List Record) (i : ℕ) (r : Record) → i < length rs → slice_get (rs ++ more) i ≡ Some r → slice_get rs i ≡ Some r
got_before [] more i r l e = absurd (omega (arith, l))
got_before (x ∷ xs) more zero r l e = e
got_before (x ∷ xs) more (suc i) r l e = got_before xs more i r (omega (arith, l)) e

-- that of an id that was there is what it was
pub record_before : (rs more : List Record) (k : ℕ) (r : Record) → k ≤ length rs → record_at (rs ++ more) k ≡ Some r → record_at rs k ≡ Some r
record_before rs more zero r l e = cc
record_before rs more (suc i) r l e = got_before rs more i r (omega (arith, l)) e

got_within : (rs : List Record) (i : ℕ) (r : Record) → slice_get rs i ≡ Some r → i < length rs
got_within [] i r e = cc
got_within (x ∷ xs) zero r e = omega arith
got_within (x ∷ xs) (suc i) r e = let l = got_within xs i r e in omega (arith, l)

pub record_within : (rs : List Record) (k : ℕ) (r : Record) → record_at rs k ≡ Some r → k ≤ length rs
record_within rs zero r e = cc
record_within rs (suc i) r e = let l = got_within rs i r e in omega (arith, l)

-- ---- a setup, from its first id on

-- A PROPERTY IS BUILT ON through the setup of a module with at least that id: all of its submodules
-- have higher ones.
pub record IsBuiltOn (first : ℕ) (R : World → Type 0) : Type 0 where
  pub asked : (id : ℕ) (w : World) → R w → R (asked (Build id) w)
  pub created : (parent : ℕ) (bs : List Built) (w : World) → first ≤ parent → parent ≤ length w.records → R w → R (with_submodules parent bs w)

-- the property, where there are at least so many records
abbrev From : ℕ → (World → Type 0) → World → Type 0
From n R w = R w × (n ≤ length w.records)

-- a part that leaves it, of a module from that id on
abbrev Leaves : ℕ → (World → Type 0) → (ℕ → World → Flow) → Type 0
Leaves first R part = (n id : ℕ) (w : World) → R w → n ≤ length w.records → first ≤ id → id ≤ length w.records → Stays (From n R) (part id w)

-- the ids of the compound ones of some modules, the first of which has that id
between : (first n id : ℕ) (bs : List Built) → first ≤ id → id + length bs ≤ n + 1 → Each (λ k. (first ≤ k) × (k ≤ n)) (compounds_from id bs)
between first n id [] l h = tt
between first n id (b ∷ bs) l h = by b.class (between first n (suc id) bs (omega (arith, l)) (omega (arith, h)))
  where
    by : (class : Option (List ℕ)) → Each (λ k. (first ≤ k) × (k ≤ n)) (compounds_from (suc id) bs) → Each (λ k. (first ≤ k) × (k ≤ n)) (if_compound id class (compounds_from (suc id) bs))
    by None later = ((l, omega (arith, h)), later)
    by (Some kind) later = later

each_built : (first : ℕ) (R : World → Type 0) (part : ℕ → World → Flow) (n : ℕ) (ids : List ℕ) (w : World) → Leaves first R part → Each (λ k. (first ≤ k) × (k ≤ n)) ids → From n R w → Stays (From n R) (for_each part ids w)
each_built first R part n [] w f all h = h
each_built first R part n (id ∷ ids) w f all h =
    stays_then (From n R) (part id w) (for_each part ids) (f n id w h.0 h.1 all.0.0 (omega (arith, all.0.1, h.1))) (λ v g. each_built first R part n ids v f all.1 g)

inside_built : (first : ℕ) (R : World → Type 0) (inner : ℕ → World → Flow) (n parent : ℕ) (bs : List Built) (w : World) (one : Option Built) → IsBuiltOn first R → Leaves first R inner → R w → n ≤ length w.records → first ≤ parent → parent ≤ length w.records
    → Stays (From n R) (unless_many parent bs w one >>= for_each inner (compounds_from (suc (length w.records)) bs))
inside_built first R inner n parent bs w (Some b) builds f h l from p = (h, l)
inside_built first R inner n parent bs w None builds f h l from p =
    let v : World = with_submodules parent bs w in
    let k : ℕ = length w.records + length bs in
    let long = length_created parent bs w in
    stays_as (From k R) (From n R) (for_each inner (compounds_from (suc (length w.records)) bs) v) (λ u g. (g.0, omega (arith, l, g.1)))
    (each_built first R inner k (compounds_from (suc (length w.records)) bs) v f (between first k (suc (length w.records)) bs (omega (arith, from, p)) (omega arith)) (builds.created parent bs w from p h, omega (arith, long)))

built_built : (first : ℕ) (R : World → Type 0) (inner : ℕ → World → Flow) (n parent : ℕ) (found : Answer) (w : World) → IsBuiltOn first R → Leaves first R inner → R w → n ≤ length w.records → first ≤ parent → parent ≤ length w.records → Stays (From n R) (built inner parent found w)
built_built first R inner n parent (answer.Inside bs) w builds f h l from p = inside_built first R inner n parent bs w (slice_get bs (room_in w)) builds f h l from p
built_built first R inner n parent (answer.Class class) w builds f h l from p = (h, l)
built_built first R inner n parent (answer.Root name) w builds f h l from p = (h, l)
built_built first R inner n parent (answer.Value v) w builds f h l from p = (h, l)
built_built first R inner n parent (answer.Gate g) w builds f h l from p = (h, l)
built_built first R inner n parent (answer.Next next) w builds f h l from p = (h, l)
built_built first R inner n parent (answer.Fault path fault) w builds f h l from p = (h, l)
built_built first R inner n parent (answer.Beyond beyond) w builds f h l from p = (h, l)
built_built first R inner n parent (answer.Injection next) w builds f h l from p = (h, l)
built_built first R inner n parent answer.Absent w builds f h l from p = (h, l)

set_up_built : (first : ℕ) (R : World → Type 0) → IsBuiltOn first R → (depth : ℕ) (m : Answers) → Leaves first R (set_up depth m)
set_up_built first R builds zero m n id w h l from p = (h, l)
set_up_built first R builds (suc depth) m n id w h l from p =
    built_built first R (set_up depth m) n id (answer_of m w.records (Build id)) (asked (Build id) w) builds (set_up_built first R builds depth m) (builds.asked id w h) l from p

-- THE SETUP of the module with that id
pub set_up_on : (first : ℕ) (R : World → Type 0) → IsBuiltOn first R → (depth : ℕ) (m : Answers) (w : World) → first ≤ length w.records → R w → Stays R (set_up depth m first w)
set_up_on first R builds depth m w p h = stays_as (From 0 R) R (set_up depth m first w) (λ v g. g.0) (set_up_built first R builds depth m 0 first w h (omega arith) (omega arith) p)

-- two properties that a flow leaves
pub both_stay : (R T : World → Type 0) (fl : Flow) → Stays R fl → Stays T fl → Stays (λ w. R w × T w) fl
both_stay R T (On w) h k = (h, k)
both_stay R T (Stopped w) h k = h
both_stay R T (Broken w path f) h k = (h, k)

-- ---- levels

line_first : (rs : List Record) → 1 ≤ length rs → (j : ℕ) → (k : ℕ) × (length (lineage_up (suc j) rs 1) ≡ suc k)
line_first [] l j = absurd (omega (arith, l))
line_first (r ∷ rs) l j = (length (lineage_up j (r ∷ rs) r.parent), refl)

-- where the line of a module is cut nowhere, the module stands as far down as it has records
by_line : (rs : List Record) (live : List ℕ) (n j id : ℕ) → 1 ≤ length rs → IsWithin rs live n id → length (lineage_up j rs id) < j → IsWithin rs live (length (lineage_up j rs id)) id
by_line rs live zero j id l h few = absurd h
by_line rs live (suc n) zero id l h few = absurd (omega (arith, few))
by_line rs live (suc n) (suc j) id l (inl e) few =
    let first = line_first rs l j in
    let here : IsWithin rs live (suc first.0) id = inl e in
    subst (λ k. IsWithin rs live k id) (sym (ap (λ i. length (lineage_up (suc j) rs i)) e ∙ first.1)) here
by_line rs live (suc n) (suc j) id l (inr h) few = by (record_at rs id) refl h.1 few (λ r. by_line rs live n j r.parent l)
  where
    by : (o : Option Record) → record_at rs id ≡ o → ParentIs (IsWithin rs live n) o → length (with_those_around (lineage_up j rs) o) < suc j
        → ((r : Record) → IsWithin rs live n r.parent → length (lineage_up j rs r.parent) < j → IsWithin rs live (length (lineage_up j rs r.parent)) r.parent)
        → IsWithin rs live (length (with_those_around (lineage_up j rs) o)) id
    by None e g few later = absurd g
    by (Some r) e g few later = inr (h.0, subst (ParentIs (IsWithin rs live (length (lineage_up j rs r.parent)))) (sym e) (later r g (omega (arith, few))))

short_line : (parent : ℕ) (w : World) → is_full (levels_in parent w) ≡ false → length (lineage_up 32 w.records parent) < 32
unfolding place_of most_nested
short_line parent w e = let some = not_full (levels_in parent w) e in omega (arith, some)

pub one_there : (w : World) (id : ℕ) → is_live w id ≡ true → 1 ≤ length w.records
one_there w id live = let above = live_above w id live in let within = live_within w id live in omega (arith, above, within)

one_within : (w : World) (id : ℕ) → is_live w id ≡ true → AreWithin 33 w → IsWithin w.records (live_of w) 33 id
one_within w id live h = each_there (IsWithin w.records (live_of w) 33) id (live_of w) h (among_is id (live_of w) live)

new_within : (parent : ℕ) (r : Record) (w : World) (live : List ℕ) → r.parent ≡ parent → IsWithin w.records live (length (lineage_up 32 w.records parent)) parent → length (lineage_up 32 w.records parent) < 32
    → IsWithin (w.records ++ r ∷ []) (live ++ suc (length w.records) ∷ []) 33 (suc (length w.records))
new_within parent r w live e h few =
    let rs : List Record = w.records in
    let k : ℕ = length (lineage_up 32 rs parent) in
    let ids : List ℕ = live ++ suc (length rs) ∷ [] in
    let around : IsWithin (rs ++ r ∷ []) ids k r.parent = subst (λ i. IsWithin (rs ++ r ∷ []) ids k i) (sym e) (within_on rs (r ∷ []) live (suc (length rs) ∷ []) k parent h) in
    let here : IsWithin (rs ++ r ∷ []) ids (suc k) (suc (length rs)) =
    inr (among_back (suc (length rs)) live (suc (length rs) ∷ []) (inl refl), subst (ParentIs (IsWithin (rs ++ r ∷ []) ids k)) (sym (last_at rs r)) around) in
    within_most (rs ++ r ∷ []) ids (suc k) 33 (suc (length rs)) (omega (arith, few)) here

-- a module that is created
pub created_within : (parent : ℕ) (c : Creation) (class : Option (List ℕ)) (w : World) → is_live w parent ≡ true → is_full (levels_in parent w) ≡ false → Fits w → AreWithin 33 w → AreWithin 33 (with_created parent c class w)
created_within parent c class w live deep f h =
    let rs : List Record = w.records in
    let r : Record = record_for parent c class in
    let v : World = with_created parent c class w in
    let few = short_line parent w deep in
    let ids : List ℕ = live_of w ++ suc (length rs) ∷ [] in
    let stands = by_line rs (live_of w) 33 32 parent (one_there w parent live) (one_within w parent live h) few in
    let next : 1 + length rs ≡ suc (length rs) = omega arith in
    let whole : live_of v ≡ ids = created_live w v (r ∷ []) f.dead refl refl ∙ ap (λ k. live_of w ++ k ∷ []) next in
    let all : Each (IsWithin v.records ids 33) ids =
    each_append (IsWithin v.records ids 33) (live_of w) (suc (length rs) ∷ [])
    (each_map (IsWithin rs (live_of w) 33) (IsWithin v.records ids 33) (live_of w) (λ id g. within_on rs (r ∷ []) (live_of w) (suc (length rs) ∷ []) 33 id g) h)
    (new_within parent r w (live_of w) refl stands few, tt) in
    subst (λ is. Each (IsWithin v.records is 33) is) (sym whole) all

-- and what is set up in it
pub set_up_within : (m : Answers) (depth id : ℕ) (w : World) → is_live w id ≡ true → HasLevels depth id w → Fits w → AreWithin 33 w → Stays (AreWithin 33) (set_up depth m id w)
set_up_within m zero id w live levels f h = h
set_up_within m (suc depth) id w live levels f h =
    let k : ℕ = length (lineage_up 33 w.records id) in
    let stands : IsWithin w.records (live_of w) k id = by_line w.records (live_of w) 33 33 id (one_there w id live) (one_within w id live h) (omega (arith, levels)) in
    stays_as (Builds 33 w) (AreWithin 33) (set_up (suc depth) m id w) (λ v d. d.nests.all)
    (set_up_builds 33 (suc depth) k m levels id w stands (record { network = one_there w id live; dead = f.dead; all = h }))
