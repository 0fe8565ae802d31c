-- What holds all through a setup, whatever the model answers.
use Rattle.std.proofs.Common.{◌≡◌, ℕ, zero, suc, ◌+◌, ◌≤◌, List, [], ◌∷◌, Option, Some, None, refl, arith, length, length-append, map, slice_get}
use Rattle.std.proofs.lemmas.List.{length-map}
use Rattle.model_questions.specs.declared.answer.Answer.{Answer}
use Rattle.model_questions.specs.declared.answer.Answer.TheVariants as answer
use Rattle.model_questions.specs.declared.answer.Built.{Built}
use Rattle.model_questions.specs.declared.answer.Question.TheVariants.{Root, Build}
use Rattle.model_questions.specs.Answers.{Answers, answer_of}
use Rattle.run_semantics.specs.World.{World, empty, asked}
use Rattle.run_semantics.specs.Perform.{Flow, On, Stopped, Broken, ◌>>=◌, for_each}
use Rattle.run_semantics.specs.Run.{with_network, rooted, record_under, with_submodules, room_in, unless_many, if_compound, compounds_from, built, set_up, most_nested, prepared}
use Rattle.run_semantics.proofs.Flows.{in_flow}

-- the flow goes on or is broken, in a world with the property
abbrev pub Stays : (World → Type 0) → Flow → Type 0
Stays P (On w) = P w
Stays P (Stopped w) = ⊥
Stays P (Broken w path f) = P w

pub stays_in : (P : World → Type 0) (fl : Flow) → Stays P fl → P (in_flow fl)
stays_in P (On w) h = h
stays_in P (Stopped w) h = absurd h
stays_in P (Broken w path f) h = h

-- another property holds where this one does
pub stays_as : (P Q : World → Type 0) (fl : Flow) → ((w : World) → P w → Q w) → Stays P fl → Stays Q fl
stays_as P Q (On w) f h = f w h
stays_as P Q (Stopped w) f h = h
stays_as P Q (Broken w path e) f h = f w h

-- one part, and then the next
pub stays_then : (P : World → Type 0) (fl : Flow) (k : World → Flow) → Stays P fl → ((w : World) → P w → Stays P (k w)) → Stays P (fl >>= k)
stays_then P (On w) k h f = f w h
stays_then P (Stopped w) k h f = h
stays_then P (Broken w path e) k h f = h

-- A PROPERTY LASTS through a setup where it holds after each of its two steps too: a module that is
-- there is asked about, and submodules of one that is there are created, where they are not too
-- many.
pub record IsLasting (P : World → Type 0) : Type 0 where
  pub asked : (id : ℕ) (w : World) → P w → id ≤ length w.records → P (asked (Build id) w)
  pub created : (parent : ℕ) (bs : List Built) (w : World) → P w → parent ≤ length w.records → slice_get bs (room_in w) ≡ None → P (with_submodules parent bs w)

-- all are ids up to this one
abbrev pub AreUpTo : ℕ → List ℕ → Type 0
AreUpTo n [] = Unit {0}
AreUpTo n (id ∷ ids) = (id ≤ n) × AreUpTo n ids

-- so are those of the modules that are created next
pub compounds_within : (id n : ℕ) (bs : List Built) → id + length bs ≤ n + 1 → AreUpTo n (compounds_from id bs)
compounds_within id n [] h = tt
compounds_within id n (b ∷ bs) h = by b.class (compounds_within (suc id) n bs (omega (arith, h)))
  where
    by : (class : Option (List ℕ)) → AreUpTo n (compounds_from (suc id) bs) → AreUpTo n (if_compound id class (compounds_from (suc id) bs))
    by None later = (omega (arith, h), later)
    by (Some kind) later = later

-- so many records are there then
pub length_created : (parent : ℕ) (bs : List Built) (w : World) → length (with_submodules parent bs w).records ≡ length w.records + length bs
length_created parent bs w = omega (arith, length-append w.records (map (record_under parent) bs), length-map bs (record_under parent))

-- the property, where there are at least so many records
abbrev With : ℕ → (World → Type 0) → World → Type 0
With n P w = P w × (n ≤ length w.records)

-- a part that leaves it, of a module that is there
abbrev Leaves : (World → Type 0) → (ℕ → World → Flow) → Type 0
Leaves P part = (n id : ℕ) (w : World) → P w → n ≤ length w.records → id ≤ length w.records → Stays (With n P) (part id w)

each_stays : (P : World → Type 0) (part : ℕ → World → Flow) (n : ℕ) (ids : List ℕ) (w : World) → Leaves P part → AreUpTo n ids → With n P w → Stays (With n P) (for_each part ids w)
each_stays P part n [] w f all h = h
each_stays P part n (id ∷ ids) w f all h =
    stays_then (With n P) (part id w) (for_each part ids) (f n id w h.0 h.1 (omega (arith, all.0, h.1))) (λ v g. each_stays P part n ids v f all.1 g)

-- submodules are created, and the compound ones set up
inside_stays : (P : World → Type 0) (inner : ℕ → World → Flow) (n parent : ℕ) (bs : List Built) (w : World) (one : Option Built) → slice_get bs (room_in w) ≡ one → IsLasting P → Leaves P inner → P w → n ≤ length w.records → parent ≤ length w.records
    → Stays (With n P) (unless_many parent bs w one >>= for_each inner (compounds_from (suc (length w.records)) bs))
inside_stays P inner n parent bs w (Some b) e lasting f h l p = (h, l)
inside_stays P inner n parent bs w None e lasting f h l p =
    let v : World = with_submodules parent bs w in
    let k : ℕ = length w.records + length bs in
    let long = length_created parent bs w in
    stays_as (With k P) (With n P) (for_each inner (compounds_from (suc (length w.records)) bs) v) (λ u g. (g.0, omega (arith, l, g.1)))
    (each_stays P inner k (compounds_from (suc (length w.records)) bs) v f (compounds_within (suc (length w.records)) k bs (omega arith)) (lasting.created parent bs w h p e, omega (arith, long)))

built_stays : (P : World → Type 0) (inner : ℕ → World → Flow) (n parent : ℕ) (found : Answer) (w : World) → IsLasting P → Leaves P inner → P w → n ≤ length w.records → parent ≤ length w.records → Stays (With n P) (built inner parent found w)
built_stays P inner n parent (answer.Inside bs) w lasting f h l p = inside_stays P inner n parent bs w (slice_get bs (room_in w)) refl lasting f h l p
built_stays P inner n parent (answer.Class class) w lasting f h l p = (h, l)
built_stays P inner n parent (answer.Root name) w lasting f h l p = (h, l)
built_stays P inner n parent (answer.Value v) w lasting f h l p = (h, l)
built_stays P inner n parent (answer.Gate g) w lasting f h l p = (h, l)
built_stays P inner n parent (answer.Next next) w lasting f h l p = (h, l)
built_stays P inner n parent (answer.Fault path fault) w lasting f h l p = (h, l)
built_stays P inner n parent (answer.Beyond beyond) w lasting f h l p = (h, l)
built_stays P inner n parent (answer.Injection next) w lasting f h l p = (h, l)
built_stays P inner n parent answer.Absent w lasting f h l p = (h, l)

-- the setup of a module leaves it
pub set_up_stays : (P : World → Type 0) → IsLasting P → (depth : ℕ) (m : Answers) → Leaves P (set_up depth m)
set_up_stays P lasting zero m n id w h l p = (h, l)
set_up_stays P lasting (suc depth) m n id w h l p =
    built_stays P (set_up depth m) n id (answer_of m w.records (Build id)) (asked (Build id) w) lasting (set_up_stays P lasting depth m) (lasting.asked id w h p) l p

-- the network is created, and set up
root_stays : (P : World → Type 0) (m : Answers) (found : Answer) → P (asked Root empty) → ((name : List ℕ) → Stays P (set_up most_nested m 1 (with_network name (asked Root empty)))) → Stays P (rooted found (asked Root empty) >>= set_up most_nested m 1)
root_stays P m (answer.Root name) h f = f name
root_stays P m (answer.Class class) h f = h
root_stays P m (answer.Inside bs) h f = h
root_stays P m (answer.Value v) h f = h
root_stays P m (answer.Gate g) h f = h
root_stays P m (answer.Next next) h f = h
root_stays P m (answer.Fault path fault) h f = h
root_stays P m (answer.Beyond beyond) h f = h
root_stays P m (answer.Injection next) h f = h
root_stays P m answer.Absent h f = h

-- so what holds after that of the network holds after setup
pub rooted_stays : (P : World → Type 0) (m : Answers) → P (asked Root empty) → ((name : List ℕ) → Stays P (set_up most_nested m 1 (with_network name (asked Root empty)))) → Stays P (prepared m)
rooted_stays P m h f = root_stays P m (answer_of m [] Root) h f

-- and what lasts through its steps
pub prepared_stays : (P : World → Type 0) (m : Answers) → IsLasting P → P (asked Root empty) → ((name : List ℕ) → P (with_network name (asked Root empty))) → Stays P (prepared m)
prepared_stays P m lasting h f =
    rooted_stays P m h
    (λ name. stays_as (With 0 P) P (set_up most_nested m 1 (with_network name (asked Root empty))) (λ v g. g.0)
    (set_up_stays P lasting most_nested m 0 1 (with_network name (asked Root empty)) (f name) (omega arith) (omega arith)))
