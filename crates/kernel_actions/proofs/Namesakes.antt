-- Whether a submodule that lives has a name, record by record.
use Rattle.std.proofs.Common.{◌≡◌, ℕ, suc, ◌+◌, ◌≤◌, ◌<◌, ◌&&◌, ◌||◌, ◌-◌, ◌==◌, not, cond, Bool, true, false, List, [], ◌∷◌, Option, Some, None, bytes_eq, true≢false, eqb-true, eq-or-lt_of_le, ◌⊎◌, inl, inr, if◌then◌else◌, zero, refl, sym, ap, ◌∙◌, arith, slice_get, drop, get_or, length, is_some}
use Rattle.std.proofs.Math.ListN.{drop_of_length-le}
use Rattle.std.proofs.lemmas.Slice.Eq.{bytes_eq-Decides}
use Rattle.std.specs.List.{filter, list_any}
use Rattle.module_api.specs.declared.reply.Creation.{Creation}
use Rattle.model_questions.specs.declared.record.Record.{Record}
use Rattle.model_questions.specs.Records.{lineage_up, own_name, path_along, path_of, path_under, place_of, record_at, same_index, with_those_around}
use Rattle.run_semantics.specs.Creating.{has_namesake, is_called, levels_in}
use Rattle.run_semantics.specs.Building.{most_nested}
use Rattle.run_semantics.specs.Routes.{first_from, is_at, module_at}
use Rattle.run_semantics.specs.Subtree.{among, ids_from}
use Rattle.run_semantics.specs.World.{World}
use Rattle.kernel_actions.specs.Created.{IsCreated}
use Rattle.kernel_actions.proofs.Lasting.{split_at}

-- whether one of these, the first of which has that id, is called so and is not among the dead
abbrev pub named_from : ℕ → Creation → List ℕ → ℕ → List Record → Bool
named_from parent c dead id [] = false
named_from parent c dead id (r ∷ rs) = (is_called parent c (Some r) && not (among id dead)) || named_from parent c dead (suc id) rs

one_more : (called gone : Bool) (rest : Bool) (ids : List ℕ) (test : ℕ → Bool) (id : ℕ) → test id ≡ called → list_any test ids ≡ rest → list_any test (cond (not gone) (id ∷ ids) ids) ≡ ((called && not gone) || rest)
one_more called true rest ids test id e h = h ∙ sym (by called)
  where
    by : (b : Bool) → ((b && false) || rest) ≡ rest
    by true = refl
    by false = refl
one_more called false rest ids test id e h = ap (λ t. t || list_any test ids) e ∙ (ap (λ t. called || t) h ∙ sym (by called))
  where
    by : (b : Bool) → ((b && true) || rest) ≡ (b || rest)
    by true = refl
    by false = refl

named_by : (parent : ℕ) (c : Creation) (dead : List ℕ) (all : List Record) (k : ℕ) (rs : List Record) → ((i : ℕ) → slice_get rs i ≡ slice_get all (k + i))
    → list_any (λ n. is_called parent c (record_at all n)) (filter (λ id. not (among id dead)) (ids_from (suc k) rs)) ≡ named_from parent c dead (suc k) rs
named_by parent c dead all k [] h = refl
named_by parent c dead all k (r ∷ rs) h =
    let zero_more : k + 0 ≡ k = omega arith in
    let here : slice_get all k ≡ Some r = sym (h 0 ∙ ap (slice_get all) zero_more) in
    one_more (is_called parent c (Some r)) (among (suc k) dead) (named_from parent c dead (suc (suc k)) rs) (filter (λ id. not (among id dead)) (ids_from (suc (suc k)) rs)) (λ n. is_called parent c (record_at all n)) (suc k) (ap (is_called parent c) here)
    (named_by parent c dead all (suc k) rs (λ i. let next : k + suc i ≡ suc k + i = omega arith in h (suc i) ∙ ap (slice_get all) next))

pub namesake_is : (parent : ℕ) (c : Creation) (w : World) → named_from parent c w.dead 1 w.records ≡ has_namesake parent c w
namesake_is parent c w = sym (named_by parent c w.dead w.records 0 w.records (λ i. let same : i ≡ 0 + i = omega arith in ap (slice_get w.records) same))

-- ---- in a loop

one_left : (all : List Record) (i : ℕ) (r : Record) → i < length all → r ≡ get_or all i r → drop i all ≡ r ∷ drop (i + 1) all
one_left all i r less is = split_at i all r less is

step : (parent : ℕ) (c : Creation) (dead : List ℕ) (i : ℕ) (all : List Record) (r : Record) (whole : Bool) → i < length all → r ≡ get_or all i r → named_from parent c dead (suc i) (drop i all) ≡ whole
    → ((is_called parent c (Some r) && not (among (suc i) dead)) || named_from parent c dead (suc (suc i)) (drop (i + 1) all)) ≡ whole
step parent c dead i all r whole less is done = ap (named_from parent c dead (suc i)) (sym (one_left all i r less is)) ∙ done

-- the record that is looked at is none of a namesake
pub named_on : (parent : ℕ) (c : Creation) (dead : List ℕ) (i : ℕ) (all : List Record) (r : Record) (named whole : Bool) → i < length all → r ≡ get_or all i r
    → named ≡ (is_called parent c (Some r) && not (among (i + 1) dead)) → named ≡ false → named_from parent c dead (suc i) (drop i all) ≡ whole → named_from parent c dead (suc (i + 1)) (drop (i + 1) all) ≡ whole
named_on parent c dead i all r named whole less is test out done =
    let next : i + 1 ≡ suc i = omega arith in
    let none : (is_called parent c (Some r) && not (among (suc i) dead)) ≡ false = ap (λ n. is_called parent c (Some r) && not (among n dead)) (sym next) ∙ (sym test ∙ out) in
    ap (λ n. named_from parent c dead (suc n) (drop (i + 1) all)) next
    ∙ (sym (ap (λ t. t || named_from parent c dead (suc (suc i)) (drop (i + 1) all)) none) ∙ step parent c dead i all r whole less is done)

-- it is one
pub named_there : (parent : ℕ) (c : Creation) (dead : List ℕ) (i : ℕ) (all : List Record) (r : Record) (named whole : Bool) → i < length all → r ≡ get_or all i r
    → named ≡ (is_called parent c (Some r) && not (among (i + 1) dead)) → named ≡ true → named_from parent c dead (suc i) (drop i all) ≡ whole → true ≡ whole
named_there parent c dead i all r named whole less is test so done =
    let next : i + 1 ≡ suc i = omega arith in
    let here : (is_called parent c (Some r) && not (among (suc i) dead)) ≡ true = ap (λ n. is_called parent c (Some r) && not (among n dead)) (sym next) ∙ (sym test ∙ so) in
    sym (ap (λ t. t || named_from parent c dead (suc (suc i)) (drop (i + 1) all)) here) ∙ step parent c dead i all r whole less is done

-- none is left
pub named_nowhere : (parent : ℕ) (c : Creation) (dead : List ℕ) (i : ℕ) (all : List Record) (whole : Bool) → length all ≤ i → named_from parent c dead (suc i) (drop i all) ≡ whole → false ≡ whole
named_nowhere parent c dead i all whole past done = ap (named_from parent c dead (suc i)) (sym (drop_of_length-le all past)) ∙ done

-- ---- by the path that it would have

-- a line that is shorter than it might be is whole
whole_line : (depth : ℕ) (rs : List Record) (id : ℕ) → length (lineage_up (suc depth) rs id) ≤ depth → lineage_up depth rs id ≡ lineage_up (suc depth) rs id
whole_line zero rs id l = by (record_at rs id) l
  where
    by : (o : Option Record) → length (with_those_around (lineage_up zero rs) o) ≤ zero → [] ≡ with_those_around (lineage_up zero rs) o
    by None l = refl
    by (Some r) l = absurd (omega (arith, l))
whole_line (suc depth) rs id l = by (record_at rs id) l (whole_line depth rs)
  where
    by : (o : Option Record) → length (with_those_around (lineage_up (suc depth) rs) o) ≤ suc depth → ((n : ℕ) → length (lineage_up (suc depth) rs n) ≤ depth → lineage_up depth rs n ≡ lineage_up (suc depth) rs n)
        → with_those_around (lineage_up depth rs) o ≡ with_those_around (lineage_up (suc depth) rs) o
    by None l h = refl
    by (Some r) l h = ap (λ line. r ∷ line) (h r.parent (omega (arith, l)))

-- the path of a submodule of a module that is not as deep as can be
path_below : (rs : List Record) (n parent : ℕ) (r s : Record) → record_at rs n ≡ Some r → r.parent ≡ parent → record_at rs parent ≡ Some s → length (place_of rs parent) ≤ 31 → path_of rs n ≡ path_under (path_of rs parent) (own_name r.name r.index)
unfolding place_of
path_below rs n parent r s e own there l =
    let line : lineage_up 31 rs parent ≡ lineage_up 32 rs parent = whole_line 31 rs parent l in
    let first : lineage_up 32 rs parent ≡ s ∷ lineage_up 31 rs s.parent = ap (with_those_around (lineage_up 31 rs)) there in
    ap (λ o. path_along (with_those_around (lineage_up 31 rs) o)) e
    ∙ (ap (λ p. path_along (r ∷ lineage_up 31 rs p)) own
    ∙ (ap (λ ls. path_along (r ∷ ls)) (line ∙ first)
    ∙ sym (ap (λ ls. path_under (path_along ls) (own_name r.name r.index)) first)))

none_of : (test : ℕ → Bool) (i : ℕ) (rs : List Record) → first_from test i rs ≡ None → (n : ℕ) → i ≤ n → n < i + length rs → test n ≡ false
none_of test i [] e n l m = absurd (omega (arith, l, m))
none_of test i (r ∷ rs) e n l m = by (test i) refl e (eq-or-lt_of_le l) (λ rest less. none_of test (suc i) rs rest n less (omega (arith, m)))
  where
    by : (t : Bool) → test i ≡ t → (if t then Some i else first_from test (suc i) rs) ≡ None → (i ≡ n) ⊎ (i < n) → (first_from test (suc i) rs ≡ None → suc i ≤ n → test n ≡ false) → test n ≡ false
    by true p e o more = cc
    by false p e (inl same) more = ap test (sym same) ∙ p
    by false p e (inr less) more = more e (omega (arith, less))

none_among : {X : Type 0} (f g : ℕ → Bool) (i : ℕ) (xs : List X) → ((n : ℕ) → i ≤ n → n < i + length xs → g n ≡ true → f n ≡ false) → list_any f (filter g (ids_from i xs)) ≡ false
none_among f g i [] h = refl
none_among f g i (x ∷ xs) h = by (g i) refl (none_among f g (suc i) xs (λ n l m e. h n (omega (arith, l)) (omega (arith, m)) e))
  where
    by : (t : Bool) → g i ≡ t → list_any f (filter g (ids_from (suc i) xs)) ≡ false → list_any f (cond t (i ∷ filter g (ids_from (suc i) xs)) (filter g (ids_from (suc i) xs))) ≡ false
    by true e rest = ap (λ t. t || list_any f (filter g (ids_from (suc i) xs))) (h i (omega arith) (omega arith) e) ∙ rest
    by false e rest = rest

index_alike : (a b : Option ℕ) → same_index a b ≡ true → a ≡ b
index_alike None None h = refl
index_alike None (Some k) h = cc
index_alike (Some i) None h = cc
index_alike (Some i) (Some k) h = ap Some (eqb-true i k h)

both : (a b : Bool) → (a && b) ≡ true → (a ≡ true) × (b ≡ true)
both true b h = (refl, h)
both false b h = cc

there : (rs : List Record) (k : ℕ) → k < length rs → (r : Record) × (slice_get rs k ≡ Some r)
there [] k l = absurd (omega (arith, l))
there (r ∷ rs) zero l = (r, refl)
there (r ∷ rs) (suc k) l = there rs k (omega (arith, l))

created_there : (rs : List Record) (id : ℕ) → 0 < id → id ≤ length rs → (r : Record) × (record_at rs id ≡ Some r)
created_there rs zero some l = absurd (omega (arith, some))
created_there rs (suc k) some l = there rs k (omega (arith, l))

-- where no module that lives has the path, there is none of that name
pub none_named : (parent : ℕ) (c : Creation) (w : World) (levels : ℕ) (path : List ℕ) → IsCreated parent w → levels ≡ levels_in parent w → (levels ≡ 0 → ⊥) → path ≡ path_under (path_of w.records parent) (own_name c.name c.index)
    → module_at path w ≡ None → has_namesake parent c w ≡ false
unfolding most_nested
none_named parent c w levels path is lev some e none = none_among (λ n. is_called parent c (record_at w.records n)) (λ id. not (among id w.dead)) 1 w.records one
  where
    short : length (place_of w.records parent) ≤ 31
    short = omega (arith, lev, some)

    outer : (s : Record) × (record_at w.records parent ≡ Some s)
    outer = created_there w.records parent is.0 is.1

    by : (n : ℕ) → 1 ≤ n → n < 1 + length w.records → not (among n w.dead) ≡ true → (o : Option Record) → record_at w.records n ≡ o → (t : Bool) → is_called parent c o ≡ t → t ≡ false
    by n l m live None at true h = cc
    by n l m live (Some r) at true h =
        let own = both (r.parent == parent) (bytes_eq r.name c.name && same_index r.index c.index) h in
        let named = both (bytes_eq r.name c.name) (same_index r.index c.index) own.1 in
        let name : r.name ≡ c.name = (bytes_eq-Decides r.name c.name).0 named.0 in
        let whole : path_of w.records n ≡ path =
        path_below w.records n parent r outer.0 at (eqb-true r.parent parent own.0) outer.1 short
        ∙ (ap (λ k. path_under (path_of w.records parent) (own_name k r.index)) name
        ∙ (ap (λ k. path_under (path_of w.records parent) (own_name c.name k)) (index_alike r.index c.index named.1) ∙ sym e)) in
        let found : is_at path w n ≡ true = ap (λ t. t && not (among n w.dead)) ((bytes_eq-Decides (path_of w.records n) path).1 whole) ∙ live in
        absurd (true≢false (sym found ∙ none_of (is_at path w) 1 w.records none n l m))
    by n l m live o at false h = refl

    one : (n : ℕ) → 1 ≤ n → n < 1 + length w.records → not (among n w.dead) ≡ true → is_called parent c (record_at w.records n) ≡ false
    one n l m live = by n l m live (record_at w.records n) refl (is_called parent c (record_at w.records n)) refl

pub is_none_by : (o : Option ℕ) → is_some o ≡ false → o ≡ None
is_none_by None e = refl
is_none_by (Some n) e = cc
