-- Which modules hear what a module emits, noted once for each module.
use Rattle.std.proofs.Common.{◌≡◌, ℕ, zero, suc, ◌+◌, ◌<◌, ◌≤◌, ◌==◌, Bool, true, false, ◌&&◌, ◌||◌, List, [], ◌∷◌, ◌++◌, Option, Some, None, Vec, refl, sym, ap, ◌∙◌, length, length-append, add-one, get_or, take, arith, subst, ◌⊎◌, inl, inr, if◌then◌else◌}
use Rattle.std.proofs.Math.Seq.{take-suc}
use Rattle.std.proofs.lemmas.Bool.{cases_lt}
use Rattle.std.proofs.lemmas.Bool.Decides.{nat_tests}
use Rattle.std.proofs.lemmas.List.Folds.{list_any-append}
use Rattle.std.proofs.lemmas.Option.{slice_get_past}
use Rattle.std.specs.declared.alloc.Global.{Global}
use Rattle.model_questions.specs.declared.record.Record.{Record}
use Rattle.model_questions.specs.Records.{record_at}
use Rattle.run_semantics.specs.declared.traces.Emission.{Emission}
use Rattle.recorders.specs.Hearing.{is_within, is_within_up, within_parent}
use Rattle.recorders.specs.Places.{AreHearers, PlaceLists, ids_at, is_number, places_at, places_in, places_heard, wanted_places, noted_if}
use Rattle.recorders.specs.Wanted.{is_wanted}
use Rattle.recorders.proofs.Noted.{noted_either}
use Rattle.recorders.proofs.Unwanted.{same_places}

-- ---- one id more

or_false : (b : Bool) → (b || false) ≡ b
or_false true = refl
or_false false = refl

number_more : (q id : ℕ) (ids : List ℕ) → is_number q (ids ++ id ∷ []) ≡ (is_number q ids || (id == q))
number_more q id ids = list_any-append (λ i. i == q) ids (id ∷ []) ∙ ap (λ b. is_number q ids || b) (or_false (id == q))

-- ---- up the tree

either : (o a b w : Bool) → ((o || (a && w)) || (b && w)) ≡ (o || ((if a then true else b) && w))
either true true b w = refl
either true false b w = refl
either false true true true = refl
either false true true false = refl
either false true false true = refl
either false true false false = refl
either false false b w = refl

-- one module further up
pub heard_above : (wanted : List Bool) (records : List Record) (depth further q emitter : ℕ) (r : Record) (old between new : List ℕ) → depth ≡ suc further → Some r ≡ record_at records emitter
    → is_number q between ≡ (is_number q old || ((emitter == q) && is_wanted wanted q))
    → is_number q new ≡ (is_number q between || (is_within_up further records q r.parent && is_wanted wanted q))
    → is_number q new ≡ (is_number q old || (is_within_up depth records q emitter && is_wanted wanted q))
heard_above wanted records depth further q emitter r old between new e at one two =
    two ∙ ap (λ b. b || (is_within_up further records q r.parent && is_wanted wanted q)) one
    ∙ either (is_number q old) (emitter == q) (is_within_up further records q r.parent) (is_wanted wanted q)
    ∙ ap (λ (o : Option Record). is_number q old || ((if emitter == q then true else within_parent (is_within_up further records q) o) && is_wanted wanted q)) at
    ∙ ap (λ d. is_number q old || (is_within_up d records q emitter && is_wanted wanted q)) (sym e)

-- ---- lists

before : (lists : PlaceLists) (list : Vec ℕ Global) (e : ℕ) → e < length lists → places_at (lists ++ list ∷ []) e ≡ places_at lists e
before [] list e h = absurd (omega arith)
before (x ∷ lists) list zero h = refl
before (x ∷ lists) list (suc e) h = before lists list e (omega arith)

behind : (lists : PlaceLists) (list : Vec ℕ Global) → places_at (lists ++ list ∷ []) (length lists) ≡ list.items
behind [] list = refl
behind (x ∷ lists) list = behind lists list

-- one list more
pub lists_more : (lists : PlaceLists) (list : Vec ℕ Global) (wanted : List Bool) (records : List Record) (n : ℕ) → AreHearers wanted records n lists
    → ((q : ℕ) → is_number q list.items ≡ (is_within records q n && is_wanted wanted q)) → AreHearers wanted records (n + 1) (lists ++ list ∷ [])
lists_more lists list wanted records n h one = (length-append lists (list ∷ []) ∙ ap (λ k. k + 1) h.0, each)
  where
    each : (e : ℕ) → e < n + 1 → (q : ℕ) → is_number q (ids_at (lists ++ list ∷ []) e) ≡ (is_within records q e && is_wanted wanted q)
    each e l q = by (cases_lt e n)
      where
        by : (e < n) ⊎ (n ≤ e) → is_number q (ids_at (lists ++ list ∷ []) e) ≡ (is_within records q e && is_wanted wanted q)
        by (inl k) = ap (is_number q) (before lists list e (subst (λ c. e < c) (sym h.0) k)) ∙ h.1 e k q
        by (inr k) =
            let same : e ≡ n = omega arith in
            ap (λ i. is_number q (ids_at (lists ++ list ∷ []) i)) (same ∙ sym h.0) ∙ ap (is_number q) (behind lists list) ∙ one q ∙ ap (λ i. is_within records q i && is_wanted wanted q) (sym same)

-- ---- places

same_or : (a b : Bool) → (if a then true else b) ≡ (a || b)
same_or true b = refl
same_or false b = refl

-- a place is noted for one id more
pub noted_more : (ids : List ℕ) (i x q place : ℕ) (list : List ℕ) → i < length ids → get_or ids i x ≡ x → noted_if (x == q) place (noted_if (is_number q (take i ids)) place list) ≡ noted_if (is_number q (take (i + 1) ids)) place list
noted_more ids i x q place list l e =
    let step : take (i + 1) ids ≡ take i ids ++ x ∷ [] = ap (λ n. take n ids) (add-one i) ∙ take-suc ids i x l ∙ ap (λ y. take i ids ++ y ∷ []) e in
    noted_either (is_number q (take i ids)) (x == q) place list
    ∙ ap (λ b. noted_if b place list) (same_or (is_number q (take i ids)) (x == q) ∙ sym (number_more q x (take i ids)) ∙ sym (ap (is_number q) step))

-- ---- emissions

absent : (records : List Record) (id : ℕ) → length records + 1 ≤ id → record_at records id ≡ None
absent records zero h = absurd (omega arith)
absent records (suc k) h = slice_get_past records k (omega arith)

unlisted : (lists : PlaceLists) (id : ℕ) → length lists ≤ id → ids_at lists id ≡ []
unlisted lists id h = ap places_in (slice_get_past lists id h)

-- what no module emitted is heard by none
unheard : (records : List Record) (q id : ℕ) → q < length records + 1 → length records + 1 ≤ id → is_within records q id ≡ false
unfolding is_within
unheard records q id h k =
    let other : (id == q) ≡ false = grind (arith, nat_tests) in
    ap (λ b. if b then true else within_parent (is_within_up 31 records q) (record_at records id)) other
    ∙ ap (within_parent (is_within_up 31 records q)) (absent records id k)

heard_is : (wanted : List Bool) (records : List Record) (lists : PlaceLists) → AreHearers wanted records (length records + 1) lists → (q : ℕ) → q < length records + 1 → (emissions : List Emission)
    → places_heard lists q emissions ≡ wanted_places wanted records q emissions
heard_is wanted records lists h q l emissions =
    same_places (λ e. is_number q (ids_at lists e.id)) (λ e. is_within records q e.id && is_wanted wanted q) each 0 emissions
  where
    each : (e : Emission) → is_number q (ids_at lists e.id) ≡ (is_within records q e.id && is_wanted wanted q)
    each e = by (cases_lt e.id (length records + 1))
      where
        by : (e.id < length records + 1) ⊎ (length records + 1 ≤ e.id) → is_number q (ids_at lists e.id) ≡ (is_within records q e.id && is_wanted wanted q)
        by (inl k) = h.1 e.id k q
        by (inr k) =
            ap (is_number q) (unlisted lists e.id (subst (λ n. n ≤ e.id) (sym h.0) k))
            ∙ sym (ap (λ b. b && is_wanted wanted q) (unheard records q e.id l k))

-- the same by lists that were lent
pub heard_by_lent : {given : List (Vec ℕ Global)} (wanted : List Bool) (records : List Record) (lists : PlaceLists) → given ≡ lists → AreHearers wanted records (length records + 1) lists → (q : ℕ) → q < length records + 1 → (emissions : List Emission)
    → places_heard given q emissions ≡ wanted_places wanted records q emissions
heard_by_lent wanted records lists e h q l emissions = ap (λ (given : List (Vec ℕ Global)). places_heard given q emissions) e ∙ heard_is wanted records lists h q l emissions
