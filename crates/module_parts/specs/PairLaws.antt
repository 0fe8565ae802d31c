-- States of two numbers and their bytes.
use Rattle.std.proofs.Common.{◌≡◌, ◌∙◌, ℕ, ◌<◌, ◌≤◌, nat_lt, ◌==◌, ◌&&◌, Bool, true, false, ◌++◌, length, take, drop, Option, Some, None, IfSome}
use Rattle.std.proofs.Common.{if◌then◌else◌, IsTrue, refl, ap, subst, arith}
use Rattle.std.proofs.lemmas.Bool.{false≢true}
use Rattle.std.proofs.lemmas.List.{take_at, drop_at, length-take}
use Rattle.std.specs.Option.{option_and_then, option_map, is_some}
use Rattle.module_api.specs.Behaviour.{State}
use Rattle.module_parts.specs.Numbers.{limit, state_of, read_number, number_of}
use Rattle.module_parts.specs.NumberLaws.{read_number-state_of, read_number-small}
use Rattle.module_parts.specs.declared.pairs.Pair.{Pair}
use Rattle.module_parts.specs.Pairs.{paired, pair_bytes, read_pair}

abbrev pub AreSmall : Pair → Type 0
AreSmall p = (p.first < limit) × (p.second < limit)

state_length : (n : ℕ) → length (state_of n) ≡ 8
unfolding state_of
state_length n = refl

pub pair_reads_back : (a b : ℕ) → a < limit → b < limit
    → read_pair (pair_bytes (paired a b)) ≡ Some (paired a b)
pair_reads_back a b ha hb =
    let front : take 8 (state_of a ++ state_of b) ≡ state_of a =
    take_at (state_of a) (state_of b) 8 (state_length a) in
    let behind : drop 8 (state_of a ++ state_of b) ≡ state_of b =
    drop_at (state_of a) (state_of b) 8 (state_length a) in
    ap (λ bytes. option_and_then
    (λ x. option_map (λ y. paired x y) (read_number (drop 8 (state_of a ++ state_of b))))
    (read_number bytes)) front
    ∙ (ap (option_and_then
    (λ x. option_map (λ y. paired x y) (read_number (drop 8 (state_of a ++ state_of b)))))
    (read_number-state_of a ha)
    ∙ (ap (λ bytes. option_map (λ y. paired a y) (read_number bytes)) behind
    ∙ ap (option_map (λ y. paired a y)) (read_number-state_of b hb)))

-- ---- bytes that are two numbers

is_by : (b : Bool) (n : ℕ) → IsTrue (is_some (if b then Some n else None)) → IsTrue b
is_by true n h = refl
is_by false n h = h

number_length : (state : State) → IsTrue (is_some (read_number state)) → length state ≡ 8
unfolding read_number
number_length state h =
    let both : IsTrue ((length state == 8) && nat_lt (number_of state) limit) =
    is_by ((length state == 8) && nat_lt (number_of state) limit) (number_of state) h in
    grind arith

some_parts : (a b : Option ℕ)
    → IsTrue (is_some (option_and_then (λ x. option_map (λ y. paired x y) b) a))
    → IsTrue (is_some a) × IsTrue (is_some b)
some_parts None b h = absurd (false≢true h)
some_parts (Some a) None h = absurd (false≢true h)
some_parts (Some a) (Some b) h = (refl, refl)

pub pair_front : (state : State) → IsTrue (is_some (read_pair state))
    → IsTrue (is_some (read_number (take 8 state)))
pair_front state h = (some_parts (read_number (take 8 state)) (read_number (drop 8 state)) h).0

pub pair_behind : (state : State) → IsTrue (is_some (read_pair state))
    → IsTrue (is_some (read_number (drop 8 state)))
pair_behind state h = (some_parts (read_number (take 8 state)) (read_number (drop 8 state)) h).1

pub pair_long : (state : State) → IsTrue (is_some (read_pair state)) → 8 ≤ length state
pair_long state h =
    omega (arith, number_length (take 8 state) (pair_front state h), length-take 8 state)

small_by : (a : Option ℕ) (b : Option ℕ) → IfSome a (λ n. n < limit) → IfSome b (λ n. n < limit)
    → IfSome (option_and_then (λ x. option_map (λ y. paired x y) b) a) AreSmall
small_by None b h k = tt
small_by (Some a) None h k = tt
small_by (Some a) (Some b) h k = (h, k)

read_small : (state : State) → IfSome (read_pair state) AreSmall
read_small state = small_by (read_number (take 8 state)) (read_number (drop 8 state))
    (read_number-small (take 8 state)) (read_number-small (drop 8 state))

with_pair : {S : Type 0} (IsOne : S → Type 0) (made : Pair → S)
    → ((p : Pair) → AreSmall p → IsOne (made p)) →
    (read : Option Pair) → IfSome read AreSmall → IfSome (option_map made read) IsOne
with_pair IsOne made all None small = tt
with_pair IsOne made all (Some p) small = all p small

-- what is read as the pair of a module's state is small, so that state is one
pub pair_is_read : {S : Type 0} (IsOne : S → Type 0) (made : Pair → S)
    → ((p : Pair) → AreSmall p → IsOne (made p)) →
    (state : State) (s : S) → option_map made (read_pair state) ≡ Some s → IsOne s
pair_is_read IsOne made all state s e =
    subst (λ read. IfSome read IsOne) e (with_pair IsOne made all (read_pair state) (read_small state))
