-- Delivering the first of the injections that are left leaves all others.
use Rattle.std.proofs.Common.{◌≡◌, ◌⊎◌, inl, inr, ℕ, suc, ◌≤◌, ◌<◌, Bool, true, false, true≢false, List, [], ◌∷◌, Option, Some, None, length, refl, sym, ◌∙◌, subst, arith, if◌then◌else◌}
use Rattle.model_injections.specs.declared.injection.Injection.{Injection}
use Rattle.model_injections.specs.declared.injection.InjectionTurn.{InjectionTurn}
use Rattle.model_injections.specs.Injections.{goes_before, turn_of, is_undelivered, sooner, first_undelivered, DeliversOne, OfEach}
use Rattle.model_injections.proofs.Turns.{never_itself, one_way, before_trans, behind_trans, other_way}

some_same : {X : Type 0} (x y : X) → Some x ≡ Some y → x ≡ y
some_same x y e = cc

-- ---- the first that is left

-- it is one of these
abbrev pub IsIn : Injection → List Injection → Type 0
IsIn f [] = ⊥
IsIn f (i ∷ is) = (i ≡ f) ⊎ IsIn f is

-- it is not delivered, and one of these
abbrev IsLeft : Option InjectionTurn → Injection → List Injection → Type 0
IsLeft last f is = (is_undelivered last f ≡ true) × IsIn f is

left_more : (last : Option InjectionTurn) (f i : Injection) (is : List Injection) → IsLeft last f is → IsLeft last f (i ∷ is)
left_more last f i is h = (h.0, inr h.1)

left_here : (last : Option InjectionTurn) (f i : Injection) (is : List Injection) → is_undelivered last i ≡ true → i ≡ f → IsLeft last f (i ∷ is)
left_here last f i is u e = (subst (λ (j : Injection). is_undelivered last j ≡ true) e u, inl e)

pub first_is_left : (last : Option InjectionTurn) (is : List Injection) (f : Injection) → first_undelivered last is ≡ Some f → IsLeft last f is
first_is_left last [] f e = cc
first_is_left last (i ∷ is) f e = by (λ o. first_is_left last is f o) (is_undelivered last i) (first_undelivered last is) refl refl e
  where
    chosen : (first_undelivered last is ≡ Some f → IsLeft last f is) → (j : Injection) (c : Bool) → is_undelivered last i ≡ true → first_undelivered last is ≡ Some j → (if c then Some j else Some i) ≡ Some f
        → IsLeft last f (i ∷ is)
    chosen rest j true u o h = left_more last f i is (rest (o ∙ h))
    chosen rest j false u o h = left_here last f i is u (some_same i f h)

    by : (first_undelivered last is ≡ Some f → IsLeft last f is) → (u : Bool) (o : Option Injection) → is_undelivered last i ≡ u → first_undelivered last is ≡ o → (if u then sooner i o else o) ≡ Some f
        → IsLeft last f (i ∷ is)
    by rest false o u e h = left_more last f i is (rest (e ∙ h))
    by rest true None u e h = left_here last f i is u (some_same i f h)
    by rest true (Some j) u e h = chosen rest j (goes_before (turn_of j) (turn_of i)) u e h

-- where there is none, none is left
pub none_is_left : (last : Option InjectionTurn) (is : List Injection) → first_undelivered last is ≡ None → OfEach (λ i. is_undelivered last i ≡ false) is
none_is_left last [] e = tt
none_is_left last (i ∷ is) e = by (λ o. none_is_left last is o) (is_undelivered last i) (first_undelivered last is) refl refl e
  where
    never : (j : Injection) (c : Bool) → (if c then Some j else Some i) ≡ None → OfEach (λ k. is_undelivered last k ≡ false) (i ∷ is)
    never j true h = cc
    never j false h = cc

    by : (first_undelivered last is ≡ None → OfEach (λ j. is_undelivered last j ≡ false) is) → (u : Bool) (o : Option Injection) → is_undelivered last i ≡ u → first_undelivered last is ≡ o
        → (if u then sooner i o else o) ≡ None → OfEach (λ j. is_undelivered last j ≡ false) (i ∷ is)
    by rest false o u e h = (u, rest (e ∙ h))
    by rest true None u e h = cc
    by rest true (Some j) u e h = never j (goes_before (turn_of j) (turn_of i)) h

-- none that is left goes before it
abbrev IsBehind : Option InjectionTurn → Injection → Injection → Type 0
IsBehind last f i = is_undelivered last i ≡ true → goes_before (turn_of i) (turn_of f) ≡ false

none_behind : (last : Option InjectionTurn) (f : Injection) (is : List Injection) → OfEach (λ i. is_undelivered last i ≡ false) is → OfEach (IsBehind last f) is
none_behind last f [] h = tt
none_behind last f (i ∷ is) h = ((λ u. absurd (true≢false (sym u ∙ h.0))), none_behind last f is h.1)

behind_other : (last : Option InjectionTurn) (f g : Injection) (is : List Injection) → goes_before (turn_of g) (turn_of f) ≡ false → OfEach (IsBehind last g) is → OfEach (IsBehind last f) is
behind_other last f g [] b h = tt
behind_other last f g (i ∷ is) b h = ((λ u. behind_trans (turn_of i) (turn_of g) (turn_of f) (h.0 u) b), behind_other last f g is b h.1)

pub first_goes_first : (last : Option InjectionTurn) (is : List Injection) (f : Injection) → first_undelivered last is ≡ Some f → OfEach (IsBehind last f) is
first_goes_first last [] f e = tt
first_goes_first last (i ∷ is) f e = by (λ g o. first_goes_first last is g o) (is_undelivered last i) (first_undelivered last is) refl refl e
  where
    itself : (i ≡ f) → IsBehind last f i
    itself e u = subst (λ (j : Injection). goes_before (turn_of i) (turn_of j) ≡ false) e (never_itself (turn_of i))

    chosen : ((g : Injection) → first_undelivered last is ≡ Some g → OfEach (IsBehind last g) is) → (j : Injection) (c : Bool) → goes_before (turn_of j) (turn_of i) ≡ c → first_undelivered last is ≡ Some j
        → (if c then Some j else Some i) ≡ Some f → OfEach (IsBehind last f) (i ∷ is)
    chosen rest j true g o h =
        let same : j ≡ f = some_same j f h in
        ((λ u. subst (λ (k : Injection). goes_before (turn_of i) (turn_of k) ≡ false) same (one_way (turn_of j) (turn_of i) g)), rest f (o ∙ h))
    chosen rest j false g o h =
        let same : i ≡ f = some_same i f h in
        (itself same, behind_other last f j is (subst (λ (k : Injection). goes_before (turn_of j) (turn_of k) ≡ false) same g) (rest j o))

    by : ((g : Injection) → first_undelivered last is ≡ Some g → OfEach (IsBehind last g) is) → (u : Bool) (o : Option Injection) → is_undelivered last i ≡ u → first_undelivered last is ≡ o → (if u then sooner i o else o) ≡ Some f
        → OfEach (IsBehind last f) (i ∷ is)
    by rest false o u e h = ((λ t. absurd (true≢false (sym t ∙ u))), rest f (e ∙ h))
    by rest true None u e h = (itself (some_same i f h), none_behind last f is (none_is_left last is e))
    by rest true (Some j) u e h = chosen rest j (goes_before (turn_of j) (turn_of i)) refl e h

-- ---- it is delivered

-- what is left after it was left before
stays_left : (last : Option InjectionTurn) (f i : Injection) → is_undelivered last f ≡ true → is_undelivered (Some (turn_of f)) i ≡ true → is_undelivered last i ≡ true
stays_left None f i u h = refl
stays_left (Some l) f i u h = before_trans l (turn_of f) (turn_of i) u h

other_than : (f i : Injection) → is_undelivered (Some (turn_of f)) i ≡ true → turn_of i ≡ turn_of f → ⊥
other_than f i h e = true≢false (sym h ∙ subst (λ (t : InjectionTurn). goes_before (turn_of f) t ≡ false) (sym e) (never_itself (turn_of f)))

each_one : (last : Option InjectionTurn) (f : Injection) (is : List Injection) → is_undelivered last f ≡ true → OfEach (IsBehind last f) is → OfEach (DeliversOne last f) is
each_one last f [] u h = tt
each_one last f (i ∷ is) u h =
    (((λ l. (stays_left last f i u l, other_than f i l)), (λ b. other_way (turn_of i) (turn_of f) b.1 (h.0 b.0))), each_one last f is u h.1)

-- ONE MORE IS DELIVERED, and no other
pub one_more : (last : Option InjectionTurn) (is : List Injection) (f : Injection) → first_undelivered last is ≡ Some f → OfEach (DeliversOne last f) is
one_more last is f e = each_one last f is (first_is_left last is f e).0 (first_goes_first last is f e)

-- ---- so fewer are left

abbrev pub left_in : Option InjectionTurn → List Injection → ℕ
left_in last [] = 0
left_in last (i ∷ is) = if is_undelivered last i then suc (left_in last is) else left_in last is

pub left_within : (last : Option InjectionTurn) (is : List Injection) → left_in last is ≤ length is
left_within last [] = omega arith
left_within last (i ∷ is) = by (is_undelivered last i) (left_within last is)
  where
    by : (u : Bool) → left_in last is ≤ length is → (if u then suc (left_in last is) else left_in last is) ≤ suc (length is)
    by true h = omega (arith, h)
    by false h = omega (arith, h)

no_more : (last : Option InjectionTurn) (f : Injection) (is : List Injection) → is_undelivered last f ≡ true → left_in (Some (turn_of f)) is ≤ left_in last is
no_more last f [] u = omega arith
no_more last f (i ∷ is) u = by (is_undelivered (Some (turn_of f)) i) (is_undelivered last i) refl refl (no_more last f is u)
  where
    by : (x y : Bool) → is_undelivered (Some (turn_of f)) i ≡ x → is_undelivered last i ≡ y → left_in (Some (turn_of f)) is ≤ left_in last is
        → (if x then suc (left_in (Some (turn_of f)) is) else left_in (Some (turn_of f)) is) ≤ (if y then suc (left_in last is) else left_in last is)
    by true true a b h = omega (arith, h)
    by true false a b h = absurd (true≢false (sym (stays_left last f i u a) ∙ b))
    by false true a b h = omega (arith, h)
    by false false a b h = h

fewer_in : (last : Option InjectionTurn) (f : Injection) (is : List Injection) → is_undelivered last f ≡ true → IsIn f is → left_in (Some (turn_of f)) is < left_in last is
fewer_in last f [] u h = absurd h
fewer_in last f (i ∷ is) u (inl e) = rw (subst (λ (j : Injection). is_undelivered (Some (turn_of f)) j ≡ false) (sym e) (never_itself (turn_of f)), subst (λ (j : Injection). is_undelivered last j ≡ true) (sym e) u) (let l = no_more last f is u in omega (arith, l))
fewer_in last f (i ∷ is) u (inr h) = by (is_undelivered (Some (turn_of f)) i) (is_undelivered last i) refl refl (fewer_in last f is u h)
  where
    by : (x y : Bool) → is_undelivered (Some (turn_of f)) i ≡ x → is_undelivered last i ≡ y → left_in (Some (turn_of f)) is < left_in last is
        → (if x then suc (left_in (Some (turn_of f)) is) else left_in (Some (turn_of f)) is) < (if y then suc (left_in last is) else left_in last is)
    by true true a b h = omega (arith, h)
    by true false a b h = absurd (true≢false (sym (stays_left last f i u a) ∙ b))
    by false true a b h = omega (arith, h)
    by false false a b h = h

-- FEWER ARE LEFT
pub fewer : (last : Option InjectionTurn) (is : List Injection) (f : Injection) → first_undelivered last is ≡ Some f → left_in (Some (turn_of f)) is < left_in last is
fewer last is f e = let h = first_is_left last is f e in fewer_in last f is h.0 h.1
