-- Where timers stand, in slots or in the tree.
use Rattle.std.proofs.Common.{◌≡◌, ℕ, zero, suc, ◌<◌, Bool, true, false, true≢false, cond, List, [], ◌∷◌, length, Option, Some, None, refl, sym, ap, ◌∙◌, ◌==◌, ◌&&◌, slice_get, slice_index_or, unwrap_or, slice_set, eqb-true, eq-eqb, arith}
use Rattle.std.proofs.lemmas.Option.{slice_get-get_or}
use Rattle.std.specs.BTreeMap.{is_at}
use Rattle.std.specs.Option.{option_or}
use Rattle.event_set.specs.declared.places.Key.{Key}
use Rattle.event_set.specs.declared.places.TimerKey.{TimerKey}
use Rattle.event_set.specs.declared.timers.First.{First}
use Rattle.event_set.specs.declared.timers.First.TheVariants.{Free, Held}
use Rattle.event_set.specs.Keys.{timer_order, held, first_at, noted, forgotten}
use Rattle.event_set.proofs.Keys.{timer_at, timer_itself}

abbrev Where : Type 0
Where = TimerKey → Option Key

abbrev either : Where → Where → Where
either f g t = option_or (f t) (g t)

none_some : {X : Type 0} {x : X} → None ≡ Some x → ⊥
none_some h = cc

none_both : (o p : Option Key) → option_or o p ≡ None → (o ≡ None) × (p ≡ None)
none_both None p h = (refl, h)
none_both (Some x) p h = absurd (none_some (sym h))

-- ---- one more

put_other_by : (b : Bool) (f g : Where) (u t : TimerKey) (k : Key) → is_at (timer_order u) t ≡ b → f u ≡ None → option_or (f t) (cond b (Some k) (g t)) ≡ cond b (Some k) (either f g t)
put_other_by true f g u t k e free = ap (λ o. option_or o (Some k)) (ap f (sym (timer_at u t e)) ∙ free)
put_other_by false f g u t k e free = refl

-- a timer that is put in the tree, where the slots say what they said
pub put_other : (f g h j : Where) (u : TimerKey) (k : Key) → either f g u ≡ None → ((t : TimerKey) → h t ≡ f t) → ((t : TimerKey) → j t ≡ cond (is_at (timer_order u) t) (Some k) (g t)) → (t : TimerKey) → either h j t ≡ noted u k (either f g) t
put_other f g h j u k free same is t = ap (λ o. option_or o (j t)) (same t) ∙ ap (option_or (f t)) (is t) ∙ put_other_by (is_at (timer_order u) t) f g u t k refl (none_both (f u) (g u) free).0

-- ---- one less

less_both : (b : Bool) (o p : Option Key) → option_or (cond b None o) (cond b None p) ≡ cond b None (option_or o p)
less_both true o p = refl
less_both false o p = refl

-- a timer that leaves the tree
pub less_other : (f g h j : Where) (u : TimerKey) → ((t : TimerKey) → h t ≡ forgotten u f t) → ((t : TimerKey) → j t ≡ cond (is_at (timer_order u) t) None (g t)) → (t : TimerKey) → either h j t ≡ forgotten u (either f g) t
less_other f g h j u is less t = ap (λ o. option_or o (j t)) (is t) ∙ ap (option_or (forgotten u f t)) (less t) ∙ less_both (is_at (timer_order u) t) (f t) (g t)

-- ---- slots

abbrev slot : List First → ℕ → First
slot xs i = unwrap_or (slice_get xs i) Free

slot_at : (xs : List First) (i : ℕ) (s : First) → i < length xs → slot (slice_set xs i s) i ≡ s
slot_at [] i s h = absurd (omega (arith, h))
slot_at (x ∷ xs) zero s h = refl
slot_at (x ∷ xs) (suc i) s h = slot_at xs i s (omega (arith, h))

slot_off : (xs : List First) (i j : ℕ) (s : First) → (i ≡ j → ⊥) → slot (slice_set xs i s) j ≡ slot xs j
slot_off [] i j s h = refl
slot_off (x ∷ xs) zero zero s h = absurd (h refl)
slot_off (x ∷ xs) zero (suc j) s h = refl
slot_off (x ∷ xs) (suc i) zero s h = refl
slot_off (x ∷ xs) (suc i) (suc j) s h = slot_off xs i j s (λ e. h (ap suc e))

slot_by : (c : Bool) (xs : List First) (i j : ℕ) (s : First) → (i == j) ≡ c → i < length xs → slot (slice_set xs i s) j ≡ cond c s (slot xs j)
slot_by true xs i j s e h = ap (slot (slice_set xs i s)) (sym (eqb-true i j e)) ∙ slot_at xs i s h
slot_by false xs i j s e h = slot_off xs i j s (λ same. true≢false (sym (eq-eqb i j same) ∙ e))

slot_set : (xs : List First) (i j : ℕ) (s : First) → i < length xs → slot (slice_set xs i s) j ≡ cond (i == j) s (slot xs j)
slot_set xs i j s h = slot_by (i == j) xs i j s refl h

is_not : (u t : TimerKey) (c : Bool) → is_at (timer_order u) t ≡ c → (u ≡ t → ⊥) → c ≡ false
is_not u t true h apart = absurd (apart (timer_at u t h))
is_not u t false h apart = refl

-- a timer is found at itself
is_timer : (u t : TimerKey) (a b : Bool) → (u.id == t.id) ≡ a → (u.timer == t.timer) ≡ b → is_at (timer_order u) t ≡ (a && b)
is_timer u t true true p q =
    let id : u.id ≡ t.id = eqb-true u.id t.id p in
    let timer : u.timer ≡ t.timer = eqb-true u.timer t.timer q in
    let same : u ≡ t = (λ i. record { id = id i; timer = timer i }) in
    ap (λ x. is_at (timer_order u) x) (sym same) ∙ timer_itself u
is_timer u t true false p q = is_not u t (is_at (timer_order u) t) refl (λ same. true≢false (sym (eq-eqb u.timer t.timer (ap (λ (x : TimerKey). x.timer) same)) ∙ q))
is_timer u t false b p q = is_not u t (is_at (timer_order u) t) refl (λ same. true≢false (sym (eq-eqb u.id t.id (ap (λ (x : TimerKey). x.id) same)) ∙ p))

first_put_by : (a b : Bool) (xs : List First) (u t : TimerKey) (k : Key) → (u.id == t.id) ≡ a → (u.timer == t.timer) ≡ b → slot xs u.id ≡ Free → held (cond a (Held k.priority u.timer k.time k.number) (slot xs t.id)) t.timer ≡ cond (a && b) (Some k) (first_at xs t)
first_put_by true true xs u t k p q free = ap (λ c. cond c (Some k) None) q
first_put_by true false xs u t k p q free = ap (λ c. cond c (Some k) None) q ∙ sym (ap (λ s. held s t.timer) (ap (slot xs) (sym (eqb-true u.id t.id p)) ∙ free))
first_put_by false b xs u t k p q free = refl

-- a timer is put in a slot that was free
pub first_put : (xs : List First) (u : TimerKey) (k : Key) → u.id < length xs → slot xs u.id ≡ Free → (t : TimerKey) → first_at (slice_set xs u.id (Held k.priority u.timer k.time k.number)) t ≡ noted u k (first_at xs) t
first_put xs u k within free t =
    ap (λ s. held s t.timer) (slot_set xs u.id t.id (Held k.priority u.timer k.time k.number) within)
    ∙ first_put_by (u.id == t.id) (u.timer == t.timer) xs u t k refl refl free
    ∙ ap (λ c. cond c (Some k) (first_at xs t)) (sym (is_timer u t (u.id == t.id) (u.timer == t.timer) refl refl))

other_by : (b : Bool) (number m n : ℕ) (x k : Key) → (number == m) ≡ b → cond b (Some x) None ≡ Some k → (m == n) ≡ false → cond (number == n) (Some x) None ≡ None
other_by true number m n x k e h apart = ap (λ c. cond c (Some x) None) (ap (λ i. i == n) (eqb-true number m e) ∙ apart)
other_by false number m n x k e h apart = absurd (none_some h)

-- a slot holds one timer
held_other : (s : First) (m n : ℕ) (k : Key) → held s m ≡ Some k → (m == n) ≡ false → held s n ≡ None
held_other Free m n k h apart = refl
held_other (Held priority number time insertion) m n k h apart = other_by (number == m) number m n (record { time = time; priority = priority; number = insertion }) k refl h apart

first_take_by : (a b : Bool) (xs : List First) (u t : TimerKey) (k : Key) → (u.id == t.id) ≡ a → (u.timer == t.timer) ≡ b → first_at xs u ≡ Some k → held (cond a Free (slot xs t.id)) t.timer ≡ cond (a && b) None (first_at xs t)
first_take_by true true xs u t k p q there = refl
first_take_by true false xs u t k p q there =
    let same : slot xs u.id ≡ slot xs t.id = ap (slot xs) (eqb-true u.id t.id p) in
    sym (held_other (slot xs t.id) u.timer t.timer k (ap (λ s. held s u.timer) (sym same) ∙ there) q)
first_take_by false b xs u t k p q there = refl

-- the slot in which a timer was found is made free
pub first_take : (xs : List First) (u : TimerKey) (k : Key) → u.id < length xs → first_at xs u ≡ Some k → (t : TimerKey) → first_at (slice_set xs u.id Free) t ≡ forgotten u (first_at xs) t
first_take xs u k within there t =
    ap (λ s. held s t.timer) (slot_set xs u.id t.id Free within)
    ∙ first_take_by (u.id == t.id) (u.timer == t.timer) xs u t k refl refl there
    ∙ ap (λ c. cond c None (first_at xs t)) (sym (is_timer u t (u.id == t.id) (u.timer == t.timer) refl refl))

within_by : (xs : List First) (i timer : ℕ) (k : Key) → held (slot xs i) timer ≡ Some k → i < length xs
within_by [] i timer k h = absurd (none_some h)
within_by (x ∷ xs) zero timer k h = omega arith
within_by (x ∷ xs) (suc i) timer k h = let rest = within_by xs i timer k h in omega (arith, rest)

-- where a timer is found there is a slot
pub within : (xs : List First) (u : TimerKey) (k : Key) → first_at xs u ≡ Some k → u.id < length xs
within xs u k h = within_by xs u.id u.timer k h

-- what is read of a slot
pub slot_read : (xs : List First) (i : ℕ) (d : First) → i < length xs → slice_index_or xs i d ≡ Free → unwrap_or (slice_get xs i) Free ≡ Free
slot_read xs i d h at = ap (λ o. unwrap_or o Free) (slice_get-get_or xs i d h ∙ ap Some at)
