-- What the tree of events and the places by modules say of the list of events.
use Rattle.std.proofs.Common.{◌≡◌, ◌⊎◌, inl, inr, ⊎_elim, ℕ, ◌+◌, ◌<◌, Bool, true, false, true≢false, cond, List, [], ◌∷◌, Option, Some, None, refl, sym, ap, ◌∙◌, ◌==◌, ◌&&◌, ◌||◌, if◌then◌else◌, arith, subst, is_some, eqb-true, eq-eqb}
use Rattle.std.specs.declared.cmp.Ordering.{Ordering}
use Rattle.std.specs.declared.cmp.Ordering.TheVariants.{Less, Equal, Greater}
use Rattle.std.specs.Ordering.{is_lt, match_ordering, ordering_reverse}
use Rattle.std.specs.BTreeMap.{is_at, insert_entry}
use Rattle.std.specs.List.{AllByRecursion}
use Rattle.std.specs.List.Sorted.{IsStrictlySortedBy}
use Rattle.std.specs.Map.{keys_of, remove_entry}
use Rattle.std.specs.Option.{option_map}
use Rattle.event_set.specs.declared.pending.Happening.{Happening}
use Rattle.event_set.specs.declared.pending.Happening.TheVariants.{Timer, Arrival, Delivery, Start}
use Rattle.event_set.specs.declared.pending.Pending.{Pending}
use Rattle.event_set.specs.declared.entry.EventEntry.{EventEntry}
use Rattle.event_set.specs.declared.places.Key.{Key}
use Rattle.event_set.specs.declared.places.TimerKey.{TimerKey}
use Rattle.event_set.specs.declared.places.MessageKey.{MessageKey}
use Rattle.event_set.specs.declared.places.Mark.{Mark}
use Rattle.event_set.specs.declared.places.Mark.TheVariants as mark
use Rattle.event_set.specs.Keys.{key_order, pending_of, list_of, id_of, what_of, mark_in, mark_of, same_mark, at_key, AreSound, with_mark, without_mark}
use Rattle.event_set.specs.Order.{comes_before, inserted, Each, AreInOrder}
use Rattle.event_set.specs.Timers.{is_timer, is_timer_number, has_timer, is_pending, without_timer}
use Rattle.event_set.proofs.Order.{each_map}
use Rattle.event_set.proofs.Keys.{key_total, key_at, key_itself, mark_at, mark_itself, before_is, equal_numbers}

abbrev Held : Type 0
Held = List (Key × EventEntry)

abbrev Where : Type 0
Where = Mark → Option Key

-- ---- one more event

-- a number that is less is another
less_differs : (m n : ℕ) → m < n → n ≡ m → ⊥
less_differs m n h e = omega (arith, h, e)

by_order : (o : Ordering) (k : Key) (e : EventEntry) (x : Key × EventEntry) (xs rest : Held) (list : List Pending) → key_order k x.0 ≡ o → x.0.number < k.number → list_of rest ≡ list
    → list_of (match_ordering o ((k, e) ∷ x ∷ xs) ((x.0, e) ∷ xs) (x ∷ rest)) ≡ (if is_lt o then pending_of (k, e) ∷ list_of (x ∷ xs) else pending_of x ∷ list)
by_order Less k e x xs rest list h below t = refl
by_order Equal k e x xs rest list h below t = absurd (less_differs x.0.number k.number below (equal_numbers k x.0 h))
by_order Greater k e x xs rest list h below t = ap (λ ps. pending_of x ∷ ps) t

-- the entry goes where the list has the event
pub list_inserted : (k : Key) (e : EventEntry) (es : Held) → Each (λ (x : Key × EventEntry). x.0.number < k.number) es → list_of (insert_entry key_order es k e) ≡ inserted (pending_of (k, e)) (list_of es)
list_inserted k e [] h = refl
list_inserted k e (x ∷ xs) h =
    by_order (key_order k x.0) k e x xs (insert_entry key_order xs k e) (inserted (pending_of (k, e)) (list_of xs)) refl h.0 (list_inserted k e xs h.1)
    ∙ ap (λ b. if b then pending_of (k, e) ∷ list_of (x ∷ xs) else pending_of x ∷ inserted (pending_of (k, e)) (list_of xs)) (sym (before_is k x.0 e x.1))

each_order : (P : Key × EventEntry → Type 0) (o : Ordering) (k : Key) (e : EventEntry) (x : Key × EventEntry) (xs rest : Held) → P (k, e) → P (x.0, e) → P x → Each P xs → Each P rest → Each P (match_ordering o ((k, e) ∷ x ∷ xs) ((x.0, e) ∷ xs) (x ∷ rest))
each_order P Less k e x xs rest n s p h r = (n, (p, h))
each_order P Equal k e x xs rest n s p h r = (s, h)
each_order P Greater k e x xs rest n s p h r = (p, r)

below_more : (k : Key) (e : EventEntry) (n : ℕ) (es : Held) → k.number < n → Each (λ (x : Key × EventEntry). x.0.number < n) es → Each (λ (x : Key × EventEntry). x.0.number < n) (insert_entry key_order es k e)
below_more k e n [] h b = (h, tt)
below_more k e n (x ∷ xs) h b = each_order (λ (y : Key × EventEntry). y.0.number < n) (key_order k x.0) k e x xs (insert_entry key_order xs k e) h b.0 b.0 b.1 (below_more k e n xs h b.1)

-- ---- entries stand at their keys

places_more : (x : Key × EventEntry) (all ys : Held) → AllByRecursion (λ q. key_order x.0 q ≡ Less) (keys_of ys) → Each (λ (y : Key × EventEntry). at_key all y.0 ≡ Some y.1) ys → Each (λ (y : Key × EventEntry). at_key (x ∷ all) y.0 ≡ Some y.1) ys
places_more x all [] h p = tt
places_more x all (y ∷ ys) h p =
    let turned : key_order y.0 x.0 ≡ Greater = key_total.antisymm y.0 x.0 ∙ ap ordering_reverse h.0 in
    (rw turned p.0, places_more x all ys h.1 p.1)

pub own_places : (es : Held) → IsStrictlySortedBy key_order (keys_of es) → Each (λ (y : Key × EventEntry). at_key es y.0 ≡ Some y.1) es
unfolding IsStrictlySortedBy
own_places [] h = tt
own_places (x ∷ xs) h = (rw (key_itself x.0) refl, places_more x xs xs h.0 (own_places xs h.1))

-- ---- timers

and_is : (a b : Bool) → a && b ≡ true → (a ≡ true) × (b ≡ true)
and_is true b h = (refl, h)
and_is false b h = cc

no_and : (a : Bool) → a && false ≡ true → ⊥
no_and true h = true≢false (sym h)
no_and false h = true≢false (sym h)

number_is : (id timer : ℕ) (other n : ℕ) (what : Happening) → (other == id) && is_timer_number timer what ≡ true → mark_in other n what ≡ mark.Timer (record { id = id; timer = timer })
number_is id timer other n (Timer number kind) h =
    let both = and_is (other == id) (number == timer) h in
    let one : other ≡ id = eqb-true other id both.0 in
    let two : number ≡ timer = eqb-true number timer both.1 in
    λ i. mark.Timer (record { id = one i; timer = two i })
number_is id timer other n (Arrival kind bits payload) h = absurd (no_and (other == id) h)
number_is id timer other n (Delivery delivery) h = absurd (no_and (other == id) h)
number_is id timer other n (Start last) h = absurd (no_and (other == id) h)

-- what a mark has of a timer
abbrev timer_in : TimerKey → Mark → TimerKey
timer_in d (mark.Timer t) = t
timer_in d (mark.Message m) = d

is_number : (t : TimerKey) (other n : ℕ) (what : Happening) → mark_in other n what ≡ mark.Timer t → (other == t.id) && is_timer_number t.timer what ≡ true
is_number t other n (Timer number kind) h =
    let one : other ≡ t.id = ap (λ (m : Mark). (timer_in t m).id) h in
    let two : number ≡ t.timer = ap (λ (m : Mark). (timer_in t m).timer) h in
    rw (eq-eqb other t.id one) (eq-eqb number t.timer two)
is_number t other n (Arrival kind bits payload) h = cc
is_number t other n (Delivery delivery) h = cc
is_number t other n (Start last) h = cc

some_is : {X : Type 0} (a b : X) → Some a ≡ Some b → a ≡ b
some_is a b h = cc

-- what stands where the place is known
pub mark_there : (es : Held) (k : Key) (e : EventEntry) (m : Mark) → at_key es k ≡ Some e → option_map (mark_of k) (at_key es k) ≡ Some m → mark_of k e ≡ m
mark_there es k e m h s = some_is (mark_of k e) m (ap (option_map (mark_of k)) (sym h) ∙ s)

-- of a timer that stands somewhere: the two tests are the same
same_by : (es : Held) (ts : Where) (n : ℕ) (t : TimerKey) (k : Key) → AreSound es ts n → ts (mark.Timer t) ≡ Some k → (x : Key × EventEntry) → at_key es x.0 ≡ Some x.1
    → (a b : Bool) → is_timer t.id t.timer (pending_of x) ≡ a → is_at (key_order k) x.0 ≡ b → a ≡ b
same_by es ts n t k s h x at true true p q = refl
same_by es ts n t k s h x at false false p q = refl
same_by es ts n t k s h x at true false p q =
    let there : ts (mark.Timer t) ≡ Some x.0 = ap ts (sym (number_is t.id t.timer (id_of x.1) x.0.number (what_of x.1) p)) ∙ s.placed x.0 x.1 at in
    let same : k ≡ x.0 = some_is k x.0 (sym h ∙ there) in
    absurd (true≢false (sym (key_itself k) ∙ ap (λ q. is_at (key_order k) q) same ∙ q))
same_by es ts n t k s h x at false true p q =
    let same : k ≡ x.0 = key_at k x.0 q in
    let here : mark_of x.0 x.1 ≡ mark.Timer t = mark_there es x.0 x.1 (mark.Timer t) at (subst (λ j. option_map (mark_of j) (at_key es j) ≡ Some (mark.Timer t)) same (s.standing (mark.Timer t) k h)) in
    absurd (true≢false (sym (is_number t (id_of x.1) x.0.number (what_of x.1) here) ∙ p))

abbrev SameTests : TimerKey → Key → Held → Type 0
SameTests t k es = Each (λ (x : Key × EventEntry). is_timer t.id t.timer (pending_of x) ≡ is_at (key_order k) x.0) es

same_tests : (es : Held) (ts : Where) (n : ℕ) (t : TimerKey) (k : Key) → AreSound es ts n → ts (mark.Timer t) ≡ Some k → SameTests t k es
same_tests es ts n t k s h =
    each_map (λ (x : Key × EventEntry). at_key es x.0 ≡ Some x.1) (λ (x : Key × EventEntry). is_timer t.id t.timer (pending_of x) ≡ is_at (key_order k) x.0) es
    (λ x at. same_by es ts n t k s h x at (is_timer t.id t.timer (pending_of x)) (is_at (key_order k) x.0) refl refl) (own_places es s.ordered)

none_by : (es : Held) (ts : Where) (n : ℕ) (t : TimerKey) → AreSound es ts n → ts (mark.Timer t) ≡ None → (x : Key × EventEntry) → at_key es x.0 ≡ Some x.1 → (a : Bool) → is_timer t.id t.timer (pending_of x) ≡ a → a ≡ false
none_by es ts n t s h x at false p = refl
none_by es ts n t s h x at true p =
    let there : ts (mark.Timer t) ≡ Some x.0 = ap ts (sym (number_is t.id t.timer (id_of x.1) x.0.number (what_of x.1) p)) ∙ s.placed x.0 x.1 at in cc

abbrev NoTests : TimerKey → Held → Type 0
NoTests t es = Each (λ (x : Key × EventEntry). is_timer t.id t.timer (pending_of x) ≡ false) es

no_tests : (es : Held) (ts : Where) (n : ℕ) (t : TimerKey) → AreSound es ts n → ts (mark.Timer t) ≡ None → NoTests t es
no_tests es ts n t s h =
    each_map (λ (x : Key × EventEntry). at_key es x.0 ≡ Some x.1) (λ (x : Key × EventEntry). is_timer t.id t.timer (pending_of x) ≡ false) es
    (λ x at. none_by es ts n t s h x at (is_timer t.id t.timer (pending_of x)) refl) (own_places es s.ordered)

-- ---- whether a timer is pending

any_none : (t : TimerKey) (es : Held) → NoTests t es → has_timer t.id t.timer (list_of es) ≡ false
any_none t [] h = refl
any_none t (x ∷ xs) h = rw h.0 (any_none t xs h.1)

any_by : (b : Bool) (t : TimerKey) (k : Key) (e : EventEntry) (xs : Held) → has_timer t.id t.timer (list_of xs) ≡ is_some (at_key xs k) → b || has_timer t.id t.timer (list_of xs) ≡ is_some (cond b (Some e) (at_key xs k))
any_by true t k e xs h = refl
any_by false t k e xs h = h

any_some : (t : TimerKey) (k : Key) (es : Held) → SameTests t k es → has_timer t.id t.timer (list_of es) ≡ is_some (at_key es k)
any_some t k [] h = refl
any_some t k (x ∷ xs) h = rw h.0 (any_by (is_at (key_order k) x.0) t k x.1 xs (any_some t k xs h.1))

there_is : (o : Option EventEntry) (k : Key) (m : Mark) → option_map (mark_of k) o ≡ Some m → is_some o ≡ true
there_is None k m h = cc
there_is (Some e) k m h = refl

has_by : (o : Option Key) (es : Held) (ts : Where) (n : ℕ) (t : TimerKey) → AreSound es ts n → ts (mark.Timer t) ≡ o → is_some o ≡ has_timer t.id t.timer (list_of es)
has_by None es ts n t s h = sym (any_none t es (no_tests es ts n t s h))
has_by (Some k) es ts n t s h = sym (any_some t k es (same_tests es ts n t k s h) ∙ there_is (at_key es k) k (mark.Timer t) (s.standing (mark.Timer t) k h))

-- it is known which timers are pending
pub has : (es : Held) (ts : Where) (n : ℕ) (t : TimerKey) → AreSound es ts n → is_some (ts (mark.Timer t)) ≡ has_timer t.id t.timer (list_of es)
has es ts n t s = has_by (ts (mark.Timer t)) es ts n t s refl

-- ---- one less

removed_by : (b : Bool) (p : Pending) (x : Key × EventEntry) (xs rest : Held) (list : List Pending) → list_of rest ≡ list → list_of (cond b xs (x ∷ rest)) ≡ (if b then list_of xs else pending_of x ∷ list)
removed_by true p x xs rest list h = refl
removed_by false p x xs rest list h = ap (λ ps. pending_of x ∷ ps) h

same_removed : (t : TimerKey) (k : Key) (es : Held) → SameTests t k es → list_of (remove_entry (is_at (key_order k)) es) ≡ without_timer t.id t.timer (list_of es)
same_removed t k [] h = refl
same_removed t k (x ∷ xs) h = rw h.0 (removed_by (is_at (key_order k) x.0) (pending_of x) x xs (remove_entry (is_at (key_order k)) xs) (without_timer t.id t.timer (list_of xs)) (same_removed t k xs h.1))

-- the entry that leaves is the event that leaves
pub list_removed : (es : Held) (ts : Where) (n : ℕ) (t : TimerKey) (k : Key) → AreSound es ts n → ts (mark.Timer t) ≡ Some k → list_of (remove_entry (is_at (key_order k)) es) ≡ without_timer t.id t.timer (list_of es)
list_removed es ts n t k s h = same_removed t k es (same_tests es ts n t k s h)

none_removed : (t : TimerKey) (es : Held) → NoTests t es → without_timer t.id t.timer (list_of es) ≡ list_of es
none_removed t [] h = refl
none_removed t (x ∷ xs) h = rw h.0 (ap (λ ps. pending_of x ∷ ps) (none_removed t xs h.1))

pub list_kept : (es : Held) (ts : Where) (n : ℕ) (t : TimerKey) → AreSound es ts n → ts (mark.Timer t) ≡ None → without_timer t.id t.timer (list_of es) ≡ list_of es
list_kept es ts n t s h = none_removed t es (no_tests es ts n t s h)

below_by : (b : Bool) (n : ℕ) (x : Key × EventEntry) (xs rest : Held) → x.0.number < n → Each (λ (y : Key × EventEntry). y.0.number < n) xs → Each (λ (y : Key × EventEntry). y.0.number < n) rest → Each (λ (y : Key × EventEntry). y.0.number < n) (cond b xs (x ∷ rest))
below_by true n x xs rest p h r = h
below_by false n x xs rest p h r = (p, r)

below_less : (test : Key → Bool) (n : ℕ) (es : Held) → Each (λ (y : Key × EventEntry). y.0.number < n) es → Each (λ (y : Key × EventEntry). y.0.number < n) (remove_entry test es)
below_less test n [] h = tt
below_less test n (x ∷ xs) h = below_by (test x.0) n x xs (remove_entry test xs) h.0 h.1 (below_less test n xs h.1)

-- ---- all stays sound

fresh_by : (b : Bool) (k : Key) (x : Key × EventEntry) (rest : Option EventEntry) → is_at (key_order k) x.0 ≡ b → x.0.number < k.number → rest ≡ None → cond b (Some x.1) rest ≡ None
fresh_by true k x rest h below r = absurd (less_differs x.0.number k.number below (ap (λ (q : Key). q.number) (key_at k x.0 h)))
fresh_by false k x rest h below r = r

-- no entry stands at a key of a greater number
fresh : (k : Key) (es : Held) → Each (λ (x : Key × EventEntry). x.0.number < k.number) es → at_key es k ≡ None
fresh k [] h = refl
fresh k (x ∷ xs) h = fresh_by (is_at (key_order k) x.0) k x (at_key xs k) refl h.0 (fresh k xs h.1)

none_some : {X : Type 0} {x : X} → None ≡ Some x → ⊥
none_some h = cc

-- what stands at a place after one more, by whether it is the new one's
new_there : (b : Bool) (k q : Key) (e f : EventEntry) (o : Option EventEntry) → is_at (key_order k) q ≡ b → cond b (Some e) o ≡ Some f → ((k ≡ q) × (e ≡ f)) ⊎ ((b ≡ false) × (o ≡ Some f))
new_there true k q e f o h p = inl (key_at k q h, some_is e f p)
new_there false k q e f o h p = inr (refl, p)

-- another mark's event stands where it stood
other_mark : (b : Bool) (u m : Mark) (k q : Key) (ts : Where) → same_mark u m ≡ b → ts u ≡ None → ts m ≡ Some q → cond b (Some k) (ts m) ≡ Some q
other_mark true u m k q ts h free there = absurd (none_some (sym free ∙ ap ts (mark_at u m h) ∙ there))
other_mark false u m k q ts h free there = there

marked_by : (b : Bool) (u m : Mark) (k q : Key) (ts : Where) → same_mark u m ≡ b → cond b (Some k) (ts m) ≡ Some q → ((u ≡ m) × (k ≡ q)) ⊎ (ts m ≡ Some q)
marked_by true u m k q ts h p = inl (mark_at u m h, some_is k q p)
marked_by false u m k q ts h p = inr p

-- a mark is found at itself
marked_new : (u m : Mark) (k : Key) (ts : Where) → u ≡ m → with_mark u k ts m ≡ Some k
marked_new u m k ts h = ap (λ (x : Mark). with_mark u k ts x) (sym h) ∙ ap (λ b. cond b (Some k) (ts u)) (mark_itself u)

-- what stood at a place stands there still
still_by : (b : Bool) (k q : Key) (e : EventEntry) (m : Mark) (es : Held) → is_at (key_order k) q ≡ b → at_key es k ≡ None → option_map (mark_of q) (at_key es q) ≡ Some m → option_map (mark_of q) (cond b (Some e) (at_key es q)) ≡ Some m
still_by true k q e m es h none s =
    let here : at_key es q ≡ None = ap (at_key es) (sym (key_at k q h)) ∙ none in
    absurd (none_some (sym (ap (option_map (mark_of q)) here) ∙ s))
still_by false k q e m es h none s = s

-- one more entry, whose mark is new
pub sound_more : (es fs : Held) (ts us : Where) (n : ℕ) (k : Key) (e : EventEntry) → AreSound es ts n → k.number ≡ n → ts (mark_of k e) ≡ None → fs ≡ insert_entry key_order es k e → IsStrictlySortedBy key_order (keys_of fs)
    → ((q : Key) → at_key fs q ≡ cond (is_at (key_order k) q) (Some e) (at_key es q)) → ((m : Mark) → us m ≡ with_mark (mark_of k e) k ts m) → AreSound fs us (n + 1)
sound_more es fs ts us n k e s number free is ordered looks places = record {
  ordered = ordered;
  below = subst (Each (λ (x : Key × EventEntry). x.0.number < n + 1)) (sym is) (below_more k e (n + 1) es (omega (arith, number)) (each_map (λ (x : Key × EventEntry). x.0.number < n) (λ (x : Key × EventEntry). x.0.number < n + 1) es (λ x h. omega (arith, h)) s.below));
  placed = λ q f at. places (mark_of q f) ∙ ⊎_elim
      (λ (h : (k ≡ q) × (e ≡ f)). marked_new (mark_of k e) (mark_of q f) k ts (λ i. mark_of (h.0 i) (h.1 i)) ∙ ap Some h.0)
      (λ (h : (is_at (key_order k) q ≡ false) × (at_key es q ≡ Some f)). other_mark (same_mark (mark_of k e) (mark_of q f)) (mark_of k e) (mark_of q f) k q ts refl free (s.placed q f h.1))
      (new_there (is_at (key_order k) q) k q e f (at_key es q) refl (sym (looks q) ∙ at));
  standing = λ m q at. ap (option_map (mark_of q)) (looks q) ∙ ⊎_elim
      (λ (h : (mark_of k e ≡ m) × (k ≡ q)). ap (λ b. option_map (mark_of q) (cond b (Some e) (at_key es q))) (ap (λ x. is_at (key_order k) x) (sym h.1) ∙ key_itself k) ∙ ap (λ (x : Key). Some (mark_of x e)) (sym h.1) ∙ ap Some h.0)
      (λ (h : ts m ≡ Some q). still_by (is_at (key_order k) q) k q e m es refl (fresh k es (subst (λ i. Each (λ (x : Key × EventEntry). x.0.number < i) es) (sym number) s.below)) (s.standing m q h))
      (marked_by (same_mark (mark_of k e) m) (mark_of k e) m k q ts refl (sym (places m) ∙ at));
}

-- nothing has changed, where events stand as they stood
pub sound_same : (es : Held) (ts us : Where) (n : ℕ) → AreSound es ts n → ((m : Mark) → us m ≡ ts m) → AreSound es us n
sound_same es ts us n s places = record {
  ordered = s.ordered;
  below = s.below;
  placed = λ q f at. places (mark_of q f) ∙ s.placed q f at;
  standing = λ m q at. s.standing m q (sym (places m) ∙ at);
}

kept_by : (b : Bool) (u m : Mark) (ts : Where) → same_mark u m ≡ b → ts u ≡ None → cond b None (ts m) ≡ ts m
kept_by true u m ts h none = sym none ∙ ap ts (mark_at u m h)
kept_by false u m ts h none = refl

-- without a mark that is nowhere
pub sound_kept : (es : Held) (ts us : Where) (n : ℕ) (u : Mark) → AreSound es ts n → ts u ≡ None → ((m : Mark) → us m ≡ without_mark u ts m) → AreSound es us n
sound_kept es ts us n u s none places = sound_same es ts us n s (λ m. places m ∙ kept_by (same_mark u m) u m ts refl none)

gone_there : (b : Bool) (k q : Key) (f : EventEntry) (o : Option EventEntry) → is_at (key_order k) q ≡ b → cond b None o ≡ Some f → (b ≡ false) × (o ≡ Some f)
gone_there true k q f o h p = absurd (none_some p)
gone_there false k q f o h p = (refl, p)

forgotten_by : (b : Bool) (u m : Mark) (k q : Key) (ts : Where) → same_mark u m ≡ b → is_at (key_order k) q ≡ false → ts u ≡ Some k → ts m ≡ Some q → cond b None (ts m) ≡ Some q
forgotten_by true u m k q ts h apart one two = absurd (true≢false (sym (key_itself k) ∙ ap (λ x. is_at (key_order k) x) (some_is k q (sym one ∙ ap ts (mark_at u m h) ∙ two)) ∙ apart))
forgotten_by false u m k q ts h apart one two = two

left_by : (b : Bool) (m : Mark) (q : Key) (ts : Where) → cond b None (ts m) ≡ Some q → (b ≡ false) × (ts m ≡ Some q)
left_by true m q ts p = absurd (none_some p)
left_by false m q ts p = (refl, p)

stays_by : (b : Bool) (k q : Key) (e : EventEntry) (m : Mark) (es : Held) → is_at (key_order k) q ≡ b → at_key es k ≡ Some e → (mark_of k e ≡ m → ⊥) → option_map (mark_of q) (at_key es q) ≡ Some m → option_map (mark_of q) (cond b None (at_key es q)) ≡ Some m
stays_by true k q e m es h at other s =
    let same : k ≡ q = key_at k q h in
    absurd (other (mark_there es k e m at (subst (λ (x : Key). option_map (mark_of x) (at_key es x) ≡ Some m) (sym same) s)))
stays_by false k q e m es h at other s = s

-- one entry less, and its mark with it
pub sound_less : (es fs : Held) (ts us : Where) (n : ℕ) (k : Key) (e : EventEntry) → AreSound es ts n → at_key es k ≡ Some e → Each (λ (x : Key × EventEntry). x.0.number < n) fs → IsStrictlySortedBy key_order (keys_of fs)
    → ((q : Key) → at_key fs q ≡ cond (is_at (key_order k) q) None (at_key es q)) → ((m : Mark) → us m ≡ without_mark (mark_of k e) ts m) → AreSound fs us n
sound_less es fs ts us n k e s here below ordered looks places = record {
  ordered = ordered;
  below = below;
  placed = λ q f at.
      let was = gone_there (is_at (key_order k) q) k q f (at_key es q) refl (sym (looks q) ∙ at) in
      places (mark_of q f) ∙ forgotten_by (same_mark (mark_of k e) (mark_of q f)) (mark_of k e) (mark_of q f) k q ts refl was.0 (s.placed k e here) (s.placed q f was.1);
  standing = λ m q at.
      let was = left_by (same_mark (mark_of k e) m) m q ts (sym (places m) ∙ at) in
      ap (option_map (mark_of q)) (looks q)
      ∙ stays_by (is_at (key_order k) q) k q e m es refl here (λ same. true≢false (sym (mark_itself m) ∙ ap (λ (x : Mark). same_mark x m) (sym same) ∙ was.0)) (s.standing m q was.1);
}

cancelled_by : (o : Option EventEntry) (es fs : Held) (ts us : Where) (n : ℕ) (m : Mark) (k : Key) → AreSound es ts n → ts m ≡ Some k → fs ≡ remove_entry (is_at (key_order k)) es → IsStrictlySortedBy key_order (keys_of fs)
    → ((q : Key) → at_key fs q ≡ cond (is_at (key_order k) q) None (at_key es q)) → ((q : Mark) → us q ≡ without_mark m ts q) → at_key es k ≡ o → AreSound fs us n
cancelled_by None es fs ts us n m k s there is ordered looks places at = absurd (none_some (sym (ap (option_map (mark_of k)) at) ∙ s.standing m k there))
cancelled_by (Some e) es fs ts us n m k s there is ordered looks places at =
    let same : mark_of k e ≡ m = mark_there es k e m at (s.standing m k there) in
    sound_less es fs ts us n k e s at (subst (Each (λ (x : Key × EventEntry). x.0.number < n)) (sym is) (below_less (is_at (key_order k)) n es s.below)) ordered looks (λ q. places q ∙ ap (λ (x : Mark). without_mark x ts q) (sym same))

-- without an event that stood at a place
pub sound_cancelled : (es fs : Held) (ts us : Where) (n : ℕ) (m : Mark) (k : Key) → AreSound es ts n → ts m ≡ Some k → fs ≡ remove_entry (is_at (key_order k)) es → IsStrictlySortedBy key_order (keys_of fs)
    → ((q : Key) → at_key fs q ≡ cond (is_at (key_order k) q) None (at_key es q)) → ((q : Mark) → us q ≡ without_mark m ts q) → AreSound fs us n
sound_cancelled es fs ts us n m k s there is ordered looks places = cancelled_by (at_key es k) es fs ts us n m k s there is ordered looks places refl

-- ---- an insertion

none_if : {X : Type 0} (o : Option X) → is_some o ≡ false → o ≡ None
none_if None h = refl
none_if (Some x) h = absurd (true≢false h)

abbrev number_of : ℕ → Mark → ℕ
number_of d (mark.Timer t) = d
number_of d (mark.Message m) = m.number

abbrev IsMessage : Mark → Type 0
IsMessage (mark.Timer t) = ⊥
IsMessage (mark.Message m) = Unit {0}

-- a message's mark has the number of its place
number_in : (id number : ℕ) (what : Happening) (m : MessageKey) → mark_in id number what ≡ mark.Message m → number ≡ m.number
number_in id number (Timer timer kind) m h = absurd (subst IsMessage (sym h) tt)
number_in id number (Arrival kind bits payload) m h = ap (number_of number) h
number_in id number (Delivery delivery) m h = ap (number_of number) h
number_in id number (Start last) m h = ap (number_of number) h

new_by : (p : Option EventEntry) (es : Held) (ts : Where) (n : ℕ) (m : MessageKey) → m.number ≡ n → AreSound es ts n → (k : Key) → ts (mark.Message m) ≡ Some k → at_key es k ≡ p → ⊥
new_by None es ts n m next s k there at = none_some (sym (ap (option_map (mark_of k)) at) ∙ s.standing (mark.Message m) k there)
new_by (Some e) es ts n m next s k there at =
    let same : mark_of k e ≡ mark.Message m = mark_there es k e (mark.Message m) at (s.standing (mark.Message m) k there) in
    let number : k.number ≡ n = number_in (id_of e) k.number (what_of e) m same ∙ next in
    none_some (sym (fresh k es (subst (λ i. Each (λ (x : Key × EventEntry). x.0.number < i) es) (sym number) s.below)) ∙ at)

new_message_by : (o : Option Key) (es : Held) (ts : Where) (n : ℕ) (m : MessageKey) → m.number ≡ n → AreSound es ts n → ts (mark.Message m) ≡ o → o ≡ None
new_message_by None es ts n m next s h = refl
new_message_by (Some k) es ts n m next s h = absurd (new_by (at_key es k) es ts n m next s k h refl)

-- no message has the next number
new_message : (es : Held) (ts : Where) (n : ℕ) (id : ℕ) → AreSound es ts n → ts (mark.Message (record { id = id; number = n })) ≡ None
new_message es ts n id s = new_message_by (ts (mark.Message (record { id = id; number = n }))) es ts n (record { id = id; number = n }) refl s refl

-- what isn't pending stands nowhere
pub free_if : (es : Held) (ts : Where) (n : ℕ) (id : ℕ) (what : Happening) → AreSound es ts n → is_pending id what (list_of es) ≡ false → ts (mark_in id n what) ≡ None
free_if es ts n id (Timer timer kind) s h = none_if (ts (mark.Timer (record { id = id; timer = timer }))) (has es ts n (record { id = id; timer = timer }) s ∙ h)
free_if es ts n id (Arrival kind bits payload) s h = new_message es ts n id s
free_if es ts n id (Delivery delivery) s h = new_message es ts n id s
free_if es ts n id (Start last) s h = new_message es ts n id s

undone_by : (b : Bool) (u m : Mark) (k : Key) (ts mid : Where) → same_mark u m ≡ b → ts u ≡ None → mid m ≡ cond b (Some k) (ts m) → cond b None (mid m) ≡ ts m
undone_by true u m k ts mid h free is = sym free ∙ ap ts (mark_at u m h)
undone_by false u m k ts mid h free is = is

-- where the entry found no room, its mark is forgotten again
pub sound_undone : (es fs : Held) (ts mid us : Where) (n : ℕ) (u : Mark) (k : Key) → AreSound es ts n → fs ≡ es → ts u ≡ None → ((q : Mark) → mid q ≡ with_mark u k ts q)
    → ((q : Mark) → us q ≡ without_mark u mid q) → AreSound fs us n
sound_undone es fs ts mid us n u k s is free noted forgotten =
    subst (λ gs. AreSound gs us n) (sym is) (sound_same es ts us n s (λ m. forgotten m ∙ undone_by (same_mark u m) u m k ts mid refl free (noted m)))

-- ---- the list is in order

before_all : (x : Key × EventEntry) (es : Held) → AllByRecursion (λ q. key_order x.0 q ≡ Less) (keys_of es) → Each (λ p. comes_before (pending_of x) p ≡ true) (list_of es)
before_all x [] h = tt
before_all x (y ∷ ys) h = (before_is x.0 y.0 x.1 y.1 ∙ ap is_lt h.0, before_all x ys h.1)

pub in_order : (es : Held) → IsStrictlySortedBy key_order (keys_of es) → AreInOrder (list_of es)
unfolding IsStrictlySortedBy
in_order [] h = tt
in_order (x ∷ xs) h = (before_all x xs h.0, in_order xs h.1)

pub all_below : (n : ℕ) (es : Held) → Each (λ (x : Key × EventEntry). x.0.number < n) es → Each (λ (p : Pending). p.number < n) (list_of es)
all_below n [] h = tt
all_below n (x ∷ xs) h = (h.0, all_below n xs h.1)
