-- Events of modules that are gone leave.
use Rattle.std.proofs.Common.{◌≡◌, ℕ, ◌<◌, suc, length, ◌==◌, ◌||◌, not, Bool, true, false, true≢false, cond, List, [], ◌∷◌, Option, Some, None, refl, sym, ap, ◌∙◌, eqb-true, eq-eqb, arith}
use Rattle.std.specs.BTreeMap.{is_at}
use Rattle.std.specs.List.{filter}
use Rattle.std.specs.Map.{remove_entry}
use Rattle.std.specs.Option.{option_map}
use Rattle.event_set.specs.declared.entry.EventEntry.{EventEntry}
use Rattle.event_set.specs.declared.pending.Happening.{Happening}
use Rattle.event_set.specs.declared.pending.Happening.TheVariants.{Timer, Arrival, Delivery, Start}
use Rattle.event_set.specs.declared.pending.Pending.{Pending}
use Rattle.event_set.specs.declared.places.Key.{Key}
use Rattle.event_set.specs.declared.places.Mark.{Mark}
use Rattle.event_set.specs.Events.{Events, among, without_modules}
use Rattle.event_set.specs.Keys.{key_order, pending_of, list_of, id_of, what_of, mark_in, mark_of, module_of, at_key, AreSound}
use Rattle.event_set.specs.Order.{Each}
use Rattle.event_set.proofs.Order.{each_map}
use Rattle.event_set.proofs.Sets.{mark_there, own_places}

abbrev Held : Type 0
Held = List (Key × EventEntry)

abbrev Where : Type 0
Where = Mark → Option Key

-- the events of all other modules
abbrev others : List ℕ → List Pending → List Pending
others ids ps = filter (λ (p : Pending). not (among p.id ids)) ps

none_some : {X : Type 0} {x : X} → None ≡ Some x → ⊥
none_some h = cc

some_is : {X : Type 0} (a b : X) → Some a ≡ Some b → a ≡ b
some_is a b h = cc

-- ---- module by module

-- what leaves with one module and then with others leaves with all of them
one_then_others : (id : ℕ) (ids : List ℕ) (ps : List Pending) → others ids (others (id ∷ []) ps) ≡ others (id ∷ ids) ps
one_then_others id ids [] = refl
one_then_others id ids (p ∷ ps) = by (id == p.id) (among p.id ids) refl (one_then_others id ids ps)
  where
    by : (a c : Bool) → among p.id ids ≡ c → others ids (others (id ∷ []) ps) ≡ others (id ∷ ids) ps
        → others ids (cond (not (a || false)) (p ∷ others (id ∷ []) ps) (others (id ∷ []) ps)) ≡ cond (not (a || c)) (p ∷ others (id ∷ ids) ps) (others (id ∷ ids) ps)
    by true c e h = h
    by false true e h = ap (λ b. cond (not b) (p ∷ others ids (others (id ∷ []) ps)) (others ids (others (id ∷ []) ps))) e ∙ h
    by false false e h = ap (λ b. cond (not b) (p ∷ others ids (others (id ∷ []) ps)) (others ids (others (id ∷ []) ps))) e ∙ ap (λ qs. p ∷ qs) h

-- where no module is gone all stay
none_gone : (ps : List Pending) → others [] ps ≡ ps
none_gone [] = refl
none_gone (p ∷ ps) = ap (λ qs. p ∷ qs) (none_gone ps)

-- the same of sets
pub module_then_others : (id : ℕ) (ids ns : List ℕ) (e f : Events) → f ≡ without_modules (id ∷ []) e → ns ≡ id ∷ ids → without_modules ids f ≡ without_modules ns e
module_then_others id ids ns e f is all =
    ap (without_modules ids) is ∙ ap (λ ps. record { list = ps; next = e.next }) (one_then_others id ids e.list) ∙ ap (λ xs. without_modules xs e) (sym all)

pub no_modules : (e : Events) → without_modules [] e ≡ e
no_modules e = ap (λ ps. record { list = ps; next = e.next }) (none_gone e.list)

-- ---- one event

-- the module of a mark is the event's
module_in : (id number : ℕ) (what : Happening) → module_of (mark_in id number what) ≡ id
module_in id number (Timer timer kind) = refl
module_in id number (Arrival kind bits payload) = refl
module_in id number (Delivery delivery) = refl
module_in id number (Start last) = refl

left_by : (b c : Bool) (id : ℕ) (k : Key) (x : Key × EventEntry) (xs : Held) (e : EventEntry) → (id == id_of x.1) ≡ c → cond b (Some x.1) (at_key xs k) ≡ Some e → id_of e ≡ id
    → (at_key xs k ≡ Some e → others (id ∷ []) (list_of (remove_entry (is_at (key_order k)) xs)) ≡ others (id ∷ []) (list_of xs))
    → others (id ∷ []) (list_of (cond b xs (x ∷ remove_entry (is_at (key_order k)) xs))) ≡ cond (not (c || false)) (pending_of x ∷ others (id ∷ []) (list_of xs)) (others (id ∷ []) (list_of xs))
left_by true true id k x xs e same at of later = refl
left_by true false id k x xs e same at of later = absurd (true≢false (sym (eq-eqb id (id_of x.1) (sym of ∙ ap id_of (sym (some_is x.1 e at)))) ∙ same))
left_by false true id k x xs e same at of later = ap (λ c. cond (not (c || false)) (pending_of x ∷ others (id ∷ []) (list_of (remove_entry (is_at (key_order k)) xs))) (others (id ∷ []) (list_of (remove_entry (is_at (key_order k)) xs)))) same ∙ later at
left_by false false id k x xs e same at of later = ap (λ c. cond (not (c || false)) (pending_of x ∷ others (id ∷ []) (list_of (remove_entry (is_at (key_order k)) xs))) (others (id ∷ []) (list_of (remove_entry (is_at (key_order k)) xs)))) same ∙ ap (λ qs. pending_of x ∷ qs) (later at)

left_one : (id : ℕ) (k : Key) (es : Held) (e : EventEntry) → at_key es k ≡ Some e → id_of e ≡ id → others (id ∷ []) (list_of (remove_entry (is_at (key_order k)) es)) ≡ others (id ∷ []) (list_of es)
left_one id k [] e at of = absurd (none_some at)
left_one id k (x ∷ xs) e at of = left_by (is_at (key_order k) x.0) (id == id_of x.1) id k x xs e refl at of (λ there. left_one id k xs e there of)

left_at : (o : Option EventEntry) (id : ℕ) (es : Held) (ts : Where) (n : ℕ) (m : Mark) (k : Key) → AreSound es ts n → ts m ≡ Some k → module_of m ≡ id → at_key es k ≡ o → others (id ∷ []) (list_of (remove_entry (is_at (key_order k)) es)) ≡ others (id ∷ []) (list_of es)
left_at None id es ts n m k s there of at = absurd (none_some (sym (ap (option_map (mark_of k)) at) ∙ s.standing m k there))
left_at (Some e) id es ts n m k s there of at =
    let same : mark_of k e ≡ m = mark_there es k e m at (s.standing m k there) in
    left_one id k es e at (sym (module_in (id_of e) k.number (what_of e)) ∙ ap module_of same ∙ of)

-- where an event of the module leaves those of all others stay
pub others_left : (id : ℕ) (es : Held) (ts : Where) (n : ℕ) (m : Mark) (k : Key) → AreSound es ts n → ts m ≡ Some k → module_of m ≡ id → others (id ∷ []) (list_of (remove_entry (is_at (key_order k)) es)) ≡ others (id ∷ []) (list_of es)
others_left id es ts n m k s there of = left_at (at_key es k) id es ts n m k s there of refl

shorter_by : (b : Bool) (x : Key × EventEntry) (xs rest : Held) (o : Option EventEntry) (e : EventEntry) → cond b (Some x.1) o ≡ Some e → (o ≡ Some e → length (list_of rest) < length (list_of xs)) → length (list_of (cond b xs (x ∷ rest))) < suc (length (list_of xs))
shorter_by true x xs rest o e at later = omega arith
shorter_by false x xs rest o e at later = let less = later at in omega (arith, less)

shorter : (k : Key) (es : Held) (e : EventEntry) → at_key es k ≡ Some e → length (list_of (remove_entry (is_at (key_order k)) es)) < length (list_of es)
shorter k [] e at = absurd (none_some at)
shorter k (x ∷ xs) e at = shorter_by (is_at (key_order k) x.0) x xs (remove_entry (is_at (key_order k)) xs) (at_key xs k) e at (λ there. shorter k xs e there)

one_less_at : (o : Option EventEntry) (es : Held) (ts : Where) (n : ℕ) (m : Mark) (k : Key) → AreSound es ts n → ts m ≡ Some k → at_key es k ≡ o → length (list_of (remove_entry (is_at (key_order k)) es)) < length (list_of es)
one_less_at None es ts n m k s there at = absurd (none_some (sym (ap (option_map (mark_of k)) at) ∙ s.standing m k there))
one_less_at (Some e) es ts n m k s there at = shorter k es e at

-- where an event leaves there are fewer
pub one_less : (es : Held) (ts : Where) (n : ℕ) (m : Mark) (k : Key) → AreSound es ts n → ts m ≡ Some k → length (list_of (remove_entry (is_at (key_order k)) es)) < length (list_of es)
one_less es ts n m k s there = one_less_at (at_key es k) es ts n m k s there refl

-- ---- no more events

other_module : (id : ℕ) (es : Held) (ts : Where) (n : ℕ) → AreSound es ts n → ((m : Mark) → module_of m ≡ id → ts m ≡ None) → (x : Key × EventEntry) → at_key es x.0 ≡ Some x.1 → (c : Bool) → (id == id_of x.1) ≡ c → c ≡ false
other_module id es ts n s none x at false h = refl
other_module id es ts n s none x at true h =
    let of : module_of (mark_of x.0 x.1) ≡ id = module_in (id_of x.1) x.0.number (what_of x.1) ∙ sym (eqb-true id (id_of x.1) h) in
    absurd (none_some (sym (none (mark_of x.0 x.1) of) ∙ s.placed x.0 x.1 at))

all_stay : (id : ℕ) (es : Held) → Each (λ (x : Key × EventEntry). (id == id_of x.1) ≡ false) es → others (id ∷ []) (list_of es) ≡ list_of es
all_stay id [] h = refl
all_stay id (x ∷ xs) h = ap (λ c. cond (not (c || false)) (pending_of x ∷ others (id ∷ []) (list_of xs)) (others (id ∷ []) (list_of xs))) h.0 ∙ ap (λ qs. pending_of x ∷ qs) (all_stay id xs h.1)

-- where none of the module's events stands anywhere, all events are those of others
pub none_left : (id : ℕ) (es : Held) (ts : Where) (n : ℕ) → AreSound es ts n → ((m : Mark) → module_of m ≡ id → ts m ≡ None) → others (id ∷ []) (list_of es) ≡ list_of es
none_left id es ts n s none =
    all_stay id es (each_map (λ (x : Key × EventEntry). at_key es x.0 ≡ Some x.1) (λ (x : Key × EventEntry). (id == id_of x.1) ≡ false) es
    (λ x at. other_module id es ts n s none x at (id == id_of x.1) refl) (own_places es s.ordered))
