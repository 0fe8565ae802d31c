-- The first positions, those up to an event, and those that stay where there is one too many.
use Rattle.std.proofs.Common.{◌≡◌, ℕ, zero, suc, ◌+◌, ◌-◌, ◌*◌, ◌^◌, ◌≤◌, ◌<◌, ◌==◌, nat_le, min, Bool, true, false, cond, List, [], ◌∷◌, ◌++◌, None, Option, Some, length, take, drop, get_or, slice_get, map, refl, sym, ap, ◌∙◌, arith, subst}
use Rattle.std.specs.List.{filter}
use Rattle.std.proofs.Math.Seq.{drop-cons}
use Rattle.std.proofs.lemmas.Bool.Decides.{nat_tests}
use Rattle.std.proofs.lemmas.List.{drop_all}
use Rattle.kernel_actions.specs.declared.position.Position.{Position}
use Rattle.checkpoints.specs.Stored.{counts_of, up_to, last_of, number_up_to, doubled, ends_at, left, stays, AreBelow, AreAbove, AreRising, AreStored, Timeline}

after : (m n : ℕ) → n < m → nat_le m n ≡ false
after m n h = grind (arith, nat_tests)

is_after : (m n : ℕ) → nat_le m n ≡ false → n < m
is_after m n h = grind (arith, nat_tests)

-- none is up to an event, where all are after it
none_up_to : (event n : ℕ) (ps : List Position) → event < n → AreAbove n ps → up_to event ps ≡ []
none_up_to event n [] less h = refl
none_up_to event n (p ∷ ps) less h = rw (after p.count event (omega (arith, less, h.0))) (none_up_to event n ps less h.1)

-- THOSE UP TO AN EVENT are the first ones
first_up_to : (event : ℕ) (ps : List Position) → AreRising ps → take (number_up_to event (counts_of ps)) ps ≡ up_to event ps
first_up_to event [] r = refl
first_up_to event (p ∷ ps) r = by (nat_le p.count event) refl (first_up_to event ps r.1)
  where
    by : (t : Bool) → nat_le p.count event ≡ t → take (number_up_to event (counts_of ps)) ps ≡ up_to event ps
        → take (cond t (suc (number_up_to event (counts_of ps))) zero) (p ∷ ps) ≡ cond t (p ∷ up_to event ps) (up_to event ps)
    by true t e = ap (λ qs. p ∷ qs) e
    by false t e = sym (none_up_to event p.count ps (is_after p.count event t) r.0)

-- there are no more than all
up_to_few : (event : ℕ) (ps : List Position) → number_up_to event (counts_of ps) ≤ length ps
up_to_few event [] = omega arith
up_to_few event (p ∷ ps) = by (nat_le p.count event) (up_to_few event ps)
  where
    by : (t : Bool) → number_up_to event (counts_of ps) ≤ length ps → cond t (suc (number_up_to event (counts_of ps))) zero ≤ suc (length ps)
    by true h = omega (arith, h)
    by false h = omega arith

pub more : (n : ℕ) → (n ≡ 0 → ⊥) → 0 < n
more zero h = absurd (h refl)
more (suc n) h = omega arith

-- ---- cutting

pub cut_is : (event kept : ℕ) (held few : List Position) (counts : List ℕ) (first interval : ℕ) → AreStored held counts first interval → kept ≡ number_up_to event counts → few ≡ take kept held → few ≡ up_to event held
cut_is event kept held few counts first interval s k l = l ∙ ap (λ n. take n held) (k ∙ ap (number_up_to event) s.counts_are) ∙ first_up_to event held s.rising

take_map : {A B : Type 0} (f : A → B) (n : ℕ) (xs : List A) → take n (map f xs) ≡ map f (take n xs)
take_map f zero xs = refl
take_map f (suc n) [] = refl
take_map f (suc n) (x ∷ xs) = ap (λ ys. f x ∷ ys) (take_map f n xs)

above_first : (m n : ℕ) (ps : List Position) → AreAbove m ps → AreAbove m (take n ps)
above_first m zero ps h = tt
above_first m (suc n) [] h = tt
above_first m (suc n) (p ∷ ps) h = (h.0, above_first m n ps h.1)

rising_first : (n : ℕ) (ps : List Position) → AreRising ps → AreRising (take n ps)
rising_first zero ps h = tt
rising_first (suc n) [] h = tt
rising_first (suc n) (p ∷ ps) h = (above_first p.count n ps h.0, rising_first n ps h.1)

-- the first ones are stored, with their counts
pub cut_stored : (kept : ℕ) (held few : List Position) (counts after : List ℕ) (first interval other : ℕ) → AreStored held counts first interval → few ≡ take kept held → after ≡ take kept counts → 1 ≤ other → AreStored few after first other
cut_stored kept held few counts after first interval other s l a i = rw l (record {
  rising = rising_first kept held s.rising;
  counts_are = a ∙ ap (take kept) s.counts_are ∙ take_map (λ (p : Position). p.count) kept held;
  first_is = s.first_is;
  interval_is = i;
})

-- where none is left the interval is the first
pub none_left : (t : Timeline Position) (kept : ℕ) (few : List Position) → kept ≡ 0 → few ≡ take kept t.stored → record { first = t.first; interval = t.first; stored = few } ≡ left t few
none_left t kept few none l =
    let e : few ≡ [] = l ∙ ap (λ n. take n t.stored) none in
    subst (λ (ps : List Position). record { first = t.first; interval = t.first; stored = ps } ≡ left t ps) (sym e) refl

-- where some are left it stays
some_first : (t : Timeline Position) (kept : ℕ) (ps : List Position) → 0 < kept → kept ≤ length ps → record { first = t.first; interval = t.interval; stored = take kept ps } ≡ left t (take kept ps)
some_first t zero ps some less = absurd (omega (arith, some))
some_first t (suc kept) [] some less = absurd (omega (arith, less))
some_first t (suc kept) (p ∷ ps) some less = refl

pub some_left : (event : ℕ) (t : Timeline Position) (kept : ℕ) (few : List Position) (counts : List ℕ) → AreStored t.stored counts t.first t.interval → kept ≡ number_up_to event counts → (kept ≡ 0 → ⊥) → few ≡ take kept t.stored
    → record { first = t.first; interval = t.interval; stored = few } ≡ left t few
some_left event t kept few counts s k some l =
    let n = up_to_few event t.stored in
    let number = k ∙ ap (number_up_to event) s.counts_are in
    subst (λ (ps : List Position). record { first = t.first; interval = t.interval; stored = ps } ≡ left t ps) (sym l)
    (some_first t kept t.stored (more kept some) (omega (arith, n, number)))

-- ---- one more

above_more : (m : ℕ) (ps : List Position) (p : Position) → AreAbove m ps → m < p.count → AreAbove m (ps ++ p ∷ [])
above_more m [] p h less = (less, tt)
above_more m (q ∷ qs) p h less = (h.0, above_more m qs p h.1 less)

rising_more : (ps : List Position) (p : Position) → AreRising ps → AreBelow p.count ps → AreRising (ps ++ p ∷ [])
rising_more [] p r b = (tt, tt)
rising_more (q ∷ qs) p r b = (above_more q.count qs p r.0 b.0, rising_more qs p r.1 b.1)

map_more : {A B : Type 0} (f : A → B) (xs : List A) (x : A) → map f (xs ++ x ∷ []) ≡ map f xs ++ f x ∷ []
map_more f [] x = refl
map_more f (y ∷ ys) x = ap (λ zs. f y ∷ zs) (map_more f ys x)

pub more_stored : (held all : List Position) (counts after : List ℕ) (first interval : ℕ) (p : Position) (count : ℕ) → AreStored held counts first interval → AreBelow p.count held → count ≡ p.count → all ≡ held ++ p ∷ [] → after ≡ counts ++ count ∷ []
    → AreStored all after first interval
more_stored held all counts after first interval p count s b c m a = rw m (record {
  rising = rising_more held p s.rising b;
  counts_are = a ∙ ap (λ n. counts ++ n ∷ []) c ∙ ap (λ ns. ns ++ p.count ∷ []) s.counts_are ∙ sym (map_more (λ (q : Position). q.count) held p);
  first_is = s.first_is;
  interval_is = s.interval_is;
})

-- ---- those that stay

above_stay : (m : ℕ) (test : Position → Bool) (ps : List Position) → AreAbove m ps → AreAbove m (filter test ps)
above_stay m test [] h = tt
above_stay m test (p ∷ ps) h = by (test p) (above_stay m test ps h.1)
  where
    by : (t : Bool) → AreAbove m (filter test ps) → AreAbove m (cond t (p ∷ filter test ps) (filter test ps))
    by true rest = (h.0, rest)
    by false rest = rest

rising_stay : (test : Position → Bool) (ps : List Position) → AreRising ps → AreRising (filter test ps)
rising_stay test [] r = tt
rising_stay test (p ∷ ps) r = by (test p) (rising_stay test ps r.1)
  where
    by : (t : Bool) → AreRising (filter test ps) → AreRising (cond t (p ∷ filter test ps) (filter test ps))
    by true rest = (above_stay p.count test ps r.0, rest)
    by false rest = rest

-- their counts are those of the counts that stay
pub counts_stay : (test : ℕ → Bool) (ps : List Position) → filter test (counts_of ps) ≡ counts_of (filter (λ (p : Position). test p.count) ps)
counts_stay test [] = refl
counts_stay test (p ∷ ps) = by (test p.count) (counts_stay test ps)
  where
    by : (t : Bool) → filter test (counts_of ps) ≡ counts_of (filter (λ (q : Position). test q.count) ps)
        → cond t (p.count ∷ filter test (counts_of ps)) (filter test (counts_of ps)) ≡ counts_of (cond t (p ∷ filter (λ (q : Position). test q.count) ps) (filter (λ (q : Position). test q.count) ps))
    by true e = ap (λ ns. p.count ∷ ns) e
    by false e = e

doubled_some : (i : ℕ) → 1 ≤ i → 1 ≤ doubled i
doubled_some i h = grind (arith, nat_tests)

pub stay_stored : (held few : List Position) (counts after : List ℕ) (first interval wide newest : ℕ) → AreStored held counts first interval → wide ≡ doubled interval → few ≡ filter (λ (p : Position). stays wide newest p.count) held
    → after ≡ filter (stays wide newest) counts → AreStored few after first wide
stay_stored held few counts after first interval wide newest s w f a = rw f (record {
  rising = rising_stay (λ (p : Position). stays wide newest p.count) held s.rising;
  counts_are = a ∙ ap (filter (stays wide newest)) s.counts_are ∙ counts_stay (stays wide newest) held;
  first_is = s.first_is;
  interval_is = let d = doubled_some interval s.interval_is in rw w d;
})

-- ---- the last one

last_first : (n : ℕ) (ps : List Position) → n < length ps → last_of (take (suc n) ps) ≡ slice_get ps n
last_first n [] h = absurd (omega (arith, h))
last_first zero (p ∷ ps) h = refl
last_first (suc n) (p ∷ []) h = absurd (omega (arith, h))
last_first (suc n) (p ∷ q ∷ ps) h = last_first n (q ∷ ps) (omega (arith, h))

-- the one before the first that is after an event
pub last_is : (event first : ℕ) (held : List Position) (counts : List ℕ) (begins interval : ℕ) → AreStored held counts begins interval → first ≡ number_up_to event counts → 0 < first → slice_get held (first - 1) ≡ last_of (up_to event held)
last_is event first held counts begins interval s f some =
    let number = f ∙ ap (number_up_to event) s.counts_are in
    let few = up_to_few event held in
    let n : first ≡ suc (first - 1) = omega (arith, some) in
    sym (last_first (first - 1) held (omega (arith, few, number, some))) ∙ ap (λ k. last_of (take k held)) (sym n ∙ number) ∙ ap last_of (first_up_to event held s.rising)

take_whole : (ps : List Position) → take (length ps) ps ≡ ps
take_whole [] = refl
take_whole (p ∷ ps) = ap (λ qs. p ∷ qs) (take_whole ps)

-- the last one of all
pub last_whole : (n : ℕ) (ps : List Position) → n ≡ length ps → 0 < n → slice_get ps (n - 1) ≡ last_of ps
last_whole n ps e some =
    let k : suc (n - 1) ≡ length ps = omega (arith, e, some) in
    sym (last_first (n - 1) ps (omega (arith, e, some))) ∙ ap (λ j. last_of (take j ps)) k ∙ ap last_of (take_whole ps)

-- none is there
pub none_is : (event first : ℕ) (held : List Position) (counts : List ℕ) (begins interval : ℕ) → AreStored held counts begins interval → first ≡ number_up_to event counts → first ≡ 0 → None ≡ last_of (up_to event held)
none_is event first held counts begins interval s f none = ap last_of (ap (λ n. take n held) (sym none ∙ f ∙ ap (number_up_to event) s.counts_are) ∙ first_up_to event held s.rising)

-- ---- counting

upto : (m n : ℕ) → m ≤ n → nat_le m n ≡ true
upto m n h = grind (arith, nat_tests)

-- one more is up to the event
pub counted_on : (event index : ℕ) (ns : List ℕ) → index < length ns → get_or ns index 0 ≤ event → index + number_up_to event (drop index ns) ≡ number_up_to event ns
    → (index + 1) + number_up_to event (drop (index + 1) ns) ≡ number_up_to event ns
counted_on event index ns less upto_event h =
    let here : number_up_to event (drop index ns) ≡ suc (number_up_to event (drop (suc index) ns)) =
    ap (number_up_to event) (drop-cons ns index 0 less) ∙ ap (λ t. cond t (suc (number_up_to event (drop (suc index) ns))) zero) (upto (get_or ns index 0) event upto_event) in
    let next : suc index ≡ index + 1 = omega arith in
    let same = ap (λ n. number_up_to event (drop n ns)) next in
    omega (arith, here, same, h)

-- one is after it
pub counted_to : (event index : ℕ) (ns : List ℕ) → index < length ns → event < get_or ns index 0 → index + number_up_to event (drop index ns) ≡ number_up_to event ns → index ≡ number_up_to event ns
counted_to event index ns less after_event h =
    let here : number_up_to event (drop index ns) ≡ zero =
    ap (number_up_to event) (drop-cons ns index 0 less) ∙ ap (λ t. cond t (suc (number_up_to event (drop (suc index) ns))) zero) (after (get_or ns index 0) event after_event) in
    omega (arith, here, h)

-- none is
pub counted_all : (event index : ℕ) (ns : List ℕ) → length ns ≤ index → index ≤ length ns → index + number_up_to event (drop index ns) ≡ number_up_to event ns → length ns ≡ number_up_to event ns
counted_all event index ns all within h =
    let none = ap (number_up_to event) (drop_all index ns all) in
    omega (arith, none, all, within, h)

-- ---- the last count

pub ends_last : (event : ℕ) (ns : List ℕ) (i last : ℕ) → i ≡ length ns - 1 → slice_get ns i ≡ Some last → (last == event) ≡ ends_at event ns
ends_last event [] zero last e g = absurd cc
ends_last event [] (suc i) last e g = absurd cc
ends_last event (n ∷ []) zero last e g = let same : last ≡ n = cc in ap (λ k. k == event) same
ends_last event (n ∷ []) (suc i) last e g = absurd (omega (arith, e))
ends_last event (n ∷ m ∷ ns) zero last e g = absurd (omega (arith, e))
ends_last event (n ∷ m ∷ ns) (suc i) last e g = ends_last event (m ∷ ns) i last (omega (arith, e)) g
