-- No module stands twice in the orders.
use Rattle.std.proofs.Common.{◌≡◌, ◌≢◌, ◌⊎◌, inl, inr, ⊎_elim, ℕ, zero, suc, ◌+◌, ◌-◌, ◌≤◌, ◌<◌, cond, Bool, true, false, List, [], ◌∷◌, ◌++◌, Option, Some, None, refl, sym, ap, ◌∙◌, arith, subst, eqb-true, length, slice_get}
use Rattle.std.proofs.lemmas.Bool.{cases_lt}
use Rattle.std.specs.List.{filter}
use Rattle.event_set.proofs.Order.{each_append}
use Rattle.model_questions.specs.declared.record.Record.{Record}
use Rattle.model_questions.specs.Records.{record_at}
use Rattle.run_semantics.specs.Deleting.{to_finish_in}
use Rattle.run_semantics.specs.Ending.{to_finish}
use Rattle.run_semantics.specs.Laws.{Each, IsAmong}
use Rattle.run_semantics.specs.Subtree.{among, common, each_of, inner_first, inner_first_to, is_under, outer_first, outer_first_to, submodules}
use Rattle.run_semantics.specs.World.{World, live_of}
use Rattle.nested_starts.specs.Apart.{AreApart}
use Rattle.nested_starts.proofs.Orders.{among_parts}
use Rattle.nested_starts.proofs.Within.{each_there}

-- ---- lists

pub each_from : (P : ℕ → Type 0) (xs : List ℕ) → ((x : ℕ) → IsAmong x xs → P x) → Each P xs
each_from P [] h = tt
each_from P (x ∷ xs) h = (h x (inl refl), each_from P xs (λ y i. h y (inr i)))

pub apart_append : (xs ys : List ℕ) → AreApart xs → AreApart ys → ((x : ℕ) → IsAmong x xs → IsAmong x ys → ⊥) → AreApart (xs ++ ys)
apart_append [] ys f g h = g
apart_append (x ∷ xs) ys f g h =
    (each_append (λ y. y ≢ x) xs ys f.0 (each_from (λ y. y ≢ x) ys (λ y i e. h x (inl refl) (subst (λ n. IsAmong n ys) e i))), apart_append xs ys f.1 g (λ y i j. h y (inr i) j))

-- ---- those of a list that are kept

each_kept : (P : ℕ → Type 0) (f : ℕ → Bool) (xs : List ℕ) → Each P xs → Each P (filter f xs)
each_kept P f [] h = tt
each_kept P f (x ∷ xs) h = by (f x) (each_kept P f xs h.1)
  where
    by : (t : Bool) → Each P (filter f xs) → Each P (cond t (x ∷ filter f xs) (filter f xs))
    by true later = (h.0, later)
    by false later = later

pub kept_apart : (f : ℕ → Bool) (xs : List ℕ) → AreApart xs → AreApart (filter f xs)
kept_apart f [] h = tt
kept_apart f (x ∷ xs) h = by (f x) (kept_apart f xs h.1)
  where
    by : (t : Bool) → AreApart (filter f xs) → AreApart (cond t (x ∷ filter f xs) (filter f xs))
    by true later = (each_kept (λ y. y ≢ x) f xs h.0, later)
    by false later = later

pub kept_is : (f : ℕ → Bool) (x : ℕ) (xs : List ℕ) → IsAmong x (filter f xs) → f x ≡ true
kept_is f x [] h = absurd h
kept_is f x (y ∷ ys) h = by (f y) refl h (kept_is f x ys)
  where
    by : (t : Bool) → f y ≡ t → IsAmong x (cond t (y ∷ filter f ys) (filter f ys)) → (IsAmong x (filter f ys) → f x ≡ true) → f x ≡ true
    by true e (inl i) later = ap f (sym i) ∙ e
    by true e (inr i) later = later i
    by false e i later = later i

-- ---- modules around modules

-- so many modules further out
abbrev up : (ℕ → ℕ) → ℕ → ℕ → ℕ
up around zero id = id
up around (suc k) id = around (up around k id)

-- submodules have one module around them, and come after it
record IsTree (below : ℕ → List ℕ) (around : ℕ → ℕ) : Type 0 where
  apart : (id : ℕ) → AreApart (below id)
  parent : (id c : ℕ) → IsAmong c (below id) → around c ≡ id
  later : (id c : ℕ) → IsAmong c (below id) → id < c
  out : (id : ℕ) → around id ≤ id

up_less : (around : ℕ → ℕ) → ((id : ℕ) → around id ≤ id) → (k id : ℕ) → up around k id ≤ id
up_less around h zero id = omega arith
up_less around h (suc k) id = omega (arith, h (up around k id), up_less around h k id)

up_on : (around : ℕ → ℕ) (i k j id : ℕ) → j ≡ i + k → up around j id ≡ up around i (up around k id)
up_on around zero k j id e = let z : j ≡ k = omega (arith, e) in ap (λ n. up around n id) z
up_on around (suc i) k j id e = let z : j ≡ suc (i + k) = omega (arith, e) in ap (λ n. up around n id) z ∙ ap around (up_on around i k (i + k) id refl)

-- of two submodules of one module, none is further out from anything than the other
no_further : {below : ℕ → List ℕ} {around : ℕ → ℕ} → IsTree below around → (id c e x k j : ℕ) → IsAmong c (below id) → IsAmong e (below id) → up around k x ≡ c → up around j x ≡ e → k < j → ⊥
no_further {below} {around} t id c e x k j f g here there l =
    let outer : up around (suc k) x ≡ id = ap around here ∙ t.parent id c f in
    let whole = up_on around (j - suc k) (suc k) j x (omega (arith, l)) in
    let at : e ≡ up around (j - suc k) id = sym there ∙ (whole ∙ ap (up around (j - suc k)) outer) in
    omega (arith, at, up_less around t.out (j - suc k) id, t.later id e g)

-- so it is in the subtree of one of them
lone : {below : ℕ → List ℕ} {around : ℕ → ℕ} → IsTree below around → (id c e x k j : ℕ) → IsAmong c (below id) → IsAmong e (below id) → up around k x ≡ c → up around j x ≡ e → e ≡ c
lone {below} {around} t id c e x k j f g here there = ⊎_elim (λ (l : k < j). absurd (no_further t id c e x k j f g here there l)) (λ (l : j ≤ k). back (cases_lt j k) l) (cases_lt k j)
  where
    back : (j < k) ⊎ (k ≤ j) → j ≤ k → e ≡ c
    back (inl l) m = absurd (no_further t id e c x j k g f there here l)
    back (inr l) m = let same : j ≡ k = omega (arith, l, m) in sym there ∙ (ap (λ n. up around n x) same ∙ here)

-- ---- what a list of subtrees is made of

pub record IsFrom (part : ℕ → List ℕ) (x : ℕ) (cs : List ℕ) : Type 0 where
  pub one : ℕ
  pub there : IsAmong one cs
  pub within : IsAmong x (part one)

pub from_each : (part : ℕ → List ℕ) (x : ℕ) (cs : List ℕ) → IsAmong x (each_of part cs) → IsFrom part x cs
from_each part x [] h = absurd h
from_each part x (c ∷ cs) h = by (among_parts x (part c) (each_of part cs) h) (from_each part x cs)
  where
    by : IsAmong x (part c) ⊎ IsAmong x (each_of part cs) → (IsAmong x (each_of part cs) → IsFrom part x cs) → IsFrom part x (c ∷ cs)
    by (inl i) later = record { one = c; there = inl refl; within = i }
    by (inr i) later = let g = later i in record { one = g.one; there = inr g.there; within = g.within }

-- all of a part lead out to its first
abbrev Leads : (ℕ → ℕ) → (ℕ → List ℕ) → Type 0
Leads around part = (c x : ℕ) → IsAmong x (part c) → (k : ℕ) × (up around k x ≡ c)

each_apart : {below : ℕ → List ℕ} {around : ℕ → ℕ} → IsTree below around → (part : ℕ → List ℕ) → Leads around part → ((c : ℕ) → AreApart (part c)) → (id : ℕ) (cs : List ℕ) → ((c : ℕ) → IsAmong c cs → IsAmong c (below id)) → AreApart cs → AreApart (each_of part cs)
each_apart t part leads alone id [] h g = tt
each_apart {below} {around} t part leads alone id (c ∷ cs) h g =
    apart_append (part c) (each_of part cs) (alone c) (each_apart t part leads alone id cs (λ e i. h e (inr i)) g.1) twice
  where
    twice : (x : ℕ) → IsAmong x (part c) → IsAmong x (each_of part cs) → ⊥
    twice x i j =
        let other = from_each part x cs j in
        let here = leads c x i in
        let there = leads other.one x other.within in
        each_there (λ y. y ≢ c) other.one cs g.0 other.there (lone t id c other.one x here.0 there.0 (h c (inl refl)) (h other.one (inr other.there)) here.1 there.1)

-- a module is not inside of itself
not_itself : {below : ℕ → List ℕ} {around : ℕ → ℕ} → IsTree below around → (part : ℕ → List ℕ) → Leads around part → (id x : ℕ) → IsAmong x (each_of part (below id)) → x ≡ id → ⊥
not_itself {below} {around} t part leads id x h e =
    let from = from_each part x (below id) h in
    let way = leads from.one x from.within in
    omega (arith, e, t.later id from.one from.there, way.1, up_less around t.out way.0 x)

-- ---- the orders

outer_leads : {below : ℕ → List ℕ} {around : ℕ → ℕ} → IsTree below around → (depth : ℕ) → Leads around (outer_first_to depth below)
outer_leads t zero c x h = absurd h
outer_leads t (suc depth) c x (inl e) = (0, sym e)
outer_leads {below} {around} t (suc depth) c x (inr h) =
    let from = from_each (outer_first_to depth below) x (below c) h in
    let way = outer_leads t depth from.one x from.within in
    (suc way.0, ap around way.1 ∙ t.parent c from.one from.there)

outer_apart : {below : ℕ → List ℕ} {around : ℕ → ℕ} → IsTree below around → (depth id : ℕ) → AreApart (outer_first_to depth below id)
outer_apart t zero id = tt
outer_apart {below} t (suc depth) id = (
  each_from (λ y. y ≢ id) (each_of (outer_first_to depth below) (below id)) (λ y i e. not_itself t (outer_first_to depth below) (outer_leads t depth) id y i e),
  each_apart t (outer_first_to depth below) (outer_leads t depth) (outer_apart t depth) id (below id) (λ c i. i) (t.apart id),
)

inner_leads : {below : ℕ → List ℕ} {around : ℕ → ℕ} → IsTree below around → (depth : ℕ) → Leads around (inner_first_to depth below)
inner_leads t zero c x h = absurd h
inner_leads {below} {around} t (suc depth) c x h = by (inner_leads t depth) (among_parts x (each_of (inner_first_to depth below) (below c)) (c ∷ []) h)
  where
    by : Leads around (inner_first_to depth below) → IsAmong x (each_of (inner_first_to depth below) (below c)) ⊎ IsAmong x (c ∷ []) → (k : ℕ) × (up around k x ≡ c)
    by leads (inl i) =
        let from = from_each (inner_first_to depth below) x (below c) i in
        let way = leads from.one x from.within in
        (suc way.0, ap around way.1 ∙ t.parent c from.one from.there)
    by leads (inr (inl e)) = (0, sym e)
    by leads (inr (inr i)) = absurd i

inner_apart : {below : ℕ → List ℕ} {around : ℕ → ℕ} → IsTree below around → (depth id : ℕ) → AreApart (inner_first_to depth below id)
inner_apart t zero id = tt
inner_apart {below} t (suc depth) id =
    apart_append (each_of (inner_first_to depth below) (below id)) (id ∷ [])
    (each_apart t (inner_first_to depth below) (inner_leads t depth) (inner_apart t depth) id (below id) (λ c i. i) (t.apart id)) (tt, tt) last
  where
    last : (x : ℕ) → IsAmong x (each_of (inner_first_to depth below) (below id)) → IsAmong x (id ∷ []) → ⊥
    last x i (inl e) = not_itself t (inner_first_to depth below) (inner_leads t depth) id x i (sym e)
    last x i (inr j) = absurd j

-- ---- records

-- each record is after that of the module around it, where the first of these has that id
abbrev pub AreBehind : ℕ → List Record → Type 0
AreBehind id [] = Unit {0}
AreBehind id (r ∷ rs) = (r.parent < id) × AreBehind (suc id) rs

-- each module has one place, and those that live have records
pub record AreOnce (records : List Record) (live : List ℕ) : Type 0 where
  pub behind : AreBehind 1 records
  pub apart : AreApart live
  pub there : Each (λ id. id ≤ length records) live

-- the id of the module around one, 0 where there is none
abbrev around_of : Option Record → ℕ
around_of None = 0
around_of (Some r) = r.parent

got_behind : (k : ℕ) (rs : List Record) (i : ℕ) (r : Record) → AreBehind k rs → slice_get rs i ≡ Some r → r.parent < k + i
got_behind k [] i r h e = cc
got_behind k (x ∷ xs) zero r h e = let same : x ≡ r = cc in let l = ap (λ (s : Record). s.parent) same in omega (arith, h.0, l)
got_behind k (x ∷ xs) (suc i) r h e = let l = got_behind (suc k) xs i r h.1 e in omega (arith, l)

there_behind : (rs : List Record) (id : ℕ) (r : Record) → AreBehind 1 rs → record_at rs id ≡ Some r → r.parent < id
there_behind rs zero r h e = cc
there_behind rs (suc i) r h e = let l = got_behind 1 rs i r h e in omega (arith, l)

parent_by : (id : ℕ) (o : Option Record) → is_under id o ≡ true → around_of o ≡ id
parent_by id None e = cc
parent_by id (Some r) e = eqb-true r.parent id e

later_by : (rs : List Record) (id c : ℕ) (o : Option Record) → AreBehind 1 rs → record_at rs c ≡ o → is_under id o ≡ true → id < c
later_by rs id c None h e u = cc
later_by rs id c (Some r) h e u = let l = there_behind rs c r h e in omega (arith, l, eqb-true r.parent id u)

out_by : (rs : List Record) (id : ℕ) (o : Option Record) → AreBehind 1 rs → record_at rs id ≡ o → around_of o ≤ id
out_by rs id None h e = omega arith
out_by rs id (Some r) h e = let l = there_behind rs id r h e in omega (arith, l)

tree : (rs : List Record) (ids : List ℕ) → AreBehind 1 rs → AreApart ids → IsTree (submodules rs ids) (λ id. around_of (record_at rs id))
tree rs ids h g = record {
  apart = λ id. kept_apart (λ c. is_under id (record_at rs c)) ids g;
  parent = λ id c i. parent_by id (record_at rs c) (kept_is (λ e. is_under id (record_at rs e)) c ids i);
  later = λ id c i. later_by rs id c (record_at rs c) h refl (kept_is (λ e. is_under id (record_at rs e)) c ids i);
  out = λ id. out_by rs id (record_at rs id) h refl;
}

pub called_once : (w : World) → AreOnce w.records (live_of w) → AreApart (outer_first w.records (live_of w) 1)
unfolding outer_first
called_once w h = outer_apart (tree w.records (live_of w) h.behind h.apart) 33 1

pub deleted_once : (w : World) (id : ℕ) → AreOnce w.records (live_of w) → AreApart (to_finish_in id w)
unfolding inner_first
deleted_once w id h = kept_apart (λ n. among n w.started) (inner_first_to 33 (submodules w.records (live_of w)) id) (inner_apart (tree w.records (live_of w) h.behind h.apart) 33 id)

pub finished_once : (w : World) → AreOnce w.records (live_of w) → AreApart (to_finish w)
unfolding inner_first
finished_once w h = inner_apart (tree w.records (common (live_of w) w.started) h.behind (kept_apart (λ id. among id w.started) (live_of w) h.apart)) 33 1
