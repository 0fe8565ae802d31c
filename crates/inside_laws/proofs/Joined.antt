-- The gates that the ends of a connection take, and the links that come of it.
use Rattle.std.proofs.Common.{◌≡◌, ◌∙◌, ℕ, ℤ, zero, suc, ◌+◌, ◌<◌, ◌≤◌, Bool, true, false, not, ◌&&◌, ◌||◌, nat_eq, List, [], ◌∷◌, length, Option, Some, None, is_none, Result, Ok, Err, refl, ap, sym, subst, arith, if◌then◌else◌}
use Rattle.std.proofs.lemmas.Bool.{ltb-true, ltb-false}
use Rattle.std.proofs.lemmas.List.{length-set}
use Rattle.std.specs.Prelude.{slice_get, slice_index, slice_set, nat_lt}
use Rattle.sim_values.specs.declared.model_fault.ModelFault.{ModelFault}
use Rattle.sim_values.specs.declared.model_fault.ModelFault.TheVariants.{NoGate, GateSize, AlreadyConnected}
use Rattle.ned_trees.specs.declared.connections.Half.{Half}
use Rattle.ned_trees.specs.declared.connections.Half.TheVariants as half
use Rattle.ned_trees.specs.declared.declarations.GateDirection.{GateDirection}
use Rattle.ned_trees.specs.declared.declarations.GateDirection.TheVariants.{Input, Output, Inout}
use Rattle.inside_parts.specs.declared.gates.TypeGate.{TypeGate}
use Rattle.inside_parts.specs.declared.gates.TypeGates.{TypeGates}
use Rattle.inside_parts.specs.declared.parts.NamedGate.{NamedGate}
use Rattle.inside_parts.specs.declared.parts.Part.{Part}
use Rattle.inside_parts.specs.declared.parts.Parts.{Parts}
use Rattle.inside_parts.specs.Names.{position_of}
use Rattle.inside_wiring.specs.declared.ends.Taken.{Taken}
use Rattle.inside_wiring.specs.declared.wiring.Carrier.{Carrier}
use Rattle.inside_wiring.specs.declared.wiring.GateId.{GateId}
use Rattle.inside_wiring.specs.declared.wiring.Link.{Link}
use Rattle.inside_wiring.specs.declared.wiring.Role.{Role}
use Rattle.inside_wiring.specs.declared.wiring.Role.TheVariants.{Source, Target, Both}
use Rattle.inside_wiring.specs.Ends.{at_free, at_index, at_natural, at_next, at_single, extended, fits, gate_at, gate_named, gate_of, gate_of_kind, gate_of_part, gate_of_vector, natural, or_fault, through, unless_taken}
use Rattle.inside_wiring.specs.Wired.{Key, Wired, is_apart, is_free, is_open, key, least, link_from, link_to, next_index, same_key}
use Rattle.inside_keys.specs.Inside.{gates_in}
use Rattle.inside_laws.specs.Sound.{AreApart, AreInOrder, AreOnce, Each, IsEnd, IsLink, gives, takes}
use Rattle.inside_laws.proofs.Laid.{IsLaid}
use Rattle.inside_laws.proofs.Lists.{each_at, each_map, raised_by, raised_there}

-- ---- what a name means

or_fault_none : {A : Type 0} (f : ModelFault) (x : A) → or_fault f None ≡ Ok x → ⊥
or_fault_none f x h = cc

-- a gate that a name means is one of the part's type, and its vector is one of all
pub record IsOfPart (types : List TypeGates) (ps : Parts) (count part : ℕ) (g : NamedGate) : Type 0 where
  pub holder : Part
  pub there : slice_get ps.parts part ≡ Some holder
  pub place : ℕ
  pub gate : TypeGate
  pub at : slice_get (gates_in (slice_get types holder.of_type)) place ≡ Some gate
  pub below : holder.first + place < count
  pub is : g ≡ record { part = part; vector = holder.first + place; kind = gate.kind; is_own = holder.is_own }

module _ (types : List TypeGates) (ps : Parts) (count part : ℕ) (g : NamedGate) where
  of_kind : (p : Part) → slice_get ps.parts part ≡ Some p → (place : ℕ) (o : Option TypeGate) → slice_get (gates_in (slice_get types p.of_type)) place ≡ o → or_fault NoGate (gate_of_kind count part p place o) ≡ Ok g → IsOfPart types ps count part g
  of_kind p there place None at h = absurd (or_fault_none NoGate g h)
  of_kind p there place (Some gate) at h = by (nat_lt (p.first + place) count) refl h
    where
      by : (b : Bool) → nat_lt (p.first + place) count ≡ b → or_fault NoGate (if b then Some (record { part = part; vector = p.first + place; kind = gate.kind; is_own = p.is_own }) else None) ≡ Ok g → IsOfPart types ps count part g
      by true e f = record { holder = p; there = there; place = place; gate = gate; at = at; below = ltb-true (p.first + place) count e; is = (let same : g ≡ record { part = part; vector = p.first + place; kind = gate.kind; is_own = p.is_own } = cc in same) }
      by false e f = absurd (or_fault_none NoGate g f)

  of_found : (name : List ℕ) (p : Part) → slice_get ps.parts part ≡ Some p → (o : Option TypeGates) → slice_get types p.of_type ≡ o → or_fault NoGate (gate_of_part count part name p o) ≡ Ok g → IsOfPart types ps count part g
  of_found name p there None e h = absurd (or_fault_none NoGate g h)
  of_found name p there (Some found) e h = by (position_of name found.names) h
    where
      by : (o : Option ℕ) → or_fault NoGate (gate_at count part p found o) ≡ Ok g → IsOfPart types ps count part g
      by None f = absurd (or_fault_none NoGate g f)
      by (Some place) f = of_kind p there place (slice_get found.gates place) (ap (λ o. slice_get (gates_in o) place) e) f

  of_parts : (name : List ℕ) (o : Option Part) → slice_get ps.parts part ≡ o → or_fault NoGate (gate_of count part types name o) ≡ Ok g → IsOfPart types ps count part g
  of_parts name None there h = absurd (or_fault_none NoGate g h)
  of_parts name (Some p) there h = of_found name p there (slice_get types p.of_type) refl h

  pub named_of_part : (name : List ℕ) → gate_named types ps count part name ≡ Ok g → IsOfPart types ps count part g
  named_of_part name h = of_parts name (slice_get ps.parts part) refl h

-- a single gate has its place
pub single_laid : (types : List TypeGates) (ps : Parts) (sizes : List ℕ) (part : ℕ) (g : NamedGate) → IsOfPart types ps (length sizes) part g → Each (IsLaid types sizes) ps.parts → g.kind.is_vector ≡ false → 0 < slice_index sizes g.vector
single_laid types ps sizes part g h laid single =
    let own : IsLaid types sizes h.holder = each_at (IsLaid types sizes) ps.parts part h.holder laid h.there in
    let kind : h.gate.kind.is_vector ≡ false = ap (λ (x : NamedGate). x.kind.is_vector) (sym h.is) ∙ single in
    subst (λ v. 0 < slice_index sizes v) (ap (λ (x : NamedGate). x.vector) (sym h.is)) (own h.place h.gate h.at kind)

-- ---- what a gate can be

abbrev pub CanBe : Role → Bool → GateDirection → Type 0
CanBe Source own d = gives own d ≡ true
CanBe Target own d = takes own d ≡ true
CanBe Both own d = (gives own d ≡ true) × (takes own d ≡ true)

in_can : (own : Bool) (role : Role) → through own half.Input role ≡ true → CanBe role own Input
in_can true Source h = refl
in_can false Source h = absurd (cc)
in_can true Target h = absurd (cc)
in_can false Target h = refl
in_can own Both h = absurd (cc)

out_can : (own : Bool) (role : Role) → through own half.Output role ≡ true → CanBe role own Output
out_can true Source h = absurd (cc)
out_can false Source h = refl
out_can true Target h = refl
out_can false Target h = absurd (cc)
out_can own Both h = absurd (cc)

inout_can : (own : Bool) (role : Role) → CanBe role own Inout
inout_can true Source = refl
inout_can false Source = refl
inout_can true Target = refl
inout_can false Target = refl
inout_can true Both = (refl, refl)
inout_can false Both = (refl, refl)

pub fits_can : (own : Bool) (d : GateDirection) (o : Option Half) (role : Role) → fits own d o role ≡ true → CanBe role own d
fits_can own Input None role h = in_can own role h
fits_can own Output None role h = out_can own role h
fits_can own Inout o role h = inout_can own role
fits_can own Input (Some o) role h = absurd (cc)
fits_can own Output (Some o) role h = absurd (cc)

-- ---- sizes that grow

pub record Grows (ns ms : List ℕ) : Type 0 where
  pub length : length ns ≡ length ms
  pub below : (v i : ℕ) → i < slice_index ns v → i < slice_index ms v

pub grows_not : (ns : List ℕ) → Grows ns ns
grows_not ns = record { length = refl; below = λ v i h. h }

grows_one : (ns : List ℕ) (u : ℕ) → Grows ns (slice_set ns u (slice_index ns u + 1))
grows_one ns u = record { length = sym (length-set ns u (slice_index ns u + 1)); below = λ v i h. raised_by ns u v i h }

pub end_grows : (can : Bool → GateDirection → Bool) (types : List TypeGates) (ps : Parts) (ns ms : List ℕ) (id : GateId) → Grows ns ms → IsEnd can types ps ns id → IsEnd can types ps ms id
end_grows can types ps ns ms id g h = record {
  name = h.name;
  gate = h.gate;
  named = subst (λ n. gate_named types ps n id.part h.name ≡ Ok h.gate) g.length h.named;
  vector = h.vector;
  able = h.able;
  within = g.below id.vector id.index h.within;
}

pub laid_grows : (types : List TypeGates) (ns ms : List ℕ) (p : Part) → Grows ns ms → IsLaid types ns p → IsLaid types ms p
laid_grows types ns ms p g h k gate e single = g.below (p.first + k) 0 (h k gate e single)

-- ---- what is free

and_true : (p q : Bool) → (p && q) ≡ true → (p ≡ true) × (q ≡ true)
and_true true q h = (refl, h)
and_true false q h = absurd (cc)

same_is : (a b : Key) → same_key a b ≡ true → (a.0 ≡ b.0) × (a.1 ≡ b.1)
same_is a b h =
    let both = and_true (nat_eq a.0 b.0) (nat_eq a.1 b.1) h in
    let first : nat_eq a.0 b.0 ≡ true = both.0 in
    let second : nat_eq a.1 b.1 ≡ true = both.1 in
    (let x : a.0 ≡ b.0 = grind (arith, first) in x, let y : a.1 ≡ b.1 = grind (arith, second) in y)

-- a gate within its vector is none beyond the size of that
beyond : (sizes : List ℕ) (a b : Key) → a.1 < slice_index sizes a.0 → slice_index sizes b.0 ≤ b.1 → same_key a b ≡ false
beyond sizes a b within out = by (same_key a b) refl
  where
    by : (t : Bool) → same_key a b ≡ t → t ≡ false
    by false e = refl
    by true e =
        let same = same_is a b e in
        let low : b.1 < slice_index sizes b.0 = subst (λ v. b.1 < slice_index sizes v) same.0 (subst (λ i. i < slice_index sizes a.0) same.1 within) in
        absurd (omega (arith, low, out))

-- it is the other way round too
turned : (a b : Key) → same_key a b ≡ false → same_key b a ≡ false
turned a b h = by (same_key b a) refl
  where
    by : (t : Bool) → same_key b a ≡ t → t ≡ false
    by false e = refl
    by true e =
        let same = same_is b a e in
        let alike : a ≡ b = (let x = same.0 in let y = same.1 in cc) in
        absurd (self_false b (subst (λ x. same_key x b ≡ false) alike h))
      where
        self_false : (x : Key) → same_key x x ≡ false → ⊥
        self_false x f = let g : (nat_eq x.0 x.0 && nat_eq x.1 x.1) ≡ true = grind arith in cc

from_none : (ls : List Link) (q : Key) → is_none (link_from ls q) ≡ true → Each (λ (l : Link). same_key (key l.from) q ≡ false) ls
from_none [] q h = tt
from_none (l ∷ ls) q h = by (same_key (key l.from) q) refl h (λ f. from_none ls q f)
  where
    by : (b : Bool) → same_key (key l.from) q ≡ b → is_none (if b then Some l else link_from ls q) ≡ true → (is_none (link_from ls q) ≡ true → Each (λ (l : Link). same_key (key l.from) q ≡ false) ls) → (same_key (key l.from) q ≡ false) × Each (λ (l : Link). same_key (key l.from) q ≡ false) ls
    by true e f on = absurd (cc)
    by false e f on = (e, on f)

to_none : (ls : List Link) (q : Key) → is_none (link_to ls q) ≡ true → Each (λ (l : Link). same_key (key l.to) q ≡ false) ls
to_none [] q h = tt
to_none (l ∷ ls) q h = by (same_key (key l.to) q) refl h (λ f. to_none ls q f)
  where
    by : (b : Bool) → same_key (key l.to) q ≡ b → is_none (if b then Some l else link_to ls q) ≡ true → (is_none (link_to ls q) ≡ true → Each (λ (l : Link). same_key (key l.to) q ≡ false) ls) → (same_key (key l.to) q ≡ false) × Each (λ (l : Link). same_key (key l.to) q ≡ false) ls
    by true e f on = absurd (cc)
    by false e f on = (e, on f)

-- nothing is linked beyond the size of a vector
module _ (types : List TypeGates) (ps : Parts) (sizes : List ℕ) (q : Key) (out : slice_index sizes q.0 ≤ q.1) where
  from_beyond : (ls : List Link) → Each (IsLink types ps sizes) ls → link_from ls q ≡ None
  from_beyond [] h = refl
  from_beyond (l ∷ ls) h = ap (λ b. if b then Some l else link_from ls q) (beyond sizes (key l.from) q h.0.0.within out) ∙ from_beyond ls h.1

  to_beyond : (ls : List Link) → Each (IsLink types ps sizes) ls → link_to ls q ≡ None
  to_beyond [] h = refl
  to_beyond (l ∷ ls) h = ap (λ b. if b then Some l else link_to ls q) (beyond sizes (key l.to) q h.0.1.within out) ∙ to_beyond ls h.1

  free_beyond : (ls : List Link) (role : Role) → Each (IsLink types ps sizes) ls → is_free ls role q ≡ true
  free_beyond ls Source h = ap (λ o. is_none o) (from_beyond ls h)
  free_beyond ls Target h = ap (λ o. is_none o) (to_beyond ls h)
  free_beyond ls Both h = ap (λ o. is_none o && is_none (link_to ls q)) (from_beyond ls h) ∙ ap (λ o. is_none o) (to_beyond ls h)

  -- the gate of the other end is within its vector
  apart_beyond : (other : Option GateId) → ((o : GateId) → other ≡ Some o → o.index < slice_index sizes o.vector) → is_apart other q ≡ true
  apart_beyond None h = refl
  apart_beyond (Some o) h = ap (λ b. not b) (beyond sizes (key o) q (h o refl) out)

-- ---- the first free index

least_most : (test : ℕ → Bool) (i n : ℕ) → least test i n ≤ i + n
least_most test i zero = omega arith
least_most test i (suc n) = by (test i) (least_most test (i + 1) n)
  where
    by : (b : Bool) → least test (i + 1) n ≤ i + 1 + n → (if b then i else least test (i + 1) n) ≤ i + suc n
    by true rest = omega arith
    by false rest = omega (arith, rest)

least_passes : (test : ℕ → Bool) (i n : ℕ) → least test i n < i + n → test (least test i n) ≡ true
least_passes test i zero h = absurd (omega (arith, h))
least_passes test i (suc n) h = by (test i) refl h (λ f. least_passes test (i + 1) n f)
  where
    by : (b : Bool) → test i ≡ b → (if b then i else least test (i + 1) n) < i + suc n → (least test (i + 1) n < i + 1 + n → test (least test (i + 1) n) ≡ true) → test (if b then i else least test (i + 1) n) ≡ true
    by true e f on = e
    by false e f on = on (omega (arith, f))

-- ---- an end of a connection

abbrev pub IsEndAs : Role → List TypeGates → Parts → List ℕ → GateId → Type 0
IsEndAs Source types ps sizes id = IsEnd gives types ps sizes id
IsEndAs Target types ps sizes id = IsEnd takes types ps sizes id
IsEndAs Both types ps sizes id = IsEnd gives types ps sizes id × IsEnd takes types ps sizes id

-- a gate is taken: it can be that, and nothing is linked to it
pub record IsTaken (types : List TypeGates) (ps : Parts) (w : Wired) (other : Option GateId) (role : Role) (t : Taken) : Type 0 where
  pub links : t.wiring.links ≡ w.links
  pub grows : Grows w.sizes t.wiring.sizes
  pub end : IsEndAs role types ps t.wiring.sizes t.id
  pub free : is_open w.links other role (key t.id) ≡ true
  pub within : t.id.index < slice_index t.wiring.sizes t.id.vector

-- connections that are made so far
pub record IsWired (types : List TypeGates) (ps : Parts) (w : Wired) : Type 0 where
  pub order : AreInOrder ps.parts
  pub laid : Each (IsLaid types w.sizes) ps.parts
  pub links : Each (IsLink types ps w.sizes) w.links
  pub once : AreOnce w.links

module _ (types : List TypeGates) (ps : Parts) (w : Wired) (wired : IsWired types ps w) (other : Option GateId) (other_within : (o : GateId) → other ≡ Some o → o.index < slice_index w.sizes o.vector)
    (role : Role) (part : ℕ) (name : List ℕ) (g : NamedGate) (named : gate_named types ps (length w.sizes) part name ≡ Ok g) (able : CanBe role g.is_own g.kind.direction) where
  of_part : IsOfPart types ps (length w.sizes) part g
  of_part = named_of_part types ps (length w.sizes) part g name named

  part_is : g.part ≡ part
  part_is = ap (λ (x : NamedGate). x.part) of_part.is

  vector_below : g.vector < length w.sizes
  vector_below = subst (λ v. v < length w.sizes) (ap (λ (x : NamedGate). x.vector) (sym of_part.is)) of_part.below

  end_of : (can : Bool → GateDirection → Bool) → can g.is_own g.kind.direction ≡ true → (sizes : List ℕ) → Grows w.sizes sizes → (i : ℕ) → i < slice_index sizes g.vector → IsEnd can types ps sizes (gate_of_vector g i)
  end_of can h sizes grows i low = record {
    name = name;
    gate = g;
    named = subst (λ n. gate_named types ps n g.part name ≡ Ok g) grows.length (subst (λ p. gate_named types ps (length w.sizes) p name ≡ Ok g) (sym part_is) named);
    vector = refl;
    able = h;
    within = low;
  }

  end_as : (r : Role) → CanBe r g.is_own g.kind.direction → (sizes : List ℕ) → Grows w.sizes sizes → (i : ℕ) → i < slice_index sizes g.vector → IsEndAs r types ps sizes (gate_of_vector g i)
  end_as Source h sizes grows i low = end_of gives h sizes grows i low
  end_as Target h sizes grows i low = end_of takes h sizes grows i low
  end_as Both h sizes grows i low = (end_of gives h.0 sizes grows i low, end_of takes h.1 sizes grows i low)

  at_place : (i : ℕ) → i < slice_index w.sizes g.vector → is_open w.links other role (key (gate_of_vector g i)) ≡ true → IsTaken types ps w other role (record { wiring = w; id = gate_of_vector g i })
  at_place i low free = record { links = refl; grows = grows_not w.sizes; end = end_as role able w.sizes (grows_not w.sizes) i low; free = free; within = low }

  unless_taken_is : (i : ℕ) → i < slice_index w.sizes g.vector → (t : Taken) → unless_taken w other role (gate_of_vector g i) ≡ Ok t → IsTaken types ps w other role t
  unless_taken_is i low t h = by (is_open w.links other role (key (gate_of_vector g i))) refl h
    where
      by : (b : Bool) → is_open w.links other role (key (gate_of_vector g i)) ≡ b → (let r : Result Taken ModelFault = if b then Ok (record { wiring = w; id = gate_of_vector g i }) else Err AlreadyConnected in r ≡ Ok t) → IsTaken types ps w other role t
      by true e f = subst (λ x. IsTaken types ps w other role x) (let same : record { wiring = w; id = gate_of_vector g i } ≡ t = cc in same) (at_place i low e)
      by false e f = absurd (cc)

  pub single_is : g.kind.is_vector ≡ false → (t : Taken) → at_single w other role g ≡ Ok t → IsTaken types ps w other role t
  single_is single t h = unless_taken_is 0 (single_laid types ps w.sizes part g of_part wired.laid single) t h

  natural_is : (o : Option ℕ) (t : Taken) → at_natural w other role g o ≡ Ok t → IsTaken types ps w other role t
  natural_is None t h = absurd (cc)
  natural_is (Some i) t h = by (nat_lt i (slice_index w.sizes g.vector)) refl h
    where
      by : (b : Bool) → nat_lt i (slice_index w.sizes g.vector) ≡ b → (if b then unless_taken w other role (gate_of_vector g i) else Err GateSize) ≡ Ok t → IsTaken types ps w other role t
      by true e f = unless_taken_is i (ltb-true i (slice_index w.sizes g.vector) e) t f
      by false e f = absurd (cc)

  pub index_is : (z : ℤ) (t : Taken) → at_index w other role g z ≡ Ok t → IsTaken types ps w other role t
  index_is z t h = natural_is (natural z) t h

  abbrev is_open_at : ℕ → Bool
  is_open_at i = is_open w.links other role (g.vector, i)

  -- one more of a vector
  one_more : (i : ℕ) → i ≡ slice_index w.sizes g.vector → IsTaken types ps w other role (record { wiring = extended w g.vector; id = gate_of_vector g i })
  one_more i e =
      let out : slice_index w.sizes g.vector ≤ i = omega (arith, e) in
      let low : i < slice_index (slice_set w.sizes g.vector (slice_index w.sizes g.vector + 1)) g.vector = subst (λ n. n < slice_index (slice_set w.sizes g.vector (slice_index w.sizes g.vector + 1)) g.vector) (sym e) (raised_there w.sizes g.vector vector_below) in
      record {
        links = refl;
        grows = grows_one w.sizes g.vector;
        end = end_as role able (slice_set w.sizes g.vector (slice_index w.sizes g.vector + 1)) (grows_one w.sizes g.vector) i low;
        free = ap (λ b. b && is_free w.links role (g.vector, i)) (apart_beyond types ps w.sizes (g.vector, i) out other other_within) ∙ free_beyond types ps w.sizes (g.vector, i) out w.links role wired.links;
        within = low;
      }

  free_is : (i : ℕ) → (i < slice_index w.sizes g.vector → is_open_at i ≡ true) → i ≤ slice_index w.sizes g.vector → (t : Taken) → at_free w g i ≡ Ok t → IsTaken types ps w other role t
  free_is i free most t h = by (nat_lt i (slice_index w.sizes g.vector)) refl h
    where
      grown_or_not : (b : Bool) → slice_index w.sizes g.vector ≤ i → (let r : Result Taken ModelFault = if b then Err GateSize else Ok (record { wiring = extended w g.vector; id = gate_of_vector g i }) in r ≡ Ok t) → IsTaken types ps w other role t
      grown_or_not true out f = absurd (cc)
      grown_or_not false out f = subst (λ x. IsTaken types ps w other role x) (let same : record { wiring = extended w g.vector; id = gate_of_vector g i } ≡ t = cc in same) (one_more i (omega (arith, out, most)))

      by : (b : Bool) → nat_lt i (slice_index w.sizes g.vector) ≡ b → (let r : Result Taken ModelFault = if b then Ok (record { wiring = w; id = gate_of_vector g i }) else if g.is_own || not (nat_lt i 65536) then Err GateSize else Ok (record { wiring = extended w g.vector; id = gate_of_vector g i }) in r ≡ Ok t) → IsTaken types ps w other role t
      by true e f = let low = ltb-true i (slice_index w.sizes g.vector) e in subst (λ x. IsTaken types ps w other role x) (let same : record { wiring = w; id = gate_of_vector g i } ≡ t = cc in same) (at_place i low (free low))
      by false e f = grown_or_not (g.is_own || not (nat_lt i 65536)) (ltb-false i (slice_index w.sizes g.vector) e) f

  pub next_is : (t : Taken) → at_next w other role g ≡ Ok t → IsTaken types ps w other role t
  next_is t h = free_is (next_index w other role g.vector)
      (λ low. least_passes is_open_at 0 (slice_index w.sizes g.vector) (omega (arith, low)))
      (let most : next_index w other role g.vector ≤ 0 + slice_index w.sizes g.vector = least_most is_open_at 0 (slice_index w.sizes g.vector) in omega (arith, most)) t h

-- ---- a link more

each_two : {X : Type 0} (P Q R : X → Type 0) (xs : List X) → ((x : X) → P x → Q x → R x) → Each P xs → Each Q xs → Each R xs
each_two P Q R [] f h k = tt
each_two P Q R (x ∷ xs) f h k = (f x h.0 k.0, each_two P Q R xs f h.1 k.1)

-- a link between free gates is apart from all others
apart_of : (l : Link) (ls : List Link) → is_none (link_from ls (key l.from)) ≡ true → is_none (link_to ls (key l.to)) ≡ true → Each (AreApart l) ls
apart_of l ls from to = each_two (λ (o : Link). same_key (key o.from) (key l.from) ≡ false) (λ (o : Link). same_key (key o.to) (key l.to) ≡ false) (AreApart l) ls (λ o a b. (a, b)) (from_none ls (key l.from) from) (to_none ls (key l.to) to)

pub open_is : (ls : List Link) (other : Option GateId) (role : Role) (q : Key) → is_open ls other role q ≡ true → (is_apart other q ≡ true) × (is_free ls role q ≡ true)
open_is ls other role q h = and_true (is_apart other q) (is_free ls role q) h

pub not_same : (a b : Key) → not (same_key a b) ≡ true → same_key a b ≡ false
not_same a b h = by (same_key a b) h
  where
    by : (t : Bool) → not t ≡ true → t ≡ false
    by true e = absurd (cc)
    by false e = refl

module _ (types : List TypeGates) (ps : Parts) (w v : Wired) (wired : IsWired types ps w) (links : v.links ≡ w.links) (grows : Grows w.sizes v.sizes) where
  links_grown : Each (IsLink types ps v.sizes) w.links
  links_grown = each_map (IsLink types ps w.sizes) (IsLink types ps v.sizes) w.links (λ l h. (end_grows gives types ps w.sizes v.sizes l.from grows h.0, end_grows takes types ps w.sizes v.sizes l.to grows h.1)) wired.links

  laid_grown : Each (IsLaid types v.sizes) ps.parts
  laid_grown = each_map (IsLaid types w.sizes) (IsLaid types v.sizes) ps.parts (λ p h. laid_grows types w.sizes v.sizes p grows h) wired.laid

  -- vectors grew, and no link was made
  pub same_links : IsWired types ps v
  same_links = record {
    order = wired.order;
    laid = laid_grown;
    links = subst (λ ls. Each (IsLink types ps v.sizes) ls) (sym links) links_grown;
    once = subst AreOnce (sym links) wired.once;
  }

-- one link more
pub one_linked : (types : List TypeGates) (ps : Parts) (w : Wired) (l : Link) → IsWired types ps w → IsLink types ps w.sizes l → is_none (link_from w.links (key l.from)) ≡ true → is_none (link_to w.links (key l.to)) ≡ true
    → IsWired types ps (record { sizes = w.sizes; links = l ∷ w.links })
one_linked types ps w l wired link from to = record {
  order = wired.order;
  laid = wired.laid;
  links = (link, wired.links);
  once = (apart_of l w.links from to, wired.once);
}

-- a link that is there takes no other gate
from_apart : (l : Link) (ls : List Link) (q : Key) → same_key (key l.from) q ≡ false → is_none (link_from ls q) ≡ true → is_none (link_from (l ∷ ls) q) ≡ true
from_apart l ls q e h = ap (λ b. is_none (if b then Some l else link_from ls q)) e ∙ h

to_apart : (l : Link) (ls : List Link) (q : Key) → same_key (key l.to) q ≡ false → is_none (link_to ls q) ≡ true → is_none (link_to (l ∷ ls) q) ≡ true
to_apart l ls q e h = ap (λ b. is_none (if b then Some l else link_to ls q)) e ∙ h

-- two links, there and back, between gates that are not one
pub both_linked : (types : List TypeGates) (ps : Parts) (w : Wired) (l r : GateId) (onwards back : Carrier) → IsWired types ps w → IsEndAs Both types ps w.sizes l → IsEndAs Both types ps w.sizes r
    → is_free w.links Both (key l) ≡ true → is_free w.links Both (key r) ≡ true → same_key (key l) (key r) ≡ false
    → IsWired types ps (record { sizes = w.sizes; links = record { from = r; to = l; carrier = back } ∷ record { from = l; to = r; carrier = onwards } ∷ w.links })
both_linked types ps w l r onwards back wired left right free_l free_r apart =
    let of_l = and_true (is_none (link_from w.links (key l))) (is_none (link_to w.links (key l))) free_l in
    let of_r = and_true (is_none (link_from w.links (key r))) (is_none (link_to w.links (key r))) free_r in
    let first = one_linked types ps w (record { from = l; to = r; carrier = onwards }) wired (left.0, right.1) of_l.0 of_r.1 in
    one_linked types ps (record { sizes = w.sizes; links = record { from = l; to = r; carrier = onwards } ∷ w.links }) (record { from = r; to = l; carrier = back }) first (right.0, left.1)
    (from_apart (record { from = l; to = r; carrier = onwards }) w.links (key r) apart of_r.0)
    (to_apart (record { from = l; to = r; carrier = onwards }) w.links (key l) (turned (key l) (key r) apart) of_l.1)
