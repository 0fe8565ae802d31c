-- No gate lacks a link, exactly where each has one.
use Rattle.std.proofs.Common.{◌≡◌, ◌∙◌, inl, inr, ℕ, zero, suc, ◌+◌, ◌<◌, ◌≤◌, Bool, true, false, ◌||◌, List, [], ◌∷◌, Option, Some, None, is_none, is_some, refl, ap, sym, subst, arith, if◌then◌else◌}
use Rattle.std.proofs.lemmas.Bool.{ltb-false}
use Rattle.std.specs.Prelude.{slice_get, slice_index, nat_lt}
use Rattle.ned_trees.specs.declared.declarations.TypeDeclaration.{TypeDeclaration}
use Rattle.ned_types.specs.Flat.{or_else}
use Rattle.inside_parts.specs.declared.gates.TypeGate.{TypeGate}
use Rattle.inside_parts.specs.declared.gates.TypeGates.{TypeGates}
use Rattle.inside_parts.specs.declared.parts.Part.{Part}
use Rattle.inside_wiring.specs.declared.wiring.Link.{Link}
use Rattle.inside_wiring.specs.declared.wiring.Role.{Role}
use Rattle.inside_wiring.specs.declared.wiring.Role.TheVariants.{Source, Target, Both}
use Rattle.inside_wiring.specs.Wired.{Key, Wired, least, link_from, link_to}
use Rattle.inside_wiring.proofs.Taken.{least_none}
use Rattle.inside_keys.specs.declared.found.Inside.{Inside}
use Rattle.inside_keys.specs.Inside.{gates_in}
use Rattle.inside_keys.specs.Unconnected.{first_lacking, gate_lacks, is_lacking, lacking_from, lacking_in, lacks_one, loosened_of, may_stay_free, needed, one_lacks, own_lacking, part_lacks, unconnected}
use Rattle.inside_laws.specs.Connected.{AreConnected, IsConnected, IsLinked, IsWhole, NothingLacks}
use Rattle.inside_laws.specs.Sound.{Each}

-- ---- a link that is there

there : {A : Type 0} (o : Option A) → is_none o ≡ false → is_some o ≡ true
there None h = absurd (cc)
there (Some x) h = refl

not_none : {A : Type 0} (o : Option A) → is_some o ≡ true → is_none o ≡ false
not_none None h = absurd (cc)
not_none (Some x) h = refl

neither : (p q : Bool) → (p || q) ≡ false → (p ≡ false) × (q ≡ false)
neither true q h = absurd (cc)
neither false q h = (refl, h)

or_false : (p q : Bool) → p ≡ false → q ≡ false → (p || q) ≡ false
or_false true q h k = absurd (cc)
or_false false q h k = k

linked_of : (links : List Link) (role : Role) (q : Key) → is_lacking links role q ≡ false → IsLinked links role q
linked_of links Source q h = there (link_from links q) h
linked_of links Target q h = there (link_to links q) h
linked_of links Both q h = let both = neither (is_none (link_from links q)) (is_none (link_to links q)) h in (there (link_from links q) both.0, there (link_to links q) both.1)

lacks_not : (links : List Link) (role : Role) (q : Key) → IsLinked links role q → is_lacking links role q ≡ false
lacks_not links Source q h = not_none (link_from links q) h
lacks_not links Target q h = not_none (link_to links q) h
lacks_not links Both q h = or_false (is_none (link_from links q)) (is_none (link_to links q)) (not_none (link_from links q) h.0) (not_none (link_to links q) h.1)

-- ---- a vector

least_low : (test : ℕ → Bool) (i n j : ℕ) → i ≤ j → j < i + n → test j ≡ true → least test i n ≤ j
least_low test i zero j low high h = absurd (omega (arith, low, high))
least_low test i (suc n) j low high h = by (test i) refl (λ l. least_low test (i + 1) n j l (omega (arith, high)) h)
  where
    same : i ≡ j → test i ≡ true
    same e = subst (λ k. test k ≡ true) (sym e) h

    by : (b : Bool) → test i ≡ b → (i + 1 ≤ j → least test (i + 1) n ≤ j) → (if b then i else least test (i + 1) n) ≤ j
    by true e on = low
    by false e on = on (let apart : i ≡ j → ⊥ = λ s. absurd (let t = same s in cc) in omega (arith, low, apart))

false_or_true : (b : Bool) → (b ≡ true → ⊥) → b ≡ false
false_or_true true h = absurd (h refl)
false_or_true false h = refl

module _ (w : Wired) (role : Role) (v : ℕ) where
  all_linked : lacks_one w role v ≡ false → (index : ℕ) → index < slice_index w.sizes v → IsLinked w.links role (v, index)
  all_linked h index low = linked_of w.links role (v, index) (false_or_true (is_lacking w.links role (v, index)) (λ e.
      let first : first_lacking w role v ≤ index = least_low (λ i. is_lacking w.links role (v, i)) 0 (slice_index w.sizes v) index (omega arith) (omega (arith, low)) e in
      let last : slice_index w.sizes v ≤ first_lacking w role v = ltb-false (first_lacking w role v) (slice_index w.sizes v) h in omega (arith, low, first, last)))

  none_lacking : ((index : ℕ) → index < slice_index w.sizes v → IsLinked w.links role (v, index)) → lacks_one w role v ≡ false
  none_lacking h =
      let last : first_lacking w role v ≡ 0 + slice_index w.sizes v = least_none (λ i. is_lacking w.links role (v, i)) 0 (slice_index w.sizes v) (λ j low. lacks_not w.links role (v, j) (h j (omega (arith, low)))) in
      ap (λ n. nat_lt n (slice_index w.sizes v)) last ∙ (let none : nat_lt (0 + slice_index w.sizes v) (slice_index w.sizes v) ≡ false = grind arith in none)

-- ---- gates

module _ (w : Wired) (own : Bool) (loose : List (List ℕ)) where
  gate_connected : (v : ℕ) (g : TypeGate) → gate_lacks w own loose v g ≡ false → IsConnected w own loose v g
  gate_connected v g h = by (may_stay_free loose g) refl h
    where
      by : (b : Bool) → may_stay_free loose g ≡ b → (if b then false else lacks_one w (needed own g.kind.direction) v) ≡ false → IsConnected w own loose v g
      by true e f = inl e
      by false e f = inr (all_linked w (needed own g.kind.direction) v f)

  gate_fine : (v : ℕ) (g : TypeGate) → IsConnected w own loose v g → gate_lacks w own loose v g ≡ false
  gate_fine v g (inl e) = ap (λ b. if b then false else lacks_one w (needed own g.kind.direction) v) e
  gate_fine v g (inr h) = by (may_stay_free loose g)
    where
      by : (b : Bool) → (if b then false else lacks_one w (needed own g.kind.direction) v) ≡ false
      by true = refl
      by false = none_lacking w (needed own g.kind.direction) v h

  all_connected : (v : ℕ) (gs : List TypeGate) → one_lacks w own loose v gs ≡ false → AreConnected w own loose v gs
  all_connected v [] h = tt
  all_connected v (g ∷ gs) h = by (gate_lacks w own loose v g) refl h (λ f. all_connected (v + 1) gs f)
    where
      by : (b : Bool) → gate_lacks w own loose v g ≡ b → (if b then true else one_lacks w own loose (v + 1) gs) ≡ false → (one_lacks w own loose (v + 1) gs ≡ false → AreConnected w own loose (v + 1) gs) → IsConnected w own loose v g × AreConnected w own loose (v + 1) gs
      by true e f on = absurd (cc)
      by false e f on = (gate_connected v g e, on f)

  all_fine : (v : ℕ) (gs : List TypeGate) → AreConnected w own loose v gs → one_lacks w own loose v gs ≡ false
  all_fine v [] h = refl
  all_fine v (g ∷ gs) h = ap (λ b. if b then true else one_lacks w own loose (v + 1) gs) (gate_fine v g h.0) ∙ all_fine (v + 1) gs h.1

-- ---- parts

module _ (t : TypeDeclaration) (gates : List TypeGates) (w : Wired) where
  parts_whole : (n : ℕ) (ps : List Part) → lacking_from t gates w n ps ≡ None → Each (IsWhole t gates w) ps
  parts_whole n [] h = tt
  parts_whole n (p ∷ ps) h = by (part_lacks t gates w p) refl h (λ f. parts_whole (suc n) ps f)
    where
      by : (b : Bool) → part_lacks t gates w p ≡ b → (if b then Some n else lacking_from t gates w (suc n) ps) ≡ None → (lacking_from t gates w (suc n) ps ≡ None → Each (IsWhole t gates w) ps) → IsWhole t gates w p × Each (IsWhole t gates w) ps
      by true e f on = absurd (cc)
      by false e f on = (all_connected w p.is_own (loosened_of t.submodules p) p.first (gates_in (slice_get gates p.of_type)) e, on f)

  whole_fine : (p : Part) → IsWhole t gates w p → part_lacks t gates w p ≡ false
  whole_fine p h = all_fine w p.is_own (loosened_of t.submodules p) p.first (gates_in (slice_get gates p.of_type)) h

  parts_fine : (n : ℕ) (ps : List Part) → Each (IsWhole t gates w) ps → lacking_from t gates w n ps ≡ None
  parts_fine n [] h = refl
  parts_fine n (p ∷ ps) h = ap (λ b. if b then Some n else lacking_from t gates w (suc n) ps) (whole_fine p h.0) ∙ parts_fine (suc n) ps h.1

  own_whole : (p : Part) → own_lacking t gates w p ≡ None → IsWhole t gates w p
  own_whole p h = by (part_lacks t gates w p) refl h
    where
      by : (b : Bool) → part_lacks t gates w p ≡ b → (let o : Option ℕ = if b then Some 0 else None in o ≡ None) → IsWhole t gates w p
      by true e f = absurd (cc)
      by false e f = all_connected w p.is_own (loosened_of t.submodules p) p.first (gates_in (slice_get gates p.of_type)) e

  both_none : (o p : Option ℕ) → or_else o p ≡ None → (o ≡ None) × (p ≡ None)
  both_none None p h = (refl, h)
  both_none (Some n) p h = absurd (cc)

  all_whole : (ps : List Part) → lacking_in t gates w ps ≡ None → Each (IsWhole t gates w) ps
  all_whole [] h = tt
  all_whole (p ∷ ps) h = let both = both_none (lacking_from t gates w 1 ps) (own_lacking t gates w p) h in (own_whole p both.1, parts_whole 1 ps both.0)

  none_in : (ps : List Part) → Each (IsWhole t gates w) ps → lacking_in t gates w ps ≡ None
  none_in [] h = refl
  none_in (p ∷ ps) h = ap (λ o. or_else o (own_lacking t gates w p)) (parts_fine 1 ps h.1) ∙ ap (λ b. if b then Some 0 else None) (whole_fine p h.0)

pub lacks_none : (t : TypeDeclaration) (gates : List TypeGates) (i : Inside) → unconnected t gates i ≡ None → NothingLacks t gates i
lacks_none t gates i h = by t.connections.allow_unconnected refl h
  where
    by : (b : Bool) → t.connections.allow_unconnected ≡ b → (if b then None else lacking_in t gates i.wiring i.parts.parts) ≡ None → NothingLacks t gates i
    by true e f = inl e
    by false e f = inr (all_whole t gates i.wiring i.parts.parts f)

pub none_lacks : (t : TypeDeclaration) (gates : List TypeGates) (i : Inside) → NothingLacks t gates i → unconnected t gates i ≡ None
none_lacks t gates i (inl e) = ap (λ b. if b then None else lacking_in t gates i.wiring i.parts.parts) e
none_lacks t gates i (inr h) = by t.connections.allow_unconnected
  where
    by : (b : Bool) → (if b then None else lacking_in t gates i.wiring i.parts.parts) ≡ None
    by true = refl
    by false = none_in t gates i.wiring i.parts.parts h
