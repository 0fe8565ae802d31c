-- The submodules of an inside that is found are known.
use Rattle.std.proofs.Common.{◌≡◌, ◌∙◌, ℕ, pos, negsuc, zero, suc, ◌+◌, ◌-◌, Bool, true, false, List, [], ◌∷◌, ◌++◌, length, Option, Some, None, is_some, Ok, Err, refl, ap, sym, subst, arith, if◌then◌else◌}
use Rattle.std.specs.Prelude.{slice_get}
use Rattle.param_following.specs.Asking.{Done}
use Rattle.param_eval.specs.References.{Reference}
use Rattle.sim_values.specs.declared.value.Value.{Value}
use Rattle.sim_values.specs.declared.value.Value.TheVariants as value
use Rattle.ned_trees.specs.declared.declarations.SectionLine.{SectionLine}
use Rattle.ned_trees.specs.declared.declarations.SectionLine.TheVariants as line
use Rattle.ned_trees.specs.declared.declarations.Submodule.{Submodule}
use Rattle.ned_trees.specs.declared.declarations.TypeDeclaration.{TypeDeclaration}
use Rattle.inside_parts.specs.declared.gates.TypeGate.{TypeGate}
use Rattle.inside_parts.specs.declared.parts.Made.{Made}
use Rattle.inside_parts.specs.declared.parts.Made.TheVariants.{Absent, Single, Vector}
use Rattle.inside_parts.specs.declared.parts.Part.{Part}
use Rattle.inside_parts.specs.declared.parts.Parts.{Parts}
use Rattle.inside_keys.specs.declared.found.Found.{Found}
use Rattle.inside_keys.specs.declared.found.Found.TheVariants as found
use Rattle.inside_keys.specs.declared.found.Inside.{Inside}
use Rattle.inside_keys.specs.declared.found.State.{State}
use Rattle.inside_keys.specs.declared.key.Key.{Key}
use Rattle.inside_keys.specs.declared.key.Module.{Module}
use Rattle.inside_keys.specs.declared.key.What.{What}
use Rattle.inside_keys.specs.declared.key.What.TheVariants as what
use Rattle.inside_keys.specs.declared.place.Section.TheVariants as section
use Rattle.inside_keys.specs.Asked.{KeyAsking, ask_then, known_then, number_then, size_then, truth_then}
use Rattle.inside_keys.specs.Given.{misplaced_in}
use Rattle.inside_keys.specs.Inside as inside
use Rattle.inside_keys.specs.Inside.{Rest, gates_in, is_vector}
use Rattle.inside_keys.specs.Keys.{child, key}
use Rattle.inside_keys.specs.Settings.{ModuleRules, place_in, type_gates}
use Rattle.inside_keys.specs.States.{grown, noted, part_added, part_of_type}
use Rattle.inside_keys.specs.Values.{asking_of, inside_of}
use Rattle.inside_uses.specs.Parts.{AllIsKnownInside, AreKnownParts, HasKnownParts, HasType, HaveValues, IsKnown, IsKnownPart}
use Rattle.inside_uses.specs.Uses.{HasValue, KnownValues}
use Rattle.inside_uses.proofs.Ends.{AnyKey, Ends, by_value, ends_in, passes}
use Rattle.inside_uses.proofs.Passing.{by_size, by_truth, items_go}

none_some : {A : Type 0} (x : A) → None ≡ Some x → ⊥
none_some x h = cc

module _ (s : ModuleRules) (m : Module) (known : KnownValues) (t : TypeDeclaration) (P : Found → Type 0) where
  abbrev pub Go : KeyAsking → Type 0
  Go a = Ends known P a

  -- all parts so far are known
  abbrev pub AreKnown : List Part → Type 0
  AreKnown ps = AreKnownParts known s.types m t ps

  known_more : (ps : List Part) (p : Part) → AreKnown ps → (p.is_own ≡ false → IsKnownPart known s.types m t p) → AreKnown (ps ++ p ∷ [])
  known_more [] p h one = (one, tt)
  known_more (q ∷ ps) p h one = (h.0, known_more ps p h.1 one)

  -- ---- a submodule

  gates_go : (at : Module) (size : List ℕ → What) (ps : Parts) (gs : List TypeGate) (u : State) (rest : Rest) → u.parts ≡ ps → ((x : State) → x.parts ≡ ps → Go (rest x)) → Go (inside.gates at size gs u rest)
  gates_go at size ps [] u rest q h = h u q
  gates_go at size ps (g ∷ gs) u rest q h = by g.kind.is_vector (λ n. gates_go at size ps gs (grown u n) rest q h)
    where
      by : (b : Bool) → ((n : ℕ) → Go (inside.gates at size gs (grown u n) rest))
          → Go (if b then ask_then (key at (size g.name)) (λ v. size_then v (λ n. inside.gates at size gs (grown u n) rest)) else inside.gates at size gs (grown u 1) rest)
      by true on = by_value known P (key at (size g.name)) _ (λ v is. by_size Go (AnyKey known P) (passes known P) v _ on)
      by false on = on 1

  sizes_go : (at : Module) (ps : Parts) (o : Option (List ℕ)) (gs : List TypeGate) (u : State) (rest : Rest) → u.parts ≡ ps → ((x : State) → x.parts ≡ ps → Go (rest x)) → Go (inside.sizes at o gs u rest)
  sizes_go at ps None gs u rest q h = gates_go at what.Declared ps gs u rest q h
  sizes_go at ps (Some name) gs u rest q h = by_value known P (key at (what.Declared name)) _ (λ v is. h u q)

  has_value : (o : Option Found) (v : Value) → o ≡ Some (found.Value v) → HasValue o
  has_value o v e = subst (λ x. HasValue x) (sym e) tt

  parameters_go : (at : Module) (ls : List SectionLine) (u : State) (rest : Rest) → (HaveValues known at ls → Go (rest u)) → Go (inside.parameters at ls u rest)
  parameters_go at [] u rest h = h tt
  parameters_go at (line.Declaration d ∷ ls) u rest h = by_value known P (key at (what.Param d.name)) _ (λ v is. parameters_go at ls u rest (λ all. h (has_value (known (key at (what.Param d.name))) v is, all)))
  parameters_go at (line.Assignment a ∷ ls) u rest h = parameters_go at ls u rest h
  parameters_go at (line.Statistic a ∷ ls) u rest h = parameters_go at ls u rest h
  parameters_go at (line.Class a ∷ ls) u rest h = parameters_go at ls u rest h
  parameters_go at (line.Ignored ∷ ls) u rest h = parameters_go at ls u rest h

  -- whatever follows where so many declarations are done, and all parts are known
  abbrev pub GoesFrom : ℕ → Rest → Type 0
  GoesFrom done rest = (x : State) → length x.parts.made ≡ done → AreKnown x.parts.parts → Go (rest x)

  module _ (l : Submodule) (index : Option ℕ) (u : State) (rest : Rest) (there : slice_get t.submodules (length u.parts.made - 1) ≡ Some l) (known_so_far : AreKnown u.parts.parts) (h : GoesFrom (length u.parts.made) rest) where
    abbrev At : Module
    At = child m l.name index

    part_known : (n : ℕ) (w : TypeDeclaration) → HasType known At n → slice_get s.types n ≡ Some w → HaveValues known At w.lines → AreKnown (part_added u n index).parts.parts
    part_known n w typed is values = known_more u.parts.parts (part_of_type (length u.wiring.sizes) n (length u.parts.made - 1) index) known_so_far (λ own. record {
      declared = l;
      there = there;
      is_known = record { typed = typed; of_type = w; there = is; parameters = values };
    })

    sized_go : (n : ℕ) (w : TypeDeclaration) → HasType known At n → slice_get s.types n ≡ Some w → Go (inside.element_of m s.types (type_gates s) true l At index n u rest w)
    sized_go n w typed is = parameters_go At w.lines (part_added u n index)
        (λ x. inside.sizes At (misplaced_in (slice_get (type_gates s) n) w l.body) (gates_in (slice_get (type_gates s) n)) x rest)
        (λ values. sizes_go At (part_added u n index).parts (misplaced_in (slice_get (type_gates s) n) w l.body) (gates_in (slice_get (type_gates s) n)) (part_added u n index) rest refl
        (λ x same. h x (ap (λ (ps : Parts). length ps.made) same) (subst (λ (ps : Parts). AreKnown ps.parts) (sym same) (part_known n w typed is values))))

    typed_go : (v : Value) → known (key At what.Type) ≡ Some (found.Value v) → Go (number_then v (λ n. inside.element_typed m s.types (type_gates s) true l At index n u rest))
    typed_go (value.Whole (pos n)) is = by (slice_get s.types n) refl
      where
        by : (o : Option TypeDeclaration) → slice_get s.types n ≡ o → Go (known_then o (inside.element_of m s.types (type_gates s) true l At index n u rest))
        by None e = tt
        by (Some w) e = sized_go n w is e
    typed_go (value.Whole (negsuc n)) is = tt
    typed_go (value.Truth b) is = tt
    typed_go (value.Text x) is = tt
    typed_go (value.Quantity d n) is = tt

    element_go : Go (inside.element m s.types (type_gates s) true l index u rest)
    element_go = by_value known P (key At what.Type) _ typed_go

  -- ---- submodules

  elements_go : (n all : ℕ) (l : Submodule) (u : State) (rest : Rest) → slice_get t.submodules (length u.parts.made - 1) ≡ Some l → AreKnown u.parts.parts → GoesFrom (length u.parts.made) rest
      → Go (inside.elements m s.types (type_gates s) true n all l u rest)
  elements_go zero all l u rest there known_so_far h = h u refl known_so_far
  elements_go (suc n) all l u rest there known_so_far h = element_go l (Some (all - suc n)) u _ there known_so_far (λ x same more.
      elements_go n all l x rest (ap (λ k. slice_get t.submodules (k - 1)) same ∙ there) more (λ y even most. h y (even ∙ same) most))

  made_more : (ms : List Made) (x : Made) → length (ms ++ x ∷ []) ≡ suc (length ms)
  made_more [] x = refl
  made_more (y ∷ ms) x = ap suc (made_more ms x)

  module _ (l : Submodule) (u : State) (rest : Rest) (there : slice_get t.submodules (length u.parts.made) ≡ Some l) (known_so_far : AreKnown u.parts.parts) (h : GoesFrom (suc (length u.parts.made)) rest) where
    at_last : (x : Made) → slice_get t.submodules (length (u.parts.made ++ x ∷ []) - 1) ≡ Some l
    at_last x = ap (λ k. slice_get t.submodules k) (let e = made_more u.parts.made x in omega (arith, e)) ∙ there

    from_there : (x : Made) → GoesFrom (length (u.parts.made ++ x ∷ [])) rest
    from_there x y same more = h y (same ∙ made_more u.parts.made x) more

    there_go : Go (inside.submodule_there m s.types (type_gates s) true l u rest)
    there_go = by (is_vector l)
      where
        by : (b : Bool) → Go (if b then inside.sized m l (λ n. inside.elements m s.types (type_gates s) true n n l (noted u (Vector (length u.parts.parts) n)) rest) else inside.element m s.types (type_gates s) true l None (noted u (Single (length u.parts.parts))) rest)
        by true = by_value known P (key m (what.VectorSize l.name)) _ (λ v is. by_size Go (AnyKey known P) (passes known P) v _ (λ n.
            elements_go n n l (noted u (Vector (length u.parts.parts) n)) rest (at_last (Vector (length u.parts.parts) n)) known_so_far (from_there (Vector (length u.parts.parts) n))))
        by false = element_go l None (noted u (Single (length u.parts.parts))) rest (at_last (Single (length u.parts.parts))) known_so_far (from_there (Single (length u.parts.parts)))

    submodule_go : Go (inside.submodule m s.types (type_gates s) true l u rest)
    submodule_go = by (is_some l.condition)
      where
        by : (b : Bool) → Go (if b then ask_then (key m (what.Condition l.name)) (λ v. truth_then v (inside.submodule_there m s.types (type_gates s) true l u rest) (rest (noted u Absent))) else inside.submodule_there m s.types (type_gates s) true l u rest)
        by true = by_value known P (key m (what.Condition l.name)) _ (λ v is. by_truth Go (AnyKey known P) (passes known P) v _ _ there_go (h (noted u Absent) (made_more u.parts.made Absent) known_so_far))
        by false = there_go

  -- these are the declarations behind so many
  abbrev pub AreBehind : ℕ → List Submodule → Type 0
  AreBehind done ls = (i : ℕ) → slice_get ls i ≡ slice_get t.submodules (done + i)

  submodules_go : (ls : List Submodule) (u : State) (rest : Rest) → AreBehind (length u.parts.made) ls → AreKnown u.parts.parts → ((x : State) → AreKnown x.parts.parts → Go (rest x)) → Go (inside.submodules m s.types (type_gates s) true ls u rest)
  submodules_go [] u rest behind known_so_far h = h u known_so_far
  submodules_go (l ∷ ls) u rest behind known_so_far h = submodule_go l u _ (ap (λ k. slice_get t.submodules k) (let done = length u.parts.made in let none : done ≡ done + 0 = omega arith in none) ∙ sym (behind 0)) known_so_far (λ x same more.
      submodules_go ls x rest (λ i. behind (suc i) ∙ ap (λ k. slice_get t.submodules k) (let next : length u.parts.made + suc i ≡ length x.parts.made + i = omega (arith, same) in next)) more h)

-- ---- the inside

module _ (s : ModuleRules) (m : Module) (known : KnownValues) where
  abbrev HasKnown : Found → Type 0
  HasKnown (found.Inside i) = HasKnownParts known s.types m i
  HasKnown (found.Value v) = Unit {0}
  HasKnown (found.Carrier c) = Unit {0}

  inside_go : (n : ℕ) (t : TypeDeclaration) → HasType known m n → slice_get s.types n ≡ Some t → Ends known HasKnown (inside_of s m true n t)
  inside_go n t typed there =
      gates_go s m known t HasKnown m what.GateSize (inside.own_part n).parts (gates_in (slice_get (type_gates s) n)) (inside.own_part n) _ refl (λ u own.
      submodules_go s m known t HasKnown t.submodules u _ (λ i. ap (λ k. slice_get t.submodules k) (let none : i ≡ length u.parts.made + i = omega (arith, ap (λ (ps : Parts). length ps.made) own) in none)) (subst (λ (ps : Parts). AreKnownParts known s.types m t ps.parts) (sym own) ((λ e. absurd (cc)), tt)) (λ x more.
      items_go (Ends known HasKnown) (AnyKey known HasKnown) (passes known HasKnown) (place_in s m section.OfInside) (λ scope r k is. tt) (inside.submodule_names t) (type_gates s) m (λ c. tt) true x.parts t.connections.items [] x inside.made_of refl
      (λ y same. record { number = n; of_type = t; typed = typed; there = there; parts = subst (λ (ps : Parts). AreKnownParts known s.types m t ps.parts) (sym same) more })))

  asking_go : Ends known HasKnown (asking_of s (key m what.Inside))
  asking_go = by_value known HasKnown (key m what.Type) _ typed_go
    where
      typed_go : (v : Value) → known (key m what.Type) ≡ Some (found.Value v) → Ends known HasKnown (number_then v (λ n. known_then (slice_get s.types n) (inside_of s m true n)))
      typed_go (value.Whole (pos n)) is = by (slice_get s.types n) refl
        where
          by : (o : Option TypeDeclaration) → slice_get s.types n ≡ o → Ends known HasKnown (known_then o (inside_of s m true n))
          by None e = tt
          by (Some t) e = inside_go n t is e
      typed_go (value.Whole (negsuc n)) is = tt
      typed_go (value.Truth b) is = tt
      typed_go (value.Text x) is = tt
      typed_go (value.Quantity d n) is = tt

pub all_is_known : AllIsKnownInside
all_is_known s m known i h = ends_in known (HasKnown s m known) (asking_of s (key m what.Inside)) (found.Inside i) (asking_go s m known) h
