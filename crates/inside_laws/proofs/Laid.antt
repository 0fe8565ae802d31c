-- The submodules of an inside, and the sizes of their gate vectors.
use Rattle.std.proofs.Common.{◌≡◌, ◌∙◌, ℕ, pos, zero, suc, ◌+◌, ◌-◌, ◌<◌, ◌≤◌, Bool, true, false, List, [], ◌∷◌, ◌++◌, length, Option, Some, None, refl, ap, sym, subst, arith, if◌then◌else◌, is_some, append_assoc, append-nil}
use Rattle.std.proofs.lemmas.List.{get_or-append-add}
use Rattle.std.specs.Prelude.{slice_get, slice_index}
use Rattle.param_following.specs.Following.{Rules}
use Rattle.sim_values.specs.declared.model_fault.ModelFault.{ModelFault}
use Rattle.sim_values.specs.declared.value.Value.{Value}
use Rattle.sim_values.specs.declared.value.Value.TheVariants as value
use Rattle.ned_trees.specs.declared.declarations.SectionLine.{SectionLine}
use Rattle.ned_trees.specs.declared.declarations.SectionLine.TheVariants as line
use Rattle.ned_trees.specs.declared.declarations.Submodule.{Submodule}
use Rattle.ned_trees.specs.declared.declarations.TypeDeclaration.{TypeDeclaration}
use Rattle.inside_parts.specs.declared.gates.TypeGate.{TypeGate}
use Rattle.inside_parts.specs.declared.gates.TypeGates.{TypeGates}
use Rattle.inside_parts.specs.declared.parts.Made.{Made}
use Rattle.inside_parts.specs.declared.parts.Made.TheVariants.{Absent, Single, Vector}
use Rattle.inside_parts.specs.declared.parts.Part.{Part}
use Rattle.inside_keys.specs.declared.found.Found.{Found}
use Rattle.inside_keys.specs.declared.found.Found.TheVariants as found
use Rattle.inside_keys.specs.declared.found.State.{State}
use Rattle.inside_keys.specs.declared.key.Key.{Key}
use Rattle.inside_keys.specs.declared.key.Module.{Module}
use Rattle.inside_keys.specs.declared.key.What.{What}
use Rattle.inside_keys.specs.declared.key.What.TheVariants as what
use Rattle.inside_keys.specs.Asked.{KeyAsking, ask_then, size_then, truth_then}
use Rattle.inside_keys.specs.Given.{misplaced_in}
use Rattle.inside_keys.specs.Inside as inside
use Rattle.inside_keys.specs.Inside.{Rest, gates_in, is_vector}
use Rattle.inside_keys.specs.Keys.{child, key}
use Rattle.inside_keys.specs.States.{grown, noted, part_added, part_of_type, with_wiring}
use Rattle.inside_laws.specs.Sound.{AreInOrder, Each}
use Rattle.inside_laws.proofs.Ending.{Ends, IsKnown, by_known, by_number, by_size, by_truth, by_value}
use Rattle.inside_laws.proofs.Lists.{below_more, each_map, each_more, none_is_none}
use Rattle.inside_laws.proofs.Ordered.{Fits, IsAt, IsBelow, at_below, element_fits, last_more, last_sub, order_more, single_fits}

-- ---- sizes of gates, one after another

-- the sizes of these gates, that of a single one is 1
abbrev pub AreSizes : List TypeGate → List ℕ → Type 0
AreSizes [] [] = Unit {0}
AreSizes [] (n ∷ ns) = ⊥
AreSizes (g ∷ gs) [] = ⊥
AreSizes (g ∷ gs) (n ∷ ns) = (g.kind.is_vector ≡ false → n ≡ 1) × AreSizes gs ns

-- a single gate among these has its place
size_at : (gs : List TypeGate) (ns : List ℕ) (k : ℕ) (g : TypeGate) → AreSizes gs ns → slice_get gs k ≡ Some g → g.kind.is_vector ≡ false → 0 < slice_index ns k
size_at [] ns k g h e single = absurd (none_is_none e)
size_at (f ∷ gs) [] k g h e single = absurd h
size_at (f ∷ gs) (n ∷ ns) zero g h e single =
    let same : f ≡ g = cc in
    let one : n ≡ 1 = h.0 (ap (λ (x : TypeGate). x.kind.is_vector) same ∙ single) in omega (arith, one)
size_at (f ∷ gs) (n ∷ ns) (suc k) g h e single = size_at gs ns k g h.1 e single

-- with these sizes after the others
abbrev pub sized_by : State → List ℕ → State
sized_by s added = with_wiring s (record { sizes = s.wiring.sizes ++ added; links = s.wiring.links })

-- ---- parts whose gates have their places

-- each single gate of a part has a place
abbrev pub IsLaid : List TypeGates → List ℕ → Part → Type 0
IsLaid types sizes p = (k : ℕ) (g : TypeGate) → slice_get (gates_in (slice_get types p.of_type)) k ≡ Some g → g.kind.is_vector ≡ false → 0 < slice_index sizes (p.first + k)

pub laid_more : (types : List TypeGates) (sizes more : List ℕ) (p : Part) → IsLaid types sizes p → IsLaid types (sizes ++ more) p
laid_more types sizes more p h k g e single = below_more sizes more (p.first + k) 0 (h k g e single)

-- those of the part whose gates come next
pub laid_next : (types : List TypeGates) (sizes added : List ℕ) (p : Part) → p.first ≡ length sizes → AreSizes (gates_in (slice_get types p.of_type)) added → IsLaid types (sizes ++ added) p
laid_next types sizes added p first h k g e single =
    subst (λ n. 0 < slice_index (sizes ++ added) (n + k)) (sym first)
    (subst (λ n. 0 < n) (sym (get_or-append-add sizes added k 0)) (size_at (gates_in (slice_get types p.of_type)) added k g h e single))

-- ---- insides while submodules are made

-- no link is made yet
pub record IsBegun (types : List TypeGates) (s : State) : Type 0 where
  pub links : s.wiring.links ≡ []
  pub order : AreInOrder s.parts.parts
  pub laid : Each (IsLaid types s.wiring.sizes) s.parts.parts

-- all submodules of earlier declarations stand
pub record IsDue (types : List TypeGates) (s : State) : Type 0 where
  pub begun : IsBegun types s
  pub below : IsBelow (length s.parts.made) (last_sub s.parts.parts)

-- of the declaration that was noted last so many elements stand
pub record IsAmid (types : List TypeGates) (k : ℕ) (s : State) : Type 0 where
  pub begun : IsBegun types s
  pub line : ℕ
  pub made : length s.parts.made ≡ suc line
  pub at : IsAt line k (last_sub s.parts.parts)

length_more : {X : Type 0} (xs : List X) (x : X) → length (xs ++ x ∷ []) ≡ suc (length xs)
length_more [] x = refl
length_more (y ∷ xs) x = ap (λ n. suc n) (length_more xs x)

pub noted_amid : (types : List TypeGates) (s : State) (made : Made) → IsDue types s → IsAmid types 0 (noted s made)
noted_amid types s made h = record {
  begun = record { links = h.begun.links; order = h.begun.order; laid = h.begun.laid };
  line = length s.parts.made;
  made = length_more s.parts.made made;
  at = h.below;
}

pub amid_due : (types : List TypeGates) (k : ℕ) (s : State) → IsAmid types k s → IsDue types s
amid_due types k s h = record {
  begun = h.begun;
  below = subst (λ n. IsBelow n (last_sub s.parts.parts)) (sym h.made) (at_below h.line k (last_sub s.parts.parts) h.at);
}

-- one part more, with the sizes of its gates
abbrev pub placed : State → ℕ → Option ℕ → List ℕ → State
placed s n index added = sized_by (part_added s n index) added

module _ (types : List TypeGates) (s : State) (n : ℕ) (added : List ℕ) (sized : AreSizes (gates_in (slice_get types n)) added) where
  placed_begun : (index : Option ℕ) → IsBegun types s → Fits (part_of_type (length s.wiring.sizes) n (length s.parts.made - 1) index) (last_sub s.parts.parts) → IsBegun types (placed s n index added)
  placed_begun index h fits = record {
    links = h.links;
    order = order_more s.parts.parts _ h.order refl fits;
    laid = each_more (IsLaid types (s.wiring.sizes ++ added)) s.parts.parts _
        (each_map (IsLaid types s.wiring.sizes) (IsLaid types (s.wiring.sizes ++ added)) s.parts.parts (λ p. laid_more types s.wiring.sizes added p) h.laid)
        (laid_next types s.wiring.sizes added (part_of_type (length s.wiring.sizes) n (length s.parts.made - 1) index) refl sized);
  }

  line_is : (k : ℕ) (h : IsAmid types k s) → length s.parts.made - 1 ≡ h.line
  line_is k h = omega (arith, h.made)

  pub element_placed : (k : ℕ) → IsAmid types k s → IsAmid types (suc k) (placed s n (Some k) added)
  element_placed k h =
      let part = part_of_type (length s.wiring.sizes) n (length s.parts.made - 1) (Some k) in
      let begun = placed_begun (Some k) h.begun (element_fits h.line k (last_sub s.parts.parts) part h.at (line_is k h) refl) in
      record {
        begun = begun;
        line = h.line;
        made = h.made;
        at = subst (λ o. IsAt h.line (suc k) o) (sym (last_more s.parts.parts part h.begun.order)) (line_is k h, refl);
      }

  pub single_placed : IsAmid types 0 s → IsDue types (placed s n None added)
  single_placed h =
      let part = part_of_type (length s.wiring.sizes) n (length s.parts.made - 1) None in
      record {
        begun = placed_begun None h.begun (single_fits h.line (last_sub s.parts.parts) part h.at (line_is 0 h) refl);
        below = subst (λ o. IsBelow (length s.parts.made) o) (sym (last_more s.parts.parts part h.begun.order)) (let l = line_is 0 h in let m = h.made in omega (arith, l, m));
      }

-- ---- what asks for them

module _ (rules : Rules Key Found ModelFault) (P : Found → Type 0) where
  abbrev pub Go : KeyAsking → Type 0
  Go t = Ends rules P t

  grown_on : (s : State) (n : ℕ) (added : List ℕ) → sized_by (grown s n) added ≡ sized_by s (n ∷ added)
  grown_on s n added = ap (λ ns. with_wiring s (record { sizes = ns; links = s.wiring.links })) (append_assoc s.wiring.sizes (n ∷ []) added)

  -- the sizes of gates are added, one after another
  pub gates_go : (m : Module) (size : List ℕ → What) (gs : List TypeGate) (s : State) (rest : Rest) → ((added : List ℕ) → AreSizes gs added → Go (rest (sized_by s added))) → Go (inside.gates m size gs s rest)
  gates_go m size [] s rest h = subst (λ ns. Go (rest (with_wiring s (record { sizes = ns; links = s.wiring.links })))) (append-nil s.wiring.sizes) (h [] tt)
  gates_go m size (g ∷ gs) s rest h = by g.kind.is_vector refl
      (λ n one. gates_go m size gs (grown s n) rest (λ added sizes. subst (λ t. Go (rest t)) (sym (grown_on s n added)) (h (n ∷ added) (one, sizes))))
    where
      by : (b : Bool) → g.kind.is_vector ≡ b → ((n : ℕ) → (g.kind.is_vector ≡ false → n ≡ 1) → Go (inside.gates m size gs (grown s n) rest))
          → Go (if b then ask_then (key m (size g.name)) (λ v. size_then v (λ n. inside.gates m size gs (grown s n) rest)) else inside.gates m size gs (grown s 1) rest)
      by true e on = by_value rules P _ _ (λ v known. by_size rules P v _ (λ n. on n (λ f. absurd (cc))))
      by false e on = on 1 (λ f. refl)

  pub parameters_go : (m : Module) (ls : List SectionLine) (s : State) (rest : Rest) → Go (rest s) → Go (inside.parameters m ls s rest)
  parameters_go m [] s rest h = h
  parameters_go m (line.Declaration d ∷ ls) s rest h = by_value rules P _ _ (λ v known. parameters_go m ls s rest h)
  parameters_go m (line.Assignment a ∷ ls) s rest h = parameters_go m ls s rest h
  parameters_go m (line.Statistic a ∷ ls) s rest h = parameters_go m ls s rest h
  parameters_go m (line.Class a ∷ ls) s rest h = parameters_go m ls s rest h
  parameters_go m (line.Ignored ∷ ls) s rest h = parameters_go m ls s rest h

  module _ (m : Module) (types : List TypeDeclaration) (type_gates : List TypeGates) (is_whole : Bool)
      (refused : (at : Module) (l : Submodule) (n : ℕ) (t : TypeDeclaration) (name : List ℕ) (v : Value) → IsKnown rules (key at what.Type) (found.Value (value.Whole (pos n))) → slice_get types n ≡ Some t
      → misplaced_in (slice_get type_gates n) t l.body ≡ Some name → IsKnown rules (key at (what.Declared name)) (found.Value v) → ⊥) where
    sizes_go : (at : Module) (l : Submodule) (n : ℕ) (t : TypeDeclaration) → IsKnown rules (key at what.Type) (found.Value (value.Whole (pos n))) → slice_get types n ≡ Some t
        → (o : Option (List ℕ)) → misplaced_in (slice_get type_gates n) t l.body ≡ o → (s : State) (rest : Rest)
        → ((added : List ℕ) → AreSizes (gates_in (slice_get type_gates n)) added → Go (rest (sized_by s added))) → Go (inside.sizes at o (gates_in (slice_get type_gates n)) s rest)
    sizes_go at l n t typed there None e s rest h = gates_go at what.Declared (gates_in (slice_get type_gates n)) s rest h
    sizes_go at l n t typed there (Some name) e s rest h = by_value rules P _ _ (λ v known. absurd (refused at l n t name v typed there e known))

    element_go : (l : Submodule) (index : Option ℕ) (s : State) (rest : Rest)
        → ((n : ℕ) (added : List ℕ) → AreSizes (gates_in (slice_get type_gates n)) added → Go (rest (placed s n index added))) → Go (inside.element m types type_gates is_whole l index s rest)
    element_go l index s rest h = by_value rules P _ _ (λ v known. by_number rules P v _ (λ n e. by_known rules P (slice_get types n) _ (λ t there.
        parameters_go (child m l.name index) (if is_whole then t.lines else []) (part_added s n index) (λ u. inside.sizes (child m l.name index) (misplaced_in (slice_get type_gates n) t l.body) (gates_in (slice_get type_gates n)) u rest)
        (sizes_go (child m l.name index) l n t (subst (λ x. IsKnown rules (key (child m l.name index) what.Type) (found.Value x)) e known) there (misplaced_in (slice_get type_gates n) t l.body) refl (part_added s n index) rest (h n)))))

    elements_go : (n all : ℕ) (l : Submodule) (s : State) (rest : Rest) → n ≤ all → IsAmid type_gates (all - n) s → ((t : State) → IsDue type_gates t → Go (rest t)) → Go (inside.elements m types type_gates is_whole n all l s rest)
    elements_go zero all l s rest le amid h = h s (amid_due type_gates (all - 0) s amid)
    elements_go (suc n) all l s rest le amid h = element_go l (Some (all - suc n)) s _ (λ number added sized.
        elements_go n all l (placed s number (Some (all - suc n)) added) rest (omega (arith, le))
        (subst (λ k. IsAmid type_gates k (placed s number (Some (all - suc n)) added)) (let one : suc (all - suc n) ≡ all - n = omega (arith, le) in one) (element_placed type_gates s number added sized (all - suc n) amid)) h)

    there_go : (l : Submodule) (s : State) (rest : Rest) → IsDue type_gates s → ((t : State) → IsDue type_gates t → Go (rest t)) → Go (inside.submodule_there m types type_gates is_whole l s rest)
    there_go l s rest due h = by (is_vector l)
      where
        by : (b : Bool) → Go (if b then inside.sized m l (λ n. inside.elements m types type_gates is_whole n n l (noted s (Vector (length s.parts.parts) n)) rest) else inside.element m types type_gates is_whole l None (noted s (Single (length s.parts.parts))) rest)
        by true = by_value rules P _ _ (λ v known. by_size rules P v _ (λ n.
            elements_go n n l (noted s (Vector (length s.parts.parts) n)) rest (omega arith)
            (subst (λ k. IsAmid type_gates k (noted s (Vector (length s.parts.parts) n))) (let none : 0 ≡ n - n = omega arith in none) (noted_amid type_gates s (Vector (length s.parts.parts) n) due)) h))
        by false = element_go l None (noted s (Single (length s.parts.parts))) rest (λ n added sized.
            h (placed (noted s (Single (length s.parts.parts))) n None added) (single_placed type_gates (noted s (Single (length s.parts.parts))) n added sized (noted_amid type_gates s (Single (length s.parts.parts)) due)))

    conditioned_go : (l : Submodule) (if_so if_not : KeyAsking) → Go if_so → Go if_not → Go (inside.conditioned m l if_so if_not)
    conditioned_go l if_so if_not h k = by (is_some l.condition)
      where
        by : (b : Bool) → Go (if b then ask_then (key m (what.Condition l.name)) (λ v. truth_then v if_so if_not) else if_so)
        by true = by_value rules P _ _ (λ v known. by_truth rules P v if_so if_not h k)
        by false = h

    submodule_go : (l : Submodule) (s : State) (rest : Rest) → IsDue type_gates s → ((t : State) → IsDue type_gates t → Go (rest t)) → Go (inside.submodule m types type_gates is_whole l s rest)
    submodule_go l s rest due h = conditioned_go l _ _ (there_go l s rest due h) (h (noted s Absent) (amid_due type_gates 0 (noted s Absent) (noted_amid type_gates s Absent due)))

    pub submodules_go : (ls : List Submodule) (s : State) (rest : Rest) → IsDue type_gates s → ((t : State) → IsDue type_gates t → Go (rest t)) → Go (inside.submodules m types type_gates is_whole ls s rest)
    submodules_go [] s rest due h = h s due
    submodules_go (l ∷ ls) s rest due h = submodule_go l s _ due (λ t amid. submodules_go ls t rest amid h)
