-- The inside of a module goes on in the same way whichever values the parameters of its submodules
-- have.
use Rattle.std.proofs.Common.{◌≡◌, ◌∙◌, ℕ, ℤ, pos, zero, suc, ◌-◌, ◌+ℤ◌, ◌<◌, ◌==◌, Bool, true, false, not, ◌&&◌, List, [], ◌∷◌, length, map, Option, Some, None, is_some, Ok, Err, refl, ap, sym, subst, arith, if◌then◌else◌}
use Rattle.std.proofs.lemmas.Bool.{ltb-true}
use Rattle.std.specs.Prelude.{nat_lt, slice_get}
use Rattle.param_following.specs.Asking.{Done}
use Rattle.param_eval.specs.References.{Reference, Own, Scoped, Member, Element, Index, ParentIndex, Sizeof, Exists, ExistsAt}
use Rattle.param_eval.specs.Values.{valued}
use Rattle.sim_values.specs.declared.model_fault.ModelFault.{ModelFault}
use Rattle.sim_values.specs.declared.model_fault.ModelFault.TheVariants.{NoGate, TooManyTurns}
use Rattle.sim_values.specs.declared.value.Value.{Value}
use Rattle.ned_trees.specs.declared.connections.Arrow.{Arrow}
use Rattle.ned_trees.specs.declared.connections.Arrow.TheVariants.{Right, Left, Both as BothWays}
use Rattle.ned_trees.specs.declared.connections.Channel.{Channel}
use Rattle.ned_trees.specs.declared.connections.Clause.{Clause}
use Rattle.ned_trees.specs.declared.connections.Clause.TheVariants.{For, If}
use Rattle.ned_trees.specs.declared.connections.Connection.{Connection}
use Rattle.ned_trees.specs.declared.connections.ConnectionItem.{ConnectionItem}
use Rattle.ned_trees.specs.declared.connections.ConnectionItem.TheVariants.{Line, Group}
use Rattle.ned_trees.specs.declared.connections.ConnectionLine.{ConnectionLine}
use Rattle.ned_trees.specs.declared.connections.End.{End}
use Rattle.ned_trees.specs.declared.connections.GateIndex.{GateIndex}
use Rattle.ned_trees.specs.declared.connections.GateIndex.TheVariants.{At, Next}
use Rattle.ned_trees.specs.declared.connections.Owner.{Owner}
use Rattle.ned_trees.specs.declared.declarations.SectionLine.{SectionLine}
use Rattle.ned_trees.specs.declared.declarations.SectionLine.TheVariants as line
use Rattle.ned_trees.specs.declared.declarations.Submodule.{Submodule}
use Rattle.ned_trees.specs.declared.declarations.TypeDeclaration.{TypeDeclaration}
use Rattle.ned_trees.specs.declared.expressions.Expression.{Expression}
use Rattle.ned_trees.specs.declared.expressions.Scope.TheVariants as scoped
use Rattle.inside_parts.specs.declared.gates.TypeGate.{TypeGate}
use Rattle.inside_parts.specs.declared.gates.TypeGates.{TypeGates}
use Rattle.inside_parts.specs.declared.parts.Made.TheVariants.{Absent, Single, Vector}
use Rattle.inside_parts.specs.declared.parts.NamedGate.{NamedGate}
use Rattle.inside_wiring.specs.declared.ends.Taken.{Taken}
use Rattle.inside_wiring.specs.declared.wiring.Carrier.{Carrier}
use Rattle.inside_wiring.specs.declared.wiring.GateId.{GateId}
use Rattle.inside_wiring.specs.declared.wiring.Role.{Role}
use Rattle.inside_wiring.specs.Ends.{at_index, at_next, at_single, beside, fits, gate_named, left_role, part_named, right_role}
use Rattle.inside_keys.specs.declared.found.State.{State}
use Rattle.inside_keys.specs.declared.key.Key.{Key}
use Rattle.inside_keys.specs.declared.key.Module.{Module}
use Rattle.inside_keys.specs.declared.key.What.{What}
use Rattle.inside_keys.specs.declared.key.What.TheVariants as what
use Rattle.inside_keys.specs.declared.place.Meaning.{Meaning}
use Rattle.inside_keys.specs.declared.place.Meaning.TheVariants as meaning
use Rattle.inside_keys.specs.declared.place.Section.TheVariants as section
use Rattle.inside_keys.specs.Asked.{KeyAsking, ask_then, result_then, size_then, truth_then}
use Rattle.inside_keys.specs.Given.{misplaced_in}
use Rattle.inside_keys.specs.Inside as inside
use Rattle.inside_keys.specs.Inside.{Rest, gates_in, is_vector}
use Rattle.inside_keys.specs.Keys.{child, key}
use Rattle.inside_keys.specs.Places.{Scope, bind, bound_or, indexed, meant, meant_under, of, variable_in}
use Rattle.inside_keys.specs.Settings.{ModuleRules, index_at, place_in, type_gates}
use Rattle.inside_keys.specs.States.{at_item, at_line, grown, noted, part_added, with_wiring}
use Rattle.inside_keys.specs.Values.{asking_of, inside_of, typed_then}
use Rattle.inside_uses.specs.Uses.{AllServe, InsideUsesWhether, IsAbove, KnownValues, is_of_inner, is_parameter}
use Rattle.inside_uses.proofs.Blind.{Fails, IsBlind, by_any, goes_alike, passes}
use Rattle.inside_uses.proofs.Passing.{by_known, by_number, by_size, by_truth, items_go}

and_second : (a b : Bool) → (a && b) ≡ true → b ≡ true
and_second true b h = h
and_second false b h = absurd (cc)

not_below_itself : (n : ℕ) → nat_lt n n ≡ true → ⊥
not_below_itself n h = omega (arith, ltb-true n n h)

module _ (s : ModuleRules) (m : Module) (above : IsAbove s m) where
  abbrev Test : Key → Bool
  Test k = is_of_inner m k

  abbrev pub Go : KeyAsking → Type 0
  Go t = IsBlind Test t

  -- whatever the state, what follows it goes on
  abbrev pub GoesOn : Rest → Type 0
  GoesOn rest = (t : State) → Go (rest t)

  -- ---- keys of no inner parameter

  -- of the module itself
  own_fails : (w : What) → Fails Test (key m w)
  own_fails w h = not_below_itself (length m.path) (and_second (is_parameter w) (nat_lt (length m.path) (length m.path)) h)

  around_fails : (o : Option Module) → (s.stands m).around ≡ o → (w : What) (k : Key) → of o w ≡ meaning.Of k → Fails Test k
  around_fails None e w k is h = absurd (cc)
  around_fails (Some a) e w k is h =
      let same : key a w ≡ k = cc in
      let long : nat_lt (length m.path) (length a.path) ≡ true = and_second (is_parameter w) (nat_lt (length m.path) (length a.path)) (ap Test same ∙ h) in
      absurd (let short : nat_lt (length m.path) (length a.path) ≡ false = above a e in cc)

  own_meant : (w : What) (k : Key) → meaning.Of (key m w) ≡ meaning.Of k → Fails Test k
  own_meant w k is h = let same : key m w ≡ k = cc in own_fails w (ap Test same ∙ h)

  no_key : (o : Option ℤ) (k : Key) → indexed o ≡ meaning.Of k → ⊥
  no_key None k is = absurd (cc)
  no_key (Some z) k is = absurd (cc)

  -- what a reference means in the type of the module
  meant_fails : (scope : Scope) (r : Reference) (k : Key) → meant_under scope (place_in s m section.OfInside) r ≡ meaning.Of k → Fails Test k
  meant_fails scope (Own x) k is = by (variable_in scope x) is
    where
      by : (o : Option ℤ) → bound_or o (meant (place_in s m section.OfInside) (Own x)) ≡ meaning.Of k → Fails Test k
      by None e = own_meant (what.Param x) k e
      by (Some z) e = absurd (cc)
  meant_fails scope (Scoped scoped.This x) k is = own_meant (what.Param x) k is
  meant_fails scope (Scoped scoped.Parent x) k is = around_fails (s.stands m).around refl (what.Param x) k is
  meant_fails scope (Member sub x) k is = own_meant (what.Member sub x) k is
  meant_fails scope (Element sub z x) k is = own_meant (what.Element sub z x) k is
  meant_fails scope Index k is = absurd (no_key (s.stands m).index k is)
  meant_fails scope ParentIndex k is = absurd (no_key (index_at s (s.stands m).around) k is)
  meant_fails scope (Sizeof g) k is = own_meant (what.Sizeof g) k is
  meant_fails scope (Exists sub) k is = own_meant (what.Exists sub) k is
  meant_fails scope (ExistsAt sub z) k is = own_meant (what.ExistsAt sub z) k is

  -- ---- submodules

  gates_go : (at : Module) (size : List ℕ → What) → ((g : List ℕ) → Fails Test (key at (size g))) → (gs : List TypeGate) (u : State) (rest : Rest) → GoesOn rest → Go (inside.gates at size gs u rest)
  gates_go at size fail [] u rest h = h u
  gates_go at size fail (g ∷ gs) u rest h = by g.kind.is_vector (λ n. gates_go at size fail gs (grown u n) rest h)
    where
      by : (b : Bool) → ((n : ℕ) → Go (inside.gates at size gs (grown u n) rest))
          → Go (if b then ask_then (key at (size g.name)) (λ v. size_then v (λ n. inside.gates at size gs (grown u n) rest)) else inside.gates at size gs (grown u 1) rest)
      by true on = (passes Test).value (key at (size g.name)) _ (fail g.name) (λ v. by_size Go (Fails Test) (passes Test) v _ on)
      by false on = on 1

  -- what is not read of the value of a parameter
  parameters_go : (at : Module) (ls : List SectionLine) (u : State) (rest : Rest) → GoesOn rest → Go (inside.parameters at ls u rest)
  parameters_go at [] u rest h = h u
  parameters_go at (line.Declaration d ∷ ls) u rest h = by_any Test (key at (what.Param d.name)) _ (parameters_go at ls u rest h)
  parameters_go at (line.Assignment a ∷ ls) u rest h = parameters_go at ls u rest h
  parameters_go at (line.Statistic a ∷ ls) u rest h = parameters_go at ls u rest h
  parameters_go at (line.Class a ∷ ls) u rest h = parameters_go at ls u rest h
  parameters_go at (line.Ignored ∷ ls) u rest h = parameters_go at ls u rest h

  no_parameter : (b : Bool) → (false && b) ≡ true → ⊥
  no_parameter b h = absurd (cc)

  sizes_go : (at : Module) (o : Option (List ℕ)) (gs : List TypeGate) (u : State) (rest : Rest) → GoesOn rest → Go (inside.sizes at o gs u rest)
  sizes_go at None gs u rest h = gates_go at what.Declared (λ g passes. no_parameter (nat_lt (length m.path) (length at.path)) passes) gs u rest h
  sizes_go at (Some name) gs u rest h = by_any Test (key at (what.Declared name)) _ (h u)

  module _ (types : List TypeDeclaration) (gates : List TypeGates) (is_whole : Bool) where
    element_go : (l : Submodule) (index : Option ℕ) (u : State) (rest : Rest) → GoesOn rest → Go (inside.element m types gates is_whole l index u rest)
    element_go l index u rest h = (passes Test).value (key (child m l.name index) what.Type) _ (λ passes. no_parameter (nat_lt (length m.path) (length (child m l.name index).path)) passes) (λ v. by_number Go (Fails Test) (passes Test) v _ (λ n. by_known Go (Fails Test) (passes Test) (slice_get types n) _ (λ t.
        parameters_go (child m l.name index) (if is_whole then t.lines else []) (part_added u n index)
        (λ x. inside.sizes (child m l.name index) (misplaced_in (slice_get gates n) t l.body) (gates_in (slice_get gates n)) x rest)
        (λ x. sizes_go (child m l.name index) (misplaced_in (slice_get gates n) t l.body) (gates_in (slice_get gates n)) x rest h))))

    elements_go : (n all : ℕ) (l : Submodule) (u : State) (rest : Rest) → GoesOn rest → Go (inside.elements m types gates is_whole n all l u rest)
    elements_go zero all l u rest h = h u
    elements_go (suc n) all l u rest h = element_go l (Some (all - suc n)) u _ (λ t. elements_go n all l t rest h)

    there_go : (l : Submodule) (u : State) (rest : Rest) → GoesOn rest → Go (inside.submodule_there m types gates is_whole l u rest)
    there_go l u rest h = by (is_vector l)
      where
        by : (b : Bool) → Go (if b then inside.sized m l (λ n. inside.elements m types gates is_whole n n l (noted u (Vector (length u.parts.parts) n)) rest) else inside.element m types gates is_whole l None (noted u (Single (length u.parts.parts))) rest)
        by true = (passes Test).value (key m (what.VectorSize l.name)) _ (own_fails (what.VectorSize l.name)) (λ v. by_size Go (Fails Test) (passes Test) v _ (λ n. elements_go n n l _ rest h))
        by false = element_go l None _ rest h

    conditioned_go : (l : Submodule) (if_so if_not : KeyAsking) → Go if_so → Go if_not → Go (inside.conditioned m l if_so if_not)
    conditioned_go l if_so if_not h k = by (is_some l.condition)
      where
        by : (b : Bool) → Go (if b then ask_then (key m (what.Condition l.name)) (λ v. truth_then v if_so if_not) else if_so)
        by true = (passes Test).value (key m (what.Condition l.name)) _ (own_fails (what.Condition l.name)) (λ v. by_truth Go (Fails Test) (passes Test) v if_so if_not h k)
        by false = h

    submodules_go : (ls : List Submodule) (u : State) (rest : Rest) → GoesOn rest → Go (inside.submodules m types gates is_whole ls u rest)
    submodules_go [] u rest h = h u
    submodules_go (l ∷ ls) u rest h = conditioned_go l _ _ (there_go l u _ (λ t. submodules_go ls t rest h)) (submodules_go ls (noted u Absent) rest h)

  -- ---- the inside

  inside_go : (n : ℕ) (t : TypeDeclaration) → Go (inside_of s m true n t)
  inside_go n t =
      gates_go m what.GateSize (λ g. own_fails (what.GateSize g)) (gates_in (slice_get (type_gates s) n)) (inside.own_part n) _ (λ u.
      submodules_go s.types (type_gates s) true t.submodules u _ (λ x.
      items_go Go (Fails Test) (passes Test) (place_in s m section.OfInside) meant_fails (inside.submodule_names t) (type_gates s) m (λ c. own_fails (what.Carrier c)) true x.parts t.connections.items [] x inside.made_of refl (λ y same. tt)))

  pub asking_go : Go (asking_of s (key m what.Inside))
  asking_go = (passes Test).value (key m what.Type) _ (own_fails what.Type) (λ v. by_number Go (Fails Test) (passes Test) v _ (λ n. by_known Go (Fails Test) (passes Test) (slice_get s.types n) _ (λ t. inside_go n t)))

pub uses_whether : InsideUsesWhether
uses_whether s m before after above serve = goes_alike (is_of_inner m) before after (asking_of s (key m what.Inside)) (asking_go s m above) serve
