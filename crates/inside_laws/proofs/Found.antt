-- Each inside that is found is sound.
use Rattle.std.proofs.Common.{◌≡◌, ◌∙◌, ℕ, ℤ, pos, zero, suc, ◌-◌, ◌+ℤ◌, ◌<◌, ◌==◌, Bool, true, false, not, List, [], ◌∷◌, length, map, Option, Some, None, is_some, Ok, Err, refl, ap, sym, subst, if◌then◌else◌}
use Rattle.std.specs.Prelude.{slice_get, slice_index}
use Rattle.param_following.specs.Asking.{Done}
use Rattle.param_following.specs.Following.{Rules}
use Rattle.param_eval.specs.Values.{valued}
use Rattle.sim_values.specs.declared.model_fault.ModelFault.{ModelFault}
use Rattle.sim_values.specs.declared.model_fault.ModelFault.TheVariants.{NoGate, TooManyTurns}
use Rattle.sim_values.specs.declared.value.Value.{Value}
use Rattle.sim_values.specs.declared.value.Value.TheVariants as value
use Rattle.ned_trees.specs.declared.connections.Arrow.{Arrow}
use Rattle.ned_trees.specs.declared.connections.Arrow.TheVariants.{Right, Left, Both as BothWays}
use Rattle.ned_trees.specs.declared.connections.Channel.{Channel}
use Rattle.ned_trees.specs.declared.connections.Clause.{Clause}
use Rattle.ned_trees.specs.declared.connections.Clause.TheVariants.{For, If}
use Rattle.ned_trees.specs.declared.connections.Connection.{Connection}
use Rattle.ned_trees.specs.declared.connections.ConnectionItem.{ConnectionItem}
use Rattle.ned_trees.specs.declared.connections.ConnectionItem.TheVariants.{Line, Group}
use Rattle.ned_trees.specs.declared.connections.ConnectionLine.{ConnectionLine}
use Rattle.ned_trees.specs.declared.connections.End.{End}
use Rattle.ned_trees.specs.declared.connections.GateIndex.{GateIndex}
use Rattle.ned_trees.specs.declared.connections.GateIndex.TheVariants.{At, Next}
use Rattle.ned_trees.specs.declared.connections.Owner.{Owner}
use Rattle.ned_trees.specs.declared.declarations.Submodule.{Submodule}
use Rattle.ned_trees.specs.declared.declarations.TypeDeclaration.{TypeDeclaration}
use Rattle.ned_trees.specs.declared.expressions.Expression.{Expression}
use Rattle.inside_parts.specs.declared.gates.TypeGates.{TypeGates}
use Rattle.inside_parts.specs.declared.parts.NamedGate.{NamedGate}
use Rattle.inside_wiring.specs.declared.ends.Taken.{Taken}
use Rattle.inside_wiring.specs.declared.wiring.Carrier.{Carrier}
use Rattle.inside_wiring.specs.declared.wiring.GateId.{GateId}
use Rattle.inside_wiring.specs.declared.wiring.Role.{Role}
use Rattle.inside_wiring.specs.declared.wiring.Role.TheVariants.{Source, Target, Both}
use Rattle.inside_wiring.specs.Ends.{at_index, at_next, at_single, beside, fits, gate_named, left_role, linked, part_named, right_role}
use Rattle.inside_wiring.specs.Wired.{is_free, key as gate_key}
use Rattle.inside_keys.specs.declared.found.Found.{Found}
use Rattle.inside_keys.specs.declared.found.Found.TheVariants as found
use Rattle.inside_keys.specs.declared.found.Inside.{Inside}
use Rattle.inside_keys.specs.declared.found.State.{State}
use Rattle.inside_keys.specs.declared.key.Key.{Key}
use Rattle.inside_keys.specs.declared.key.Module.{Module}
use Rattle.inside_keys.specs.declared.key.What.TheVariants as what
use Rattle.inside_keys.specs.declared.place.ExpressionPlace.{ExpressionPlace}
use Rattle.inside_keys.specs.Asked.{KeyAsking, result_then}
use Rattle.inside_keys.specs.Inside as inside
use Rattle.inside_keys.specs.Inside.{Rest}
use Rattle.inside_keys.specs.Keys.{key}
use Rattle.inside_keys.specs.Places.{Scope, bind, meant_under}
use Rattle.inside_keys.specs.States.{at_item, at_line, with_wiring}
use Rattle.std.specs.Option.{option_and_then}
use Rattle.ned_trees.specs.declared.declarations.GateLine.{GateLine}
use Rattle.ned_trees.specs.declared.declarations.GateLine.TheVariants as gate
use Rattle.ned_trees.specs.declared.declarations.SubmoduleBody.{SubmoduleBody}
use Rattle.ned_types.specs.Flat.{or_else}
use Rattle.inside_parts.specs.Gates.{gates_of}
use Rattle.inside_parts.specs.Names.{position_of}
use Rattle.inside_keys.specs.declared.place.Section.TheVariants as section
use Rattle.inside_keys.specs.Given.{gate_size_posed, has_gate, has_vector, is_misplaced, is_vector_at, misplaced, misplaced_in, named_in}
use Rattle.inside_keys.specs.Inside.{gates_in}
use Rattle.inside_keys.specs.Settings.{ModuleRules, declarer, place_in, type_gates}
use Rattle.inside_keys.specs.Values.{asking_of, body_of_declarer, declared_asking, inside_of, planned_body, rules_of, sized_or_open, typed_then, value_at}
use Rattle.inside_laws.specs.Sound.{AreOnce, Each, IsLink, IsSound}
use Rattle.inside_laws.proofs.Laid.{AreSizes, IsBegun, IsDue, gates_go, laid_next, sized_by, submodules_go}
use Rattle.inside_laws.proofs.Lists.{none_is_none}
use Rattle.inside_laws.proofs.Ending.{Ends, IsKnown, known_ends, known_once, value_known, by_carrier, by_known, by_number, by_result, by_truth, by_value, by_valued, by_whole}
use Rattle.inside_laws.proofs.Joined.{CanBe, IsTaken, IsWired, both_linked, end_grows, fits_can, index_is, next_is, one_linked, open_is, same_links, single_is, not_same}

module _ (rules : Rules Key Found ModelFault) (P : Found → Type 0) where
  abbrev pub Go : KeyAsking → Type 0
  Go t = Ends rules P t

  -- where a state is so, what follows it goes on
  abbrev pub GoesFrom : (State → Type 0) → Rest → Type 0
  GoesFrom Q rest = (t : State) → Q t → Go (rest t)

  module _ (place : ExpressionPlace) where
    evaluated_go : (e : Expression) (scope : Scope) (rest : Value → KeyAsking) → ((v : Value) → Go (rest v)) → Go (inside.evaluated place e scope rest)
    evaluated_go e scope rest h = by_valued rules P (meant_under scope place) (valued e) rest h

    whole_go : (e : Expression) (scope : Scope) (rest : ℤ → KeyAsking) → ((z : ℤ) → Go (rest z)) → Go (inside.whole place e scope rest)
    whole_go e scope rest h = evaluated_go e scope _ (λ v. by_whole rules P v rest h)

    module _ (Q : State → Type 0) (counts : (s : State) (n : ℕ) → Q s → Q (record { parts = s.parts; wiring = s.wiring; turns = n; written = s.written })) where
      counted_go : (s : State) (rest : Rest) → Q s → GoesFrom Q rest → Go (inside.counted s rest)
      counted_go s rest q h = by (s.turns == 0)
        where
          by : (b : Bool) → Go (if b then Done (Err TooManyTurns) else rest (record { parts = s.parts; wiring = s.wiring; turns = s.turns - 1; written = s.written }))
          by true = tt
          by false = h _ (counts s (s.turns - 1) q)

      turns_go : (n : ℕ) (z : ℤ) (each : ℤ → State → Rest → KeyAsking) → ((y : ℤ) (s : State) (rest : Rest) → Q s → GoesFrom Q rest → Go (each y s rest)) → (s : State) (rest : Rest) → Q s → GoesFrom Q rest → Go (inside.turns n z each s rest)
      turns_go zero z each f s rest q h = h s q
      turns_go (suc n) z each f s rest q h = counted_go s _ q (λ t a. f z t _ a (λ u b. turns_go n (z +ℤ pos 1) each f u rest b h))

      looped_go : (cs : List Clause) (body : Scope → State → Rest → KeyAsking) → ((scope : Scope) (s : State) (rest : Rest) → Q s → GoesFrom Q rest → Go (body scope s rest))
          → (scope : Scope) (s : State) (rest : Rest) → Q s → GoesFrom Q rest → Go (inside.looped place cs body scope s rest)
      looped_go [] body f scope s rest q h = f scope s rest q h
      looped_go (If e ∷ cs) body f scope s rest q h = evaluated_go e scope _ (λ v. by_truth rules P v _ _ (looped_go cs body f scope s rest q h) (h s q))
      looped_go (For l ∷ cs) body f scope s rest q h = whole_go l.first scope _ (λ first. whole_go l.last scope _ (λ last.
          turns_go (inside.count first last) first _ (λ z t next a on. looped_go cs body f (bind l.variable z scope) t next a on) s rest q h))

    module _ (names : List (List ℕ)) (gates : List TypeGates) where
      abbrev Q : State → Type 0
      Q s = IsWired gates s.parts s.wiring

      index_go : (o : Option Expression) (scope : Scope) (rest : Option ℤ → KeyAsking) → ((z : Option ℤ) → Go (rest z)) → Go (inside.index_then place o scope rest)
      index_go None scope rest h = h None
      index_go (Some e) scope rest h = whole_go e scope _ (λ z. h (Some z))

      part_go : (o : Option Owner) (scope : Scope) (s : State) (rest : ℕ → KeyAsking) → ((n : ℕ) → Go (rest n)) → Go (inside.part_then place names gates o scope s rest)
      part_go None scope s rest h = h 0
      part_go (Some m) scope s rest h = index_go m.index scope _ (λ z. by_result rules P (part_named names s.parts m.name z) rest (λ n e. h n))

      module _ (role : Role) (other : Option GateId) (s : State) (wired : Q s) (within : (o : GateId) → other ≡ Some o → o.index < slice_index s.wiring.sizes o.vector) (rest : Taken → KeyAsking)
          (h : (t : Taken) → IsTaken gates s.parts s.wiring other role t → Go (rest t)) where
        gate_go : (part : ℕ) (name : List ℕ) (g : NamedGate) → gate_named gates s.parts (length s.wiring.sizes) part name ≡ Ok g → CanBe role g.is_own g.kind.direction → (o : Option GateIndex) (scope : Scope) → Go (inside.gate_then place names gates o g role other scope s rest)
        gate_go part name g named able None scope = by g.kind.is_vector refl
          where
            by : (b : Bool) → g.kind.is_vector ≡ b → Go (if b then Done (Err NoGate) else result_then (at_single s.wiring other role g) rest)
            by true e = tt
            by false e = by_result rules P (at_single s.wiring other role g) rest (λ t f. h t (single_is gates s.parts s.wiring wired other within role part name g named able e t f))
        gate_go part name g named able (Some (At x)) scope = by g.kind.is_vector
          where
            by : (b : Bool) → Go (if b then inside.whole place x scope (λ z. result_then (at_index s.wiring other role g z) rest) else Done (Err NoGate))
            by true = whole_go x scope _ (λ z. by_result rules P (at_index s.wiring other role g z) rest (λ t f. h t (index_is gates s.parts s.wiring wired other within role part name g named able z t f)))
            by false = tt
        gate_go part name g named able (Some Next) scope = by g.kind.is_vector
          where
            by : (b : Bool) → Go (if b then result_then (at_next s.wiring other role g) rest else Done (Err NoGate))
            by true = by_result rules P (at_next s.wiring other role g) rest (λ t f. h t (next_is gates s.parts s.wiring wired other within role part name g named able t f))
            by false = tt

        named_go : (e : End) (scope : Scope) (part : ℕ) → Go (inside.named_then place names gates e role other scope s part rest)
        named_go e scope part = by_result rules P (gate_named gates s.parts (length s.wiring.sizes) part e.gate.name) _ (λ g named. by g named (fits g.is_own g.kind.direction e.gate.half role) refl)
          where
            by : (g : NamedGate) → gate_named gates s.parts (length s.wiring.sizes) part e.gate.name ≡ Ok g → (b : Bool) → fits g.is_own g.kind.direction e.gate.half role ≡ b → Go (if b then inside.gate_then place names gates e.gate.index g role other scope s rest else Done (Err NoGate))
            by g named true f = gate_go part e.gate.name g named (fits_can g.is_own g.kind.direction e.gate.half role f) e.gate.index scope
            by g named false f = tt

        end_go : (e : End) (scope : Scope) → Go (inside.end_then place names gates e role other scope s rest)
        end_go e scope = part_go e.owner scope s _ (λ part. named_go e scope part)

      -- the connection that is made between two gates that are taken
      made : (way : Arrow) (s : State) (l r : Taken) → Q s → IsTaken gates s.parts s.wiring None (left_role way) l → IsTaken gates s.parts l.wiring (beside way l.id) (right_role way) r
          → (onwards back : Carrier) → IsWired gates s.parts (linked way l.id r.id onwards back r.wiring)
      made way s l r wired left right onwards back = by way left right
        where
          grown : IsWired gates s.parts l.wiring
          grown = same_links gates s.parts s.wiring l.wiring wired left.links left.grows

          more : IsWired gates s.parts r.wiring
          more = same_links gates s.parts l.wiring r.wiring grown right.links right.grows

          links_are : r.wiring.links ≡ s.wiring.links
          links_are = right.links ∙ left.links

          by : (way : Arrow) → IsTaken gates s.parts s.wiring None (left_role way) l → IsTaken gates s.parts l.wiring (beside way l.id) (right_role way) r → IsWired gates s.parts (linked way l.id r.id onwards back r.wiring)
          by Right a b = one_linked gates s.parts r.wiring (record { from = l.id; to = r.id; carrier = onwards }) more (end_grows _ gates s.parts l.wiring.sizes r.wiring.sizes l.id b.grows a.end, b.end)
              (subst (λ ls. is_free ls Source (gate_key l.id) ≡ true) (sym links_are) (open_is s.wiring.links None Source (gate_key l.id) a.free).1)
              (subst (λ ls. is_free ls Target (gate_key r.id) ≡ true) (sym b.links) (open_is l.wiring.links None Target (gate_key r.id) b.free).1)
          by Left a b = one_linked gates s.parts r.wiring (record { from = r.id; to = l.id; carrier = onwards }) more (b.end, end_grows _ gates s.parts l.wiring.sizes r.wiring.sizes l.id b.grows a.end)
              (subst (λ ls. is_free ls Source (gate_key r.id) ≡ true) (sym b.links) (open_is l.wiring.links None Source (gate_key r.id) b.free).1)
              (subst (λ ls. is_free ls Target (gate_key l.id) ≡ true) (sym links_are) (open_is s.wiring.links None Target (gate_key l.id) a.free).1)
          by BothWays a b = both_linked gates s.parts r.wiring l.id r.id onwards back more
              (end_grows _ gates s.parts l.wiring.sizes r.wiring.sizes l.id b.grows a.end.0, end_grows _ gates s.parts l.wiring.sizes r.wiring.sizes l.id b.grows a.end.1) b.end
              (subst (λ ls. is_free ls Both (gate_key l.id) ≡ true) (sym links_are) (open_is s.wiring.links None Both (gate_key l.id) a.free).1)
              (subst (λ ls. is_free ls Both (gate_key r.id) ≡ true) (sym b.links) (open_is l.wiring.links (Some l.id) Both (gate_key r.id) b.free).1)
              (not_same (gate_key l.id) (gate_key r.id) (open_is l.wiring.links (Some l.id) Both (gate_key r.id) b.free).0)

      -- the gate of the left end is within its vector
      beside_within : (way : Arrow) (l : Taken) → l.id.index < slice_index l.wiring.sizes l.id.vector → (o : GateId) → beside way l.id ≡ Some o → o.index < slice_index l.wiring.sizes o.vector
      beside_within Right l h o e = absurd (cc)
      beside_within Left l h o e = absurd (cc)
      beside_within BothWays l h o e = subst (λ (x : GateId). x.index < slice_index l.wiring.sizes x.vector) (let same : l.id ≡ o = cc in same) h

      module _ (m : Module) (is_whole : Bool) where
        joined_by_go : (o : Option Channel) (way : Arrow) (l r : GateId) (scope : Scope) (s : State) (rest : Rest) → ((onwards back : Carrier) → Go (rest (with_wiring s (linked way l r onwards back s.wiring)))) → Go (inside.joined_by m names gates is_whole o way l r scope s rest)
        joined_by_go None way l r scope s rest h = h _ _
        joined_by_go (Some c) way l r scope s rest h = by_carrier rules P _ _ (λ onwards. by way h onwards)
          where
            by : (way : Arrow) → ((onwards back : Carrier) → Go (rest (with_wiring s (linked way l r onwards back s.wiring)))) → (onwards : Carrier) → Go (inside.back_then m names gates is_whole way l r scope s rest onwards)
            by Right f onwards = f onwards onwards
            by Left f onwards = f onwards onwards
            by BothWays f onwards = by_carrier rules P _ _ (λ back. f onwards back)

        connected_go : (c : Connection) (scope : Scope) (s : State) (rest : Rest) → Q s → GoesFrom Q rest → Go (inside.connected place names gates (inside.joined m names gates is_whole) c scope s rest)
        connected_go c scope s rest wired h = end_go (left_role c.arrow) None s wired (λ o e. absurd (cc)) _ (λ l left.
            end_go (right_role c.arrow) (beside c.arrow l.id) (with_wiring s l.wiring) (same_links gates s.parts s.wiring l.wiring wired left.links left.grows) (beside_within c.arrow l left.within) _ (λ r right.
            joined_by_go (inside.channel_of is_whole c) c.arrow l.id r.id scope (with_wiring s r.wiring) rest (λ onwards back. h _ (made c.arrow s l r wired left right onwards back)))
            c.right scope) c.left scope

        lines_go : (ls : List ConnectionLine) (scope : Scope) (s : State) (rest : Rest) → Q s → GoesFrom Q rest → Go (inside.connection_lines place names gates (inside.joined m names gates is_whole) ls scope s rest)
        lines_go [] scope s rest q h = h s q
        lines_go (c ∷ cs) scope s rest q h = looped_go Q (λ t n a. a) c.clauses _ (λ sc t r a on. connected_go c.connection sc t r a on) scope (at_line s (length cs)) _ q (λ t a. lines_go cs scope t rest a h)

        item_go : (i : ConnectionItem) (scope : Scope) (s : State) (rest : Rest) → Q s → GoesFrom Q rest → Go (inside.item place names gates (inside.joined m names gates is_whole) i scope s rest)
        item_go (Line c) scope s rest q h = looped_go Q (λ t n a. a) c.clauses _ (λ sc t r a on. connected_go c.connection sc t r a on) scope s rest q h
        item_go (Group g) scope s rest q h = looped_go Q (λ t n a. a) g.clauses _ (λ sc t r a on. lines_go g.lines sc t r a on) scope s rest q h

        pub items_go : (is : List ConnectionItem) (scope : Scope) (s : State) (rest : Rest) → Q s → GoesFrom Q rest → Go (inside.items place names gates (inside.joined m names gates is_whole) is scope s rest)
        items_go [] scope s rest q h = h s q
        items_go (i ∷ is) scope s rest q h = item_go i scope (at_item s (length is)) _ q (λ t a. items_go is scope t rest a h)

-- ---- the inside of a module

-- an asking never comes to anything
abbrev pub Never : Found → Type 0
Never f = ⊥

-- an inside is sound
abbrev pub IsSoundWhere : List TypeGates → Found → Type 0
IsSoundWhere types (found.Inside i) = IsSound types i
IsSoundWhere types (found.Value v) = Unit {0}
IsSoundWhere types (found.Carrier c) = Unit {0}

begun_wired : (types : List TypeGates) (s : State) → IsBegun types s → IsWired types s.parts s.wiring
begun_wired types s h = record {
  order = h.order;
  laid = h.laid;
  links = subst (λ ls. Each (IsLink types s.parts s.wiring.sizes) ls) (sym h.links) tt;
  once = subst AreOnce (sym h.links) tt;
}

wired_sound : (types : List TypeGates) (s : State) → IsWired types s.parts s.wiring → IsSound types (record { parts = s.parts; wiring = s.wiring })
wired_sound types s h = record { order = h.order; links = h.links; once = h.once }

module _ (s : ModuleRules) where
  -- ---- what names no gate vector has no declared size

  get_gates : (ts : List TypeDeclaration) (n : ℕ) (t : TypeDeclaration) → slice_get ts n ≡ Some t → slice_get (map (λ (t : TypeDeclaration). gates_of t.gates) ts) n ≡ Some (gates_of t.gates)
  get_gates [] n t h = absurd (none_is_none h)
  get_gates (u ∷ ts) zero t h = let same : u ≡ t = cc in ap (λ (x : TypeDeclaration). Some (gates_of x.gates)) same
  get_gates (u ∷ ts) (suc n) t h = get_gates ts n t h

  no_gate_no_vector : (gates : TypeGates) (o : Option ℕ) → is_some o ≡ false → is_vector_at (option_and_then (slice_get gates.gates) o) ≡ false
  no_gate_no_vector gates None h = refl
  no_gate_no_vector gates (Some n) h = absurd (cc)

  not_true : (b : Bool) → not b ≡ true → b ≡ false
  not_true true h = absurd (cc)
  not_true false h = refl

  sized_or_not : (gates : TypeGates) (name : List ℕ) (b : Bool) → not (if b then has_vector gates name else has_gate gates name) ≡ true → has_vector gates name ≡ false
  sized_or_not gates name true h = not_true (has_vector gates name) h
  sized_or_not gates name false h = no_gate_no_vector gates (position_of name gates.names) (not_true (has_gate gates name) h)

  misplaced_line : (gates : TypeGates) (l : GateLine) → is_misplaced gates l ≡ true → has_vector gates (named_in l) ≡ false
  misplaced_line gates (gate.Declaration d) h = absurd (cc)
  misplaced_line gates (gate.Refinement r) h = sized_or_not gates r.name (is_some r.size) h

  misplaced_no_vector : (gates : TypeGates) (ls : List GateLine) (name : List ℕ) → misplaced gates ls ≡ Some name → has_vector gates name ≡ false
  misplaced_no_vector gates [] name h = absurd (none_is_none h)
  misplaced_no_vector gates (l ∷ ls) name h = by (is_misplaced gates l) refl h (λ f. misplaced_no_vector gates ls name f)
    where
      by : (b : Bool) → is_misplaced gates l ≡ b → (if b then Some (named_in l) else misplaced gates ls) ≡ Some name → (misplaced gates ls ≡ Some name → has_vector gates name ≡ false) → has_vector gates name ≡ false
      by true e f on = subst (λ x. has_vector gates x ≡ false) (let same : named_in l ≡ name = cc in same) (misplaced_line gates l e)
      by false e f on = on f

  or_else_no_vector : (gates : TypeGates) (o : Option (List ℕ)) (ls : List GateLine) (name : List ℕ) → ((x : List ℕ) → o ≡ Some x → has_vector gates x ≡ false) → or_else o (misplaced gates ls) ≡ Some name → has_vector gates name ≡ false
  or_else_no_vector gates None ls name f h = misplaced_no_vector gates ls name h
  or_else_no_vector gates (Some x) ls name f h = subst (λ y. has_vector gates y ≡ false) (let same : x ≡ name = cc in same) (f x refl)

  no_vector : (n : ℕ) (t : TypeDeclaration) (body : SubmoduleBody) (name : List ℕ) → slice_get s.types n ≡ Some t → misplaced_in (slice_get (type_gates s) n) t body ≡ Some name → has_vector (gates_of t.gates) name ≡ false
  no_vector n t body name there h =
      let gates = gates_of t.gates in
      or_else_no_vector gates (misplaced gates body.gates) t.gates name (λ x e. misplaced_no_vector gates body.gates x e)
      (subst (λ o. misplaced_in o t body ≡ Some name) (get_gates s.types n t there) h)

  refused : (at : Module) (l : Submodule) (n : ℕ) (t : TypeDeclaration) (name : List ℕ) (v : Value) → IsKnown (rules_of s) (key at what.Type) (found.Value (value.Whole (pos n))) → slice_get s.types n ≡ Some t
      → misplaced_in (slice_get (type_gates s) n) t l.body ≡ Some name → IsKnown (rules_of s) (key at (what.Declared name)) (found.Value v) → ⊥
  refused at l n t name v typed there h known = known_ends (rules_of s) Never (key at (what.Declared name)) (found.Value v) ends known
    where
      body_go : (next : SubmoduleBody → KeyAsking) → ((b : SubmoduleBody) → Ends (rules_of s) Never (next b)) → (o : Option Module) → Ends (rules_of s) Never (body_of_declarer s at o next)
      body_go next f None = f (planned_body (s.planned at))
      body_go next f (Some around) = by_value (rules_of s) Never _ _ (λ w known. by_number (rules_of s) Never w _ (λ k e. by_known (rules_of s) Never (slice_get s.types k) _ (λ u there. f _)))

      declared_go : (u : TypeDeclaration) → u ≡ t → (b : SubmoduleBody) → Ends (rules_of s) Never (declared_asking s at u name b)
      declared_go u same b = by (has_vector (gates_of u.gates) name) (ap (λ (x : TypeDeclaration). has_vector (gates_of x.gates) name) same ∙ no_vector n t l.body name there h)
        where
          by : (c : Bool) → c ≡ false → Ends (rules_of s) Never (if c then sized_or_open s (gate_size_posed s at u b name) else Done (Err NoGate))
          by true e = absurd (cc)
          by false e = tt

      same_number : (w : Value) (k : ℕ) → IsKnown (rules_of s) (key at what.Type) (found.Value w) → w ≡ value.Whole (pos k) → k ≡ n
      same_number w k a e =
          let one : found.Value w ≡ found.Value (value.Whole (pos n)) = known_once (rules_of s) (key at what.Type) (found.Value w) (found.Value (value.Whole (pos n))) a typed in
          let two : found.Value (value.Whole (pos k)) ≡ found.Value (value.Whole (pos n)) = ap (λ x. found.Value x) (sym e) ∙ one in cc

      ends : Ends (rules_of s) Never (asking_of s (key at (what.Declared name)))
      ends = by_value (rules_of s) Never _ _ (λ w a. by_number (rules_of s) Never w _ (λ k e. by_known (rules_of s) Never (slice_get s.types k) _ (λ u is_there.
          body_go (declared_asking s at u name) (declared_go u (let same : Some u ≡ Some t = sym is_there ∙ (ap (λ x. slice_get s.types x) (same_number w k a e) ∙ there) in let is : u ≡ t = cc in is)) (declarer s at))))

  -- ---- insides

  inside_go : (m : Module) (is_whole : Bool) (place : ExpressionPlace) (n : ℕ) (t : TypeDeclaration) → Ends (rules_of s) (IsSoundWhere (type_gates s)) (inside.inside m s.types (type_gates s) is_whole place n t)
  inside_go m is_whole place n t =
      gates_go (rules_of s) (IsSoundWhere (type_gates s)) m what.GateSize (gates_in (slice_get (type_gates s) n)) (inside.own_part n) _ (λ added sizes.
      submodules_go (rules_of s) (IsSoundWhere (type_gates s)) m s.types (type_gates s) is_whole refused t.submodules (sized_by (inside.own_part n) added) _ (own_due n added sizes) (λ u due.
      items_go (rules_of s) (IsSoundWhere (type_gates s)) place (inside.submodule_names t) (type_gates s) m is_whole t.connections.items [] u inside.made_of (begun_wired (type_gates s) u due.begun) (λ w wired.
      wired_sound (type_gates s) w wired)))
    where
      own_due : (n : ℕ) (added : List ℕ) → AreSizes (gates_in (slice_get (type_gates s) n)) added → IsDue (type_gates s) (sized_by (inside.own_part n) added)
      own_due n added sizes = record {
        begun = record {
          links = refl;
          order = (refl, tt);
          laid = (laid_next (type_gates s) [] added (record { first = 0; of_type = n; is_own = true; line = 0; index = None }) refl sizes, tt);
        };
        below = tt;
      }

  typed_go : (m : Module) (is_whole : Bool) → Ends (rules_of s) (IsSoundWhere (type_gates s)) (typed_then s m (inside_of s m is_whole))
  typed_go m is_whole = by_value (rules_of s) (IsSoundWhere (type_gates s)) _ _ (λ v known. by_number (rules_of s) (IsSoundWhere (type_gates s)) v _ (λ n e. by_known (rules_of s) (IsSoundWhere (type_gates s)) (slice_get s.types n) _ (λ t there.
      inside_go m is_whole (place_in s m section.OfInside) n t)))

  pub whole_sound : (m : Module) (i : Inside) → value_at s (key m what.Inside) ≡ Ok (found.Inside i) → IsSound (type_gates s) i
  whole_sound m i h = known_ends (rules_of s) (IsSoundWhere (type_gates s)) (key m what.Inside) (found.Inside i) (typed_go m true) (value_known (rules_of s) (key m what.Inside) (found.Inside i) h)

  pub joined_sound : (m : Module) (i : Inside) → value_at s (key m what.Joined) ≡ Ok (found.Inside i) → IsSound (type_gates s) i
  joined_sound m i h = known_ends (rules_of s) (IsSoundWhere (type_gates s)) (key m what.Joined) (found.Inside i) (typed_go m false) (value_known (rules_of s) (key m what.Joined) (found.Inside i) h)
