-- A property of askings goes through expressions, loops and connections, where it goes through what
-- is asked for.
use Rattle.std.proofs.Common.{◌≡◌, ℕ, ℤ, pos, negsuc, zero, suc, ◌-◌, ◌+ℤ◌, ◌==◌, Bool, true, false, List, [], ◌∷◌, length, Option, Some, None, Result, Ok, Err, refl, if◌then◌else◌}
use Rattle.param_following.specs.Asking.{Done, Ask}
use Rattle.param_eval.specs.References.{Reference}
use Rattle.param_eval.specs.Values.{Valued, valued}
use Rattle.sim_values.specs.declared.model_fault.ModelFault.{ModelFault}
use Rattle.sim_values.specs.declared.model_fault.ModelFault.TheVariants.{NoGate, TooManyTurns}
use Rattle.sim_values.specs.declared.value.Value.{Value}
use Rattle.sim_values.specs.declared.value.Value.TheVariants as value
use Rattle.ned_trees.specs.declared.connections.Arrow.{Arrow}
use Rattle.ned_trees.specs.declared.connections.Arrow.TheVariants.{Right, Left, Both as BothWays}
use Rattle.ned_trees.specs.declared.connections.Channel.{Channel}
use Rattle.ned_trees.specs.declared.connections.Clause.{Clause}
use Rattle.ned_trees.specs.declared.connections.Clause.TheVariants.{For, If}
use Rattle.ned_trees.specs.declared.connections.Connection.{Connection}
use Rattle.ned_trees.specs.declared.connections.ConnectionItem.{ConnectionItem}
use Rattle.ned_trees.specs.declared.connections.ConnectionItem.TheVariants.{Line, Group}
use Rattle.ned_trees.specs.declared.connections.ConnectionLine.{ConnectionLine}
use Rattle.ned_trees.specs.declared.connections.End.{End}
use Rattle.ned_trees.specs.declared.connections.GateIndex.{GateIndex}
use Rattle.ned_trees.specs.declared.connections.GateIndex.TheVariants.{At, Next}
use Rattle.ned_trees.specs.declared.connections.Owner.{Owner}
use Rattle.ned_trees.specs.declared.expressions.Expression.{Expression}
use Rattle.inside_parts.specs.declared.gates.TypeGates.{TypeGates}
use Rattle.inside_parts.specs.declared.parts.NamedGate.{NamedGate}
use Rattle.inside_wiring.specs.declared.ends.Taken.{Taken}
use Rattle.inside_wiring.specs.declared.wiring.Carrier.{Carrier}
use Rattle.inside_wiring.specs.declared.wiring.GateId.{GateId}
use Rattle.inside_wiring.specs.declared.wiring.Role.{Role}
use Rattle.inside_wiring.specs.Ends.{at_index, at_next, at_single, beside, fits, gate_named, left_role, linked, part_named, right_role}
use Rattle.inside_wiring.specs.Wired.{Wired}
use Rattle.inside_parts.specs.declared.parts.Parts.{Parts}
use Rattle.inside_keys.specs.declared.found.State.{State}
use Rattle.inside_keys.specs.declared.key.ChannelAt.{ChannelAt}
use Rattle.inside_keys.specs.declared.key.Key.{Key}
use Rattle.inside_keys.specs.declared.key.Module.{Module}
use Rattle.inside_keys.specs.declared.key.What.TheVariants as what
use Rattle.inside_keys.specs.declared.place.ExpressionPlace.{ExpressionPlace}
use Rattle.inside_keys.specs.declared.place.Meaning.{Meaning}
use Rattle.inside_keys.specs.declared.place.Meaning.TheVariants as meaning
use Rattle.inside_keys.specs.Asked.{KeyAsking, ask_then, carried_then, known_then, meant_then, number_then, numbered_by, result_then, size_then, sized_by, truth_then, valued_then, whole_then}
use Rattle.inside_keys.specs.Inside as inside
use Rattle.inside_keys.specs.Inside.{Rest}
use Rattle.inside_keys.specs.Keys.{key}
use Rattle.inside_keys.specs.Places.{Scope, bind, meant_under}
use Rattle.inside_keys.specs.States.{at_item, at_line, with_wiring}

-- the property has whatever is done with a fault, and what asks for a key that may be asked for
-- where it has what follows, whichever the value
pub record Passes (G : KeyAsking → Type 0) (May : Key → Type 0) : Type 0 where
  pub fault : (f : ModelFault) → G (Done (Err f))
  pub value : (k : Key) (next : Value → KeyAsking) → May k → ((v : Value) → G (next v)) → G (ask_then k next)
  pub carrier : (k : Key) (next : Carrier → KeyAsking) → May k → ((c : Carrier) → G (next c)) → G (carried_then k next)

module _ (G : KeyAsking → Type 0) (May : Key → Type 0) (passes : Passes G May) where
  pub by_result : {A : Type 0} (r : Result A ModelFault) (next : A → KeyAsking) → ((x : A) → G (next x)) → G (result_then r next)
  by_result (Ok x) next h = h x
  by_result (Err f) next h = passes.fault _

  pub by_known : {A : Type 0} (o : Option A) (next : A → KeyAsking) → ((x : A) → G (next x)) → G (known_then o next)
  by_known (Some x) next h = h x
  by_known None next h = passes.fault _

  pub by_whole : (v : Value) (next : ℤ → KeyAsking) → ((z : ℤ) → G (next z)) → G (whole_then v next)
  by_whole (value.Whole z) next h = h z
  by_whole (value.Truth b) next h = passes.fault _
  by_whole (value.Text t) next h = passes.fault _
  by_whole (value.Quantity d n) next h = passes.fault _

  pub by_truth : (v : Value) (if_so if_not : KeyAsking) → G if_so → G if_not → G (truth_then v if_so if_not)
  by_truth (value.Truth true) if_so if_not h k = h
  by_truth (value.Truth false) if_so if_not h k = k
  by_truth (value.Whole z) if_so if_not h k = passes.fault _
  by_truth (value.Text t) if_so if_not h k = passes.fault _
  by_truth (value.Quantity d n) if_so if_not h k = passes.fault _

  pub by_size : (v : Value) (next : ℕ → KeyAsking) → ((n : ℕ) → G (next n)) → G (size_then v next)
  by_size v next h = by_result (sized_by v) next h

  pub by_number : (v : Value) (next : ℕ → KeyAsking) → ((n : ℕ) → G (next n)) → G (number_then v next)
  by_number v next h = by_result (numbered_by v) next h

  -- an expression, all of whose references mean keys that may be asked for
  pub by_valued : (means : Reference → Meaning) (t : Valued) (next : Value → KeyAsking) → ((r : Reference) (k : Key) → means r ≡ meaning.Of k → May k) → ((v : Value) → G (next v)) → G (valued_then means t next)
  by_valued means (Done (Ok v)) next may h = h v
  by_valued means (Done (Err f)) next may h = passes.fault _
  by_valued means (Ask r rest) next may h = by (means r) (may r) (λ v. by_valued means (rest v) next may h)
    where
      by : (m : Meaning) → ((k : Key) → m ≡ meaning.Of k → May k) → ((v : Value) → G (valued_then means (rest v) next)) → G (meant_then m (λ v. valued_then means (rest v) next))
      by (meaning.Is v) all on = on v
      by (meaning.Of k) all on = passes.value k (λ v. valued_then means (rest v) next) (all k refl) on
      by meaning.Nothing all on = passes.fault _

  -- where what references mean in the type of a module may be asked for, and what its channels do
  module _ (place : ExpressionPlace) (meant : (scope : Scope) (r : Reference) (k : Key) → meant_under scope place r ≡ meaning.Of k → May k) where
    -- of these parts, whatever the connections
    abbrev pub GoesWith : Parts → Rest → Type 0
    GoesWith ps rest = (u : State) → u.parts ≡ ps → G (rest u)

    evaluated_go : (e : Expression) (scope : Scope) (rest : Value → KeyAsking) → ((v : Value) → G (rest v)) → G (inside.evaluated place e scope rest)
    evaluated_go e scope rest h = by_valued (meant_under scope place) (valued e) rest (λ r k is. meant scope r k is) h

    whole_go : (e : Expression) (scope : Scope) (rest : ℤ → KeyAsking) → ((z : ℤ) → G (rest z)) → G (inside.whole place e scope rest)
    whole_go e scope rest h = evaluated_go e scope _ (λ v. by_whole v rest h)

    module _ (ps : Parts) where
      counted_go : (u : State) (rest : Rest) → u.parts ≡ ps → GoesWith ps rest → G (inside.counted u rest)
      counted_go u rest q h = by (u.turns == 0)
        where
          by : (b : Bool) → G (if b then Done (Err TooManyTurns) else rest (record { parts = u.parts; wiring = u.wiring; turns = u.turns - 1; written = u.written }))
          by true = passes.fault _
          by false = h _ q

      turns_go : (n : ℕ) (z : ℤ) (each : ℤ → State → Rest → KeyAsking) → ((y : ℤ) (u : State) (rest : Rest) → u.parts ≡ ps → GoesWith ps rest → G (each y u rest)) → (u : State) (rest : Rest) → u.parts ≡ ps → GoesWith ps rest → G (inside.turns n z each u rest)
      turns_go zero z each f u rest q h = h u q
      turns_go (suc n) z each f u rest q h = counted_go u _ q (λ t a. f z t _ a (λ x b. turns_go n (z +ℤ pos 1) each f x rest b h))

      looped_go : (cs : List Clause) (body : Scope → State → Rest → KeyAsking) → ((scope : Scope) (u : State) (rest : Rest) → u.parts ≡ ps → GoesWith ps rest → G (body scope u rest))
          → (scope : Scope) (u : State) (rest : Rest) → u.parts ≡ ps → GoesWith ps rest → G (inside.looped place cs body scope u rest)
      looped_go [] body f scope u rest q h = f scope u rest q h
      looped_go (If e ∷ cs) body f scope u rest q h = evaluated_go e scope _ (λ v. by_truth v _ _ (looped_go cs body f scope u rest q h) (h u q))
      looped_go (For l ∷ cs) body f scope u rest q h = whole_go l.first scope _ (λ first. whole_go l.last scope _ (λ last.
          turns_go (inside.count first last) first _ (λ z t next a on. looped_go cs body f (bind l.variable z scope) t next a on) u rest q h))

    index_go : (o : Option Expression) (scope : Scope) (rest : Option ℤ → KeyAsking) → ((z : Option ℤ) → G (rest z)) → G (inside.index_then place o scope rest)
    index_go None scope rest h = h None
    index_go (Some e) scope rest h = whole_go e scope _ (λ z. h (Some z))

    module _ (names : List (List ℕ)) (gates : List TypeGates) where
      part_go : (o : Option Owner) (scope : Scope) (u : State) (rest : ℕ → KeyAsking) → ((n : ℕ) → G (rest n)) → G (inside.part_then place names gates o scope u rest)
      part_go None scope u rest h = h 0
      part_go (Some o) scope u rest h = index_go o.index scope _ (λ z. by_result (part_named names u.parts o.name z) rest h)

      module _ (role : Role) (other : Option GateId) (u : State) (rest : Taken → KeyAsking) (h : (t : Taken) → G (rest t)) where
        gate_go : (o : Option GateIndex) (g : NamedGate) (scope : Scope) → G (inside.gate_then place names gates o g role other scope u rest)
        gate_go None g scope = by g.kind.is_vector
          where
            by : (b : Bool) → G (if b then Done (Err NoGate) else result_then (at_single u.wiring other role g) rest)
            by true = passes.fault _
            by false = by_result (at_single u.wiring other role g) rest h
        gate_go (Some (At x)) g scope = by g.kind.is_vector
          where
            by : (b : Bool) → G (if b then inside.whole place x scope (λ z. result_then (at_index u.wiring other role g z) rest) else Done (Err NoGate))
            by true = whole_go x scope _ (λ z. by_result (at_index u.wiring other role g z) rest h)
            by false = passes.fault _
        gate_go (Some Next) g scope = by g.kind.is_vector
          where
            by : (b : Bool) → G (if b then result_then (at_next u.wiring other role g) rest else Done (Err NoGate))
            by true = by_result (at_next u.wiring other role g) rest h
            by false = passes.fault _

        named_go : (e : End) (scope : Scope) (part : ℕ) → G (inside.named_then place names gates e role other scope u part rest)
        named_go e scope part = by_result (gate_named gates u.parts (length u.wiring.sizes) part e.gate.name) _ (λ g. by g (fits g.is_own g.kind.direction e.gate.half role))
          where
            by : (g : NamedGate) (b : Bool) → G (if b then inside.gate_then place names gates e.gate.index g role other scope u rest else Done (Err NoGate))
            by g true = gate_go e.gate.index g scope
            by g false = passes.fault _

        end_go : (e : End) (scope : Scope) → G (inside.end_then place names gates e role other scope u rest)
        end_go e scope = part_go e.owner scope u _ (λ part. named_go e scope part)

      module _ (m : Module) (carries : (c : ChannelAt) → May (key m (what.Carrier c))) (is_whole : Bool) (ps : Parts) where
        joined_by_go : (o : Option Channel) (way : Arrow) (l r : GateId) (scope : Scope) (u : State) (rest : Rest) → u.parts ≡ ps → GoesWith ps rest → G (inside.joined_by m names gates is_whole o way l r scope u rest)
        joined_by_go None way l r scope u rest q h = h _ q
        joined_by_go (Some c) way l r scope u rest q h = passes.carrier (inside.carrier_from m names gates is_whole (inside.source_of way l r) scope u) _ (carries (inside.channel_from m names gates is_whole (inside.source_of way l r) scope u)) (λ onwards. by way onwards)
          where
            by : (way : Arrow) (onwards : Carrier) → G (inside.back_then m names gates is_whole way l r scope u rest onwards)
            by Right onwards = h _ q
            by Left onwards = h _ q
            by BothWays onwards = passes.carrier (inside.carrier_from m names gates is_whole r scope u) _ (carries (inside.channel_from m names gates is_whole r scope u)) (λ back. h _ q)

        connected_go : (c : Connection) (scope : Scope) (u : State) (rest : Rest) → u.parts ≡ ps → GoesWith ps rest → G (inside.connected place names gates (inside.joined m names gates is_whole) c scope u rest)
        connected_go c scope u rest q h = end_go (left_role c.arrow) None u _ (λ l.
            end_go (right_role c.arrow) (beside c.arrow l.id) (with_wiring u l.wiring) _ (λ r.
            joined_by_go (inside.channel_of is_whole c) c.arrow l.id r.id scope (with_wiring (with_wiring u l.wiring) r.wiring) rest q h)
            c.right scope) c.left scope

        lines_go : (cs : List ConnectionLine) (scope : Scope) (u : State) (rest : Rest) → u.parts ≡ ps → GoesWith ps rest → G (inside.connection_lines place names gates (inside.joined m names gates is_whole) cs scope u rest)
        lines_go [] scope u rest q h = h u q
        lines_go (c ∷ cs) scope u rest q h = looped_go ps c.clauses _ (λ k t next a on. connected_go c.connection k t next a on) scope (at_line u (length cs)) _ q (λ t a. lines_go cs scope t rest a h)

        item_go : (i : ConnectionItem) (scope : Scope) (u : State) (rest : Rest) → u.parts ≡ ps → GoesWith ps rest → G (inside.item place names gates (inside.joined m names gates is_whole) i scope u rest)
        item_go (Line c) scope u rest q h = looped_go ps c.clauses _ (λ k t next a on. connected_go c.connection k t next a on) scope u rest q h
        item_go (Group g) scope u rest q h = looped_go ps g.clauses _ (λ k t next a on. lines_go g.lines k t next a on) scope u rest q h

        -- the connections of a module leave its parts as they are
        pub items_go : (is : List ConnectionItem) (scope : Scope) (u : State) (rest : Rest) → u.parts ≡ ps → GoesWith ps rest → G (inside.items place names gates (inside.joined m names gates is_whole) is scope u rest)
        items_go [] scope u rest q h = h u q
        items_go (i ∷ is) scope u rest q h = item_go i scope (at_item u (length is)) _ q (λ t a. items_go is scope t rest a h)
