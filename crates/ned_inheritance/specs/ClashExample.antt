-- What of a type clashes, worked by hand.
use Rattle.std.specs.Prelude.{◌≡◌, ℕ, false, List, [], ◌∷◌, Option, Some, None, codes}
use Rattle.ned_trees.specs.declared.connections.ConnectionItem.{ConnectionItem}
use Rattle.ned_trees.specs.declared.connections.ConnectionItem.TheVariants as item
use Rattle.ned_trees.specs.declared.declarations.GateLine.{GateLine}
use Rattle.ned_trees.specs.declared.declarations.SectionLine.{SectionLine}
use Rattle.ned_trees.specs.declared.declarations.Submodule.{Submodule}
use Rattle.ned_trees.specs.declared.declarations.TypeKind.TheVariants.{Network}
use Rattle.ned_inheritance.specs.declared.places.Member.{Member}
use Rattle.ned_inheritance.specs.declared.places.Member.TheVariants as member
use Rattle.ned_inheritance.specs.Example.{connected_by, double_named, fixed_gap, gates_with}
use Rattle.ned_inheritance.specs.Example.{input_gate, output_gates, second_for, slow_channel, t_with}
use Rattle.ned_inheritance.specs.Example.{three_of, tick, tick_named}
use Rattle.ned_inheritance.specs.Places.{clash_in}

-- what clashes of `network N` with these members, where there are the simple type Tick and the
-- channel Slow
abbrev pub clash_of : List SectionLine → List GateLine → List Submodule → List ConnectionItem
    → Option Member
clash_of lines gates submodules items = clash_in (tick ∷ slow_channel ∷ [])
    (record {
      kind = Network;
      name = codes "N";
      base = None;
      interfaces = [];
      lines = lines;
      gates = gates;
      submodules = submodules;
      connections = record { allow_unconnected = false; items = items };
    })

-- `input g; output h[]; h[3]; input g; input h;`
abbrev pub gates_twice : List GateLine
gates_twice = input_gate (codes "g") ∷ output_gates (codes "h") ∷ three_of (codes "h")
    ∷ input_gate (codes "g") ∷ input_gate (codes "h") ∷ []

-- a connection without a fault, and then one of that channel and with that block, in a group behind
-- such a connection
abbrev pub second_of_group : Option (List ℕ) → List SectionLine → List ConnectionItem
second_of_group name block = item.Line (connected_by None []) ∷ item.Group (record {
  clauses = [];
  lines = connected_by None [] ∷ connected_by name block ∷ connected_by name block ∷ [];
}) ∷ []

-- the first member that clashes is told, by its number from 0: lines before gates, these before
-- submodules, and these before connections
pub record ExampleClashes : Type 0 where
  pub none : clash_of (double_named (codes "a") ∷ second_for (codes "a") ∷ [])
      (input_gate (codes "a") ∷ []) (tick_named (codes "a") ∷ []) (item.Line
      (connected_by (Some (codes "DelayChannel")) (second_for (codes "delay") ∷ [])) ∷ [])
      ≡ None
  -- the line that declares a parameter once more, and not the one that gives a value to none
  pub declared : clash_of (second_for (codes "c") ∷ double_named (codes "a")
      ∷ double_named (codes "b") ∷ double_named (codes "b") ∷ double_named (codes "a") ∷ [])
      gates_twice [] []
      ≡ Some (member.DeclaredAgain 3)
  pub undeclared : clash_of (double_named (codes "a") ∷ second_for (codes "b")
      ∷ second_for (codes "a") ∷ second_for (codes "a") ∷ [])
      gates_twice [] []
      ≡ Some (member.Undeclared 1)
  pub given : clash_of (double_named (codes "a") ∷ second_for (codes "a")
      ∷ second_for (codes "a") ∷ second_for (codes "a") ∷ [])
      gates_twice [] []
      ≡ Some (member.GivenAgain 2)
  -- a size of a gate declares none
  pub gate : clash_of [] gates_twice
      (tick_named (codes "t") ∷ tick_named (codes "t") ∷ []) []
      ≡ Some (member.GateAgain 3)
  -- the name of one before it, and not the type that is a channel
  pub submodule : clash_of [] [] (t_with (codes "Slow") [] ∷ tick_named (codes "u")
      ∷ tick_named (codes "u") ∷ tick_named (codes "t") ∷ []) []
      ≡ Some (member.SubmoduleAgain 2)
  pub other_kind : clash_of [] [] (tick_named (codes "u") ∷ t_with (codes "Slow") [] ∷ []) []
      ≡ Some (member.Submodule 1)
  -- a line that can't stand over those of Tick, before a value that is given again
  pub unfit : clash_of [] [] (tick_named (codes "u")
      ∷ t_with (codes "Tick") (fixed_gap 1 ∷ fixed_gap 2 ∷ second_for (codes "a") ∷ []) ∷ []) []
      ≡ Some (member.Unfit 1 2)
  pub unfit_again : clash_of [] [] (tick_named (codes "u")
      ∷ t_with (codes "Tick") (fixed_gap 1 ∷ fixed_gap 2 ∷ fixed_gap 3 ∷ []) ∷ []) []
      ≡ Some (member.UnfitAgain 1 1)
  pub body_gate : clash_of [] [] (tick_named (codes "u")
      ∷ gates_with (three_of (codes "in") ∷ input_gate (codes "in") ∷ []) ∷ [])
      (second_of_group (Some (codes "Tick")) [])
      ≡ Some (member.BodyGate 1 1)
  pub other_channel : clash_of [] [] [] (second_of_group (Some (codes "Tick")) [])
      ≡ Some (member.OtherChannel 1 1)
  pub block : clash_of [] [] [] (second_of_group (Some (codes "DelayChannel"))
      (second_for (codes "delay") ∷ second_for (codes "rate") ∷ []))
      ≡ Some (member.UnfitBlock 1 1 1)
  pub block_again : clash_of [] [] [] (second_of_group (Some (codes "DelayChannel"))
      (second_for (codes "delay") ∷ second_for (codes "delay") ∷ []))
      ≡ Some (member.UnfitBlockAgain 1 1 1)
