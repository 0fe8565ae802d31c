-- Where the gates of an inside lead, and what leads to them.
use Rattle.std.specs.Prelude.{ℕ, ◌-◌, ◌==◌, Bool, true, false, bytes_eq, List, [], ◌∷◌, ◌++◌}
use Rattle.std.specs.Prelude.{Option, Some, None, nat_lt, option_map, slice_get, if◌then◌else◌}
use Rattle.std.specs.Option.{option_and_then}
use Rattle.ned_trees.specs.declared.connections.Half.{Half}
use Rattle.ned_trees.specs.declared.connections.Half.TheVariants as half
use Rattle.ned_trees.specs.declared.declarations.GateDirection.{GateDirection}
use Rattle.ned_trees.specs.declared.declarations.GateDirection.TheVariants as direction
use Rattle.ned_trees.specs.declared.declarations.Submodule.{Submodule}
use Rattle.ned_types.specs.Flat.{or_else}
use Rattle.inside_parts.specs.declared.gates.TypeGate.{TypeGate}
use Rattle.inside_parts.specs.declared.gates.TypeGates.{TypeGates}
use Rattle.inside_parts.specs.declared.parts.NamedGate.{NamedGate}
use Rattle.inside_parts.specs.declared.parts.Part.{Part}
use Rattle.inside_wiring.specs.declared.wiring.Carrier.{Carrier}
use Rattle.inside_wiring.specs.declared.wiring.ChannelKind as carrier_kind
use Rattle.inside_wiring.specs.declared.wiring.ChannelKind.TheVariants as carried
use Rattle.inside_wiring.specs.declared.wiring.GateId.{GateId}
use Rattle.inside_wiring.specs.declared.wiring.Link.{Link}
use Rattle.inside_wiring.specs.Wired.{Wired, link_from, link_to}
use Rattle.inside_parts.specs.declared.parts.Parts.{Parts}
use Rattle.model_questions.specs.declared.answer.Channel.{Channel}
use Rattle.model_questions.specs.declared.answer.ChannelKind.{ChannelKind}
use Rattle.model_questions.specs.declared.answer.ChannelKind.TheVariants as kind
use Rattle.model_questions.specs.declared.answer.Neighbour.{Neighbour}
use Rattle.model_questions.specs.declared.answer.Neighbour.TheVariants as neighbour
use Rattle.model_questions.specs.declared.answer.NextGate.{NextGate}
use Rattle.model_questions.specs.Gates.{in_mark, out_mark}
use Rattle.model_inside.specs.Built.{name_of_part}
use Rattle.model_inside.specs.Sized.{vector_of}
use Rattle.model_inside.specs.declared.hops.Seen.{Seen}
use Rattle.model_inside.specs.declared.hops.Seen.TheVariants.{FromOutside, FromInside}
use Rattle.model_inside.specs.declared.hops.Way.{Way}
use Rattle.model_inside.specs.declared.hops.Way.TheVariants.{Onwards, Back}

-- ---- halves of gates

abbrev pub half_if : Bool → Half → Option Half
half_if is h = if is then Some h else None

-- the half that a name means of a gate of that name and direction: a gate of one direction is a
-- half; of one that goes both ways there are `g$i` and `g$o`
abbrev pub half_by : List ℕ → List ℕ → GateDirection → Option Half
half_by name g direction.Input = half_if (bytes_eq g name) half.Input
half_by name g direction.Output = half_if (bytes_eq g name) half.Output
half_by name g direction.Inout =
    if bytes_eq (g ++ in_mark) name then Some half.Input else if bytes_eq (g ++ out_mark) name
    then Some half.Output else None

abbrev pub half_of : List ℕ → TypeGate → Option Half
half_of name g = half_by name g.name g.kind.direction

-- THE HALF OF A GATE that a name means among these gates: the name of the gate itself, and which
-- half
abbrev pub half_named : List ℕ → List TypeGate → Option (List ℕ × Half)
half_named name [] = None
half_named name (g ∷ gs) =
    or_else (option_map (λ h. (g.name, h)) (half_of name g)) (half_named name gs)

abbrev pub mark_of : Half → List ℕ
mark_of half.Input = in_mark
mark_of half.Output = out_mark

-- the name of a half of a gate
abbrev pub name_of_half : List ℕ → GateDirection → Half → List ℕ
name_of_half g direction.Input h = g
name_of_half g direction.Output h = g
name_of_half g direction.Inout h = g ++ mark_of h

-- ---- links

-- the link at a gate of a vector: the one that leads away from it, or the one that leads to it
abbrev pub link_at : Way → Wired → ℕ → ℕ → Option Link
link_at Onwards w vector index = link_from w.links (vector, index)
link_at Back w vector index = link_to w.links (vector, index)

-- its other end
abbrev pub other_end : Way → Link → GateId
other_end Onwards l = l.to
other_end Back l = l.from

-- By which half messages go through the other end: onwards they come into a submodule, and go out
-- of the compound module by its own gate; back they came out of a submodule, or in by an own gate.
abbrev pub half_there : Way → Bool → Half
half_there Onwards true = half.Output
half_there Onwards false = half.Input
half_there Back true = half.Input
half_there Back false = half.Output

abbrev pub kind_of : carrier_kind.ChannelKind → ChannelKind
kind_of carried.Ideal = kind.Ideal
kind_of carried.Delay = kind.Delay
kind_of carried.Datarate = kind.Datarate

-- no delay is longer than the greatest time
abbrev pub delay_of : ℕ → ℕ
delay_of ps = if nat_lt 9223372036854775807 ps then 9223372036854775807 else ps

-- the channel of a link
abbrev pub channel_of : Carrier → Channel
channel_of c = record {
  kind = kind_of c.kind;
  delay = delay_of c.delay;
  datarate = c.datarate;
  disabled = c.disabled;
}

-- ---- the other end, as it is told

-- a part as a neighbour: of the part of that number, in whose surroundings it is; or of the
-- compound module whose inside this is
abbrev pub outside_neighbour : List Submodule → ℕ → ℕ → Part → Neighbour
outside_neighbour lines own number part =
    if part.is_own then neighbour.Around else if number == own then neighbour.Itself
    else neighbour.Beside (name_of_part lines part) part.index

abbrev pub inside_neighbour : List Submodule → Part → Neighbour
inside_neighbour lines part =
    if part.is_own then neighbour.Itself else neighbour.Inside (name_of_part lines part) part.index

abbrev pub neighbour_of : List Submodule → Seen → ℕ → Part → Neighbour
neighbour_of lines (FromOutside own) number part = outside_neighbour lines own number part
neighbour_of lines FromInside number part = inside_neighbour lines part

-- the part through whose gates is looked: that one, or the compound module itself, which is the
-- first
abbrev pub own_part : Seen → ℕ
own_part (FromOutside own) = own
own_part FromInside = 0

-- a gate vector of a part, by its number among all: the gate of its type
abbrev pub gate_in : Part → Option TypeGates → ℕ → Option TypeGate
gate_in part None vector = None
gate_in part (Some gates) vector =
    if nat_lt vector part.first then None else slice_get gates.gates (vector - part.first)

abbrev pub told_end : List Submodule → Seen → Way → Link → Part → TypeGate → NextGate
told_end lines seen way l part g = record {
  neighbour = neighbour_of lines seen (other_end way l).part part;
  gate = name_of_half g.name g.kind.direction (half_there way part.is_own);
  index = (other_end way l).index;
  channel = channel_of l.carrier;
}

-- the other end of a link, of that part
abbrev pub end_of_part : List TypeGates → List Submodule → Seen → Way → Link → Part
    → Option NextGate
end_of_part gates lines seen way l part = option_map (told_end lines seen way l part)
    (gate_in part (slice_get gates part.of_type) (other_end way l).vector)

-- THE OTHER END OF A LINK among the parts of an inside, of a type that declares these submodules,
-- where the types have these gates
abbrev pub end_of : List TypeGates → List Submodule → Parts → Seen → Way → Link → Option NextGate
end_of gates lines ps seen way l =
    option_and_then (end_of_part gates lines seen way l) (slice_get ps.parts (other_end way l).part)

-- the next gate from a gate of that vector and index
abbrev pub next_at : List TypeGates → List Submodule → Parts → Wired → Seen → Way → ℕ → NamedGate
    → Option NextGate
next_at gates lines ps w seen way index v =
    option_and_then (end_of gates lines ps seen way) (link_at way w v.vector index)

-- THE NEXT GATE from a gate of that name and index, by the links of an inside
abbrev pub next_in : List TypeGates → List Submodule → Parts → Wired → Seen → Way → List ℕ → ℕ
    → Option NextGate
next_in gates lines ps w seen way g index = option_and_then
    (next_at gates lines ps w seen way index) (vector_of gates ps w (own_part seen) g)

-- WHICH WAY A HALF LEADS: onwards an output leads outwards and an input inwards; what leads to an
-- input comes from outside, and what leads to an output from inside
abbrev pub is_outwards : Way → Half → Bool
is_outwards Onwards half.Output = true
is_outwards Onwards half.Input = false
is_outwards Back half.Input = true
is_outwards Back half.Output = false
