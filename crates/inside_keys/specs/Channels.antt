-- Channels of connections: their paths, their lines, and what they do (OMNeT++ Simulation Manual,
-- "Channels").
use Rattle.std.specs.Prelude.{ℕ, zero, suc, ℤ, pos, negsuc, ◌-◌, Bool, true, false, List, [], ◌∷◌}
use Rattle.std.specs.Prelude.{◌++◌, Option, Some, None, bytes_eq, codes, decimal, if◌then◌else◌}
use Rattle.std.specs.Prelude.{length, slice_get}
use Rattle.std.specs.Option.{option_and_then}
use Rattle.sim_values.specs.declared.value.Value.{Value}
use Rattle.sim_values.specs.declared.value.Value.TheVariants as value
use Rattle.ned_trees.specs.declared.connections.Channel.{Channel}
use Rattle.ned_trees.specs.declared.declarations.GateDirection.{GateDirection}
use Rattle.ned_trees.specs.declared.declarations.GateDirection.TheVariants.{Input, Output, Inout}
use Rattle.ned_trees.specs.declared.declarations.SectionLine.{SectionLine}
use Rattle.ned_trees.specs.declared.declarations.TypeDeclaration.{TypeDeclaration}
use Rattle.ned_types.specs.Channels.{built_in_lines}
use Rattle.ned_types.specs.Clashes.{channel_name, lines_of_channel}
use Rattle.ned_types.specs.Types.{is_built_in}
use Rattle.param_values.specs.declared.kind.Kind.{Kind}
use Rattle.inside_parts.specs.declared.gates.TypeGate.{TypeGate}
use Rattle.inside_parts.specs.declared.gates.TypeGates.{TypeGates}
use Rattle.inside_parts.specs.declared.parts.Part.{Part}
use Rattle.inside_parts.specs.declared.parts.Parts.{Parts}
use Rattle.inside_parts.specs.Names.{position_of}
use Rattle.inside_wiring.specs.declared.wiring.Carrier.{Carrier}
use Rattle.inside_wiring.specs.declared.wiring.ChannelKind.{ChannelKind}
use Rattle.inside_wiring.specs.declared.wiring.ChannelKind.TheVariants as channel
use Rattle.inside_wiring.specs.declared.wiring.GateId.{GateId}
use Rattle.inside_keys.specs.declared.check.Check.{Check}
use Rattle.inside_keys.specs.declared.check.Check.TheVariants as check
use Rattle.inside_keys.specs.declared.key.Module.{Module}
use Rattle.inside_keys.specs.Keys.{own_name}

-- ---- paths

-- the mark after the name of the half of a gate that messages leave by, into a connection: the
-- module's own gates are seen from within
abbrev pub leaving_mark : Bool → GateDirection → List ℕ
leaving_mark own Input = []
leaving_mark own Output = []
leaving_mark own Inout = if own then codes "$i" else codes "$o"

abbrev pub index_mark : Bool → ℕ → List ℕ
index_mark false k = []
index_mark true k = 91 ∷ (decimal k ++ 93 ∷ [])

-- the name of a gate that messages leave by
abbrev pub leaving_name : Bool → ℕ → Option TypeGate → List ℕ
leaving_name own k None = []
leaving_name own k (Some g) =
    g.name ++ (leaving_mark own g.kind.direction ++ index_mark g.kind.is_vector k)

abbrev pub gate_in : ℕ → Option TypeGates → Option TypeGate
gate_in k None = None
gate_in k (Some g) = slice_get g.gates k

-- the name of a submodule, and a dot
abbrev pub owner_name : Option (List ℕ) → Option ℕ → List ℕ
owner_name None index = []
owner_name (Some name) index = own_name name index ++ 46 ∷ []

-- nothing of the module itself
abbrev pub owner_of : List (List ℕ) → Part → List ℕ
owner_of names p = if p.is_own then [] else owner_name (slice_get names p.line) p.index

abbrev pub leaving_gate : List TypeGates → GateId → Part → List ℕ
leaving_gate gates id p =
    leaving_name p.is_own id.index (gate_in (id.vector - p.first) (slice_get gates p.of_type))

abbrev pub leaving_path : List (List ℕ) → List TypeGates → GateId → Option Part → List ℕ
leaving_path names gates id None = []
leaving_path names gates id (Some p) = owner_of names p ++ leaving_gate gates id p

-- THE PATH of the channel of a connection from that gate, in a module whose submodules have these
-- names: the gate's, and `.channel`
abbrev pub channel_path : Module → List (List ℕ) → List TypeGates → Parts → GateId → List ℕ
channel_path m names gates ps id =
    (m.path ++ 46 ∷ leaving_path names gates id (slice_get ps.parts id.part)) ++ codes ".channel"

-- ---- lines

-- the type of that name among these, which have these names
abbrev pub type_at : List (List ℕ) → List TypeDeclaration → List ℕ → Option TypeDeclaration
type_at names types name = option_and_then (slice_get types) (position_of name names)

-- the lines of the channel type of that name: a built-in one, or one of these types
abbrev pub lines_named : List (List ℕ) → List TypeDeclaration → List ℕ → Option (List SectionLine)
lines_named names types name = if is_built_in name then Some (built_in_lines name)
    else lines_of_channel (type_at names types name)

-- the lines of the type of a connection's channel
abbrev pub lines_of : List (List ℕ) → List TypeDeclaration → Channel → Option (List SectionLine)
lines_of names types c = lines_named names types (channel_name c)

-- ---- kinds

-- of which of the three kinds the built-in channel of that name is; ideal where there is none
abbrev pub built_in_kind : List ℕ → ChannelKind
built_in_kind name =
    if bytes_eq name (codes "DelayChannel") then channel.Delay
    else (if bytes_eq name (codes "DatarateChannel") then channel.Datarate else channel.Ideal)

abbrev pub base_in : Option TypeDeclaration → Option (List ℕ)
base_in None = None
base_in (Some t) = t.base

-- where types have these names: the kind of the built-in channel that is come to from that name, so
-- often from a type to what it extends; ideal where none is
abbrev pub kind_along : List (List ℕ) → List TypeDeclaration → ℕ → Option (List ℕ) → ChannelKind
kind_along names types n None = channel.Ideal
kind_along names types zero (Some name) = built_in_kind name
kind_along names types (suc n) (Some name) = if is_built_in name then built_in_kind name
    else kind_along names types n (base_in (type_at names types name))

-- WHICH OF THE THREE KINDS a channel of that name is: that of the built-in one at its root, whatever
-- parameters it declares itself. No line of types without a circle is longer than there are types
abbrev pub kind_named : List (List ℕ) → List TypeDeclaration → List ℕ → ChannelKind
kind_named names types name = if is_built_in name then built_in_kind name
    else kind_along names types (length types) (base_in (type_at names types name))

-- the kind of a connection's channel
abbrev pub channel_kind : List (List ℕ) → List TypeDeclaration → Channel → ChannelKind
channel_kind names types c = kind_named names types (channel_name c)

-- ---- what a channel does

-- it does nothing
abbrev pub ideal : Carrier
ideal = record { kind = channel.Ideal; delay = 0; datarate = 0; disabled = false }

-- one of that kind, before its parameters have values
abbrev pub carrier_begun : ChannelKind → Carrier
carrier_begun k = record { kind = k; delay = 0; datarate = 0; disabled = false }

abbrev pub natural_or : ℕ → ℤ → ℕ
natural_or n (pos k) = k
natural_or n (negsuc k) = n

abbrev pub amount_or : ℕ → Value → ℕ
amount_or n (value.Quantity d z) = natural_or n z
amount_or n _ = n

abbrev pub truth_or : Bool → Value → Bool
truth_or b (value.Truth c) = c
truth_or b _ = b

-- with the value of the parameter of that name
abbrev pub with_delays : List ℕ → Value → Carrier → Carrier
with_delays x v c =
    if bytes_eq x (codes "delay") then record c { delay = amount_or c.delay v }
    else (if bytes_eq x (codes "disabled")
    then record c { disabled = truth_or c.disabled v } else c)

abbrev pub with_rates : List ℕ → Value → Carrier → Carrier
with_rates x v c = if bytes_eq x (codes "datarate")
    then record c { datarate = amount_or c.datarate v } else with_delays x v c

abbrev pub with_value : List ℕ → Value → Carrier → ChannelKind → Carrier
with_value x v c channel.Ideal = c
with_value x v c channel.Delay = with_delays x v c
with_value x v c channel.Datarate = with_rates x v c

-- ---- what the values of its parameters have to be

abbrev pub delay_check : List ℕ → Kind → Check
delay_check x k = if bytes_eq x (codes "delay") then check.Amount k else check.Parameter k

abbrev pub rate_check : List ℕ → Kind → Check
rate_check x k =
    if bytes_eq x (codes "datarate") then check.Amount k
    else (if bytes_eq x (codes "ber") then check.Zero
    else (if bytes_eq x (codes "per") then check.Zero else delay_check x k))

-- of a channel of that kind: no delay and no rate is negative, and no bits and packets are lost
abbrev pub channel_check : ChannelKind → List ℕ → Kind → Check
channel_check channel.Ideal x k = check.Parameter k
channel_check channel.Delay x k = delay_check x k
channel_check channel.Datarate x k = rate_check x k
