use Rattle.std.proofs.Common.{refl}
use Rattle.ned_inheritance.proofs.laws.examples.Goals as goal

pub returns-clause-flat : goal.returns-clause-flat
returns-clause-flat c = record { joined = refl; behind = refl; class = refl; value = refl; statistics = refl; own_class = refl; class_between = refl; root = refl }

pub returns-clause-faults : goal.returns-clause-faults
returns-clause-faults c = record { none = refl; twice = refl; unknown = refl; circle = refl; itself = refl; again = refl; channel = refl; first = refl; second = refl; third = refl; fourth = refl }

pub returns-clause-bodies : goal.returns-clause-bodies
returns-clause-bodies c = record { empty = refl; fixed = refl; default = refl; inherited = refl; later = refl; twice = refl; behind = refl; fixed_before = refl; default_after = refl; unknown = refl; declared_again = refl; declared = refl; around = refl; network = refl; section = refl; section_unknown = refl; section_twice = refl }

pub returns-clause-networks : goal.returns-clause-networks
returns-clause-networks c = record { submodules = refl; lines = refl; none = refl; again = refl; body = refl; unknown = refl; of_simple = refl; simple_of = refl; circle = refl; channels = refl; channel_of_simple = refl; submodule_channel = refl }

pub returns-clause-gates : goal.returns-clause-gates
returns-clause-gates c = record { joined = refl; sized = refl; again = refl; twice = refl; other_kind = refl }

pub returns-clause-channels : goal.returns-clause-channels
returns-clause-channels c = record { ideal = refl; delay = refl; rate = refl; behind = refl; none = refl; fixed = refl; no_rate = refl; no_delay = refl; again = refl; simple = refl; network = refl; unknown = refl; itself = refl }

pub returns-clause-interfaces : goal.returns-clause-interfaces
returns-clause-interfaces c = record { none = refl; no_parameter = refl; no_gate = refl; other_word = refl; other_unit = refl; other_direction = refl; other_size = refl; more = refl; of_base = refl; extended = refl; network = refl; channel = refl; last = refl }

pub returns-clause-extending : goal.returns-clause-extending
returns-clause-extending c = record { flat = refl; two_ways = refl; two_ways_fine = refl; named_twice = refl; twice = refl; gate_twice = refl; unknown = refl; unknown_base = refl; simple = refl; built_in = refl; for_channels = refl; base_for_channels = refl; extended_by_simple = refl; submodule = refl; itself = refl; circle = refl; mixed_circle = refl; kept_circle = refl }

pub returns-clause-insides : goal.returns-clause-insides
returns-clause-insides c = record { like_interface = refl; like_other = refl; like_simple = refl; like_unknown = refl; gate_declared = refl; unknown = refl; simple = refl; built_in = refl; no_rate = refl; own = refl; fixed = refl; block = refl; other_block = refl; twice = refl; declared = refl; in_group = refl; clash_in_group = refl; inherited = refl }

pub returns-clause-parts : goal.returns-clause-parts
returns-clause-parts c = record { unconnected = refl; connections = refl; vector = refl; condition = refl; gates = refl; compound = refl; network = refl }

pub returns-clause-clashes : goal.returns-clause-clashes
returns-clause-clashes c = record { none = refl; declared = refl; undeclared = refl; given = refl; gate = refl; submodule = refl; other_kind = refl; unfit = refl; unfit_again = refl; body_gate = refl; other_channel = refl; block = refl; block_again = refl }
