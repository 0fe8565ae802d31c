-- Connections where they are written, as the code has them.
use Rattle.std.specs.Prelude.{◌++◌, Option, Some, None}
use Rattle.ned_trees.specs.declared.connections.Channel.{Channel}
use Rattle.inside_keys.specs.Given as given
use Rattle.inside_run.specs.declared.channels.FoundLine.{FoundLine}

abbrev pub found_by : FoundLine → given.FoundLine
found_by f = record { connection = f.connection.now; clauses = f.around.now ++ f.clauses.now }

abbrev pub maybe_found : Option FoundLine → Option given.FoundLine
maybe_found None = None
maybe_found (Some f) = Some (found_by f)

-- the channel of a connection that was found
abbrev pub channel_in : Option given.FoundLine → Option Channel
channel_in None = None
channel_in (Some f) = f.connection.channel
