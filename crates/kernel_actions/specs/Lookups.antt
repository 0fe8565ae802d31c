-- What is looked up only once.
use Rattle.std.specs.Prelude.{Bool, false, List, is_some}
use Rattle.module_api.specs.declared.call.Parameter.{Parameter}
use Rattle.module_api.specs.declared.reply.Read.{Read}
use Rattle.module_api.specs.declared.reply.Read.TheVariants as read
use Rattle.module_api.specs.Values.{value_of}

-- whether what was read is a parameter that the call had
abbrev pub was_told : List Parameter → Read → Bool
was_told parameters (read.Parameter name) = is_some (value_of name parameters)
was_told parameters (read.Gate name) = false
