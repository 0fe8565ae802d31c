-- The texts of refusals.
use Rattle.std.specs.Prelude.{ℕ, List, [], ◌++◌, codes}
use Rattle.std.specs.Fmt.{decimal}
use Rattle.model_reading.specs.declared.begin.BeginFault.{BeginFault}
use Rattle.model_reading.specs.declared.begin.BeginFault.TheVariants as refusal
use Rattle.model_reading.specs.Faults.{begin_fault_name}

-- where what is refused stands: the file, counted from 0, and the line, counted from 1
abbrev pub refusal_place : BeginFault → List ℕ
refusal_place (refusal.NedSyntax file line) =
    codes " file " ++ (decimal file ++ (codes " line " ++ decimal line))
refusal_place (refusal.IniSyntax line reason) = codes " line " ++ decimal line
refusal_place _ = []

-- THE TEXT of a refusal
abbrev pub refusal_text : BeginFault → List ℕ
refusal_text f = begin_fault_name f ++ refusal_place f
