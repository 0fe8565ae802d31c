-- The laws of a Source.
use Rattle.std.proofs.Common.{◌<◌, lit<}
use Rattle.module_parts.specs.declared.cues.Cue.{Cue}
use Rattle.module_parts.specs.declared.cues.Cue.TheVariants as cue
use Rattle.module_parts.specs.Asking.{Leaves}
use Rattle.module_parts.specs.Cues.{cue_of}
use Rattle.module_parts.specs.LookingLaws.{left-is}
use Rattle.module_parts.specs.Numbers.{limit, next_number}
use Rattle.module_parts.specs.NumberLaws.{number_reads_back, number_is_read, next_number-lt}
use Rattle.module_parts.specs.ScriptLaws.{KeepsOwn}
use Rattle.module_stock.specs.declared.source.Source.{Source}
use Rattle.module_stock.specs.Source.{told_by, source_script}

abbrev pub IsSmall : Source → Type 0
IsSmall s = s.n < limit

told-small : (c : Cue) (s : Source) → IsSmall s → Leaves IsSmall (told_by c s)
told-small cue.Start s small = λ count start. small
told-small cue.Timer s small = λ count bits gap.
    left-is IsSmall _ s (record { n = next_number s.n }) small (next_number-lt s.n)
told-small cue.Other s small = small

pub source_keeps : KeepsOwn source_script IsSmall
unfolding source_script
source_keeps = record {
  reads_back = λ s small. number_reads_back (λ n. record { n = n }) s.n small;
  are_read = number_is_read IsSmall (λ n. record { n = n }) (λ n small. small);
  starts = lit< tt;
  goes_on = λ s call small. told-small (cue_of call.prompt) s small;
}
