-- The laws of a Tick.
use Rattle.std.proofs.Common.{ℕ, ◌<◌, ℤ, pos, Bool, true, false, Option, codes, lit<}
use Rattle.std.specs.Ordering.{int_eq}
use Rattle.sim_values.specs.declared.value.Value.{Value}
use Rattle.module_parts.specs.declared.cues.Cue.{Cue}
use Rattle.module_parts.specs.declared.cues.Cue.TheVariants as cue
use Rattle.module_parts.specs.declared.looks.Verdict.{Verdict}
use Rattle.module_parts.specs.declared.looks.Verdict.TheVariants as verdict
use Rattle.module_parts.specs.Asking.{Leaves}
use Rattle.module_parts.specs.Cues.{cue_of}
use Rattle.module_parts.specs.Looking.{does, value_or, whole_found, time_found, priority_found}
use Rattle.module_parts.specs.Looking.{judged}
use Rattle.module_parts.specs.LookingLaws.{left-is}
use Rattle.module_parts.specs.Numbers.{limit, next_number}
use Rattle.module_parts.specs.NumberLaws.{number_reads_back, number_is_read, next_number-lt}
use Rattle.module_parts.specs.ScriptLaws.{KeepsOwn}
use Rattle.module_stock.specs.declared.tick.Tick.{Tick}
use Rattle.module_stock.specs.Tick.{with_extra, firing, fired, told_by, tick_script}

abbrev pub IsSmall : Tick → Type 0
IsSmall t = t.n < limit

fires-small : (t : Tick) (n : ℕ) → IsSmall t → n < limit
    → (is_late : Bool) (count : ℤ) (gap : ℕ) (priority : ℤ) (v : Verdict) →
    Leaves IsSmall (with_extra is_late
    (λ extra. does t (firing n extra count gap priority) (record { n = n })) v)
fires-small t n small next true count gap priority v =
    λ extra. left-is IsSmall _ t (record { n = n }) small next
fires-small t n small next false count gap priority v =
    left-is IsSmall v t (record { n = n }) small next

-- what the reads make of what they find
abbrev of_whole : Option Value → ℤ
of_whole value = value_or (pos 0) (whole_found value)

fired-small : (t : Tick) (n : ℕ) → IsSmall t → n < limit → Leaves IsSmall (fired t n)
fired-small t n small next = λ count gap priority late.
    fires-small t n small next (int_eq (of_whole late) (pos n)) (of_whole count)
    (value_or 0 (time_found gap)) (value_or (pos 0) (priority_found priority))
    (judged (codes "late") (whole_found late)
    (judged (codes "priority") (priority_found priority) (judged (codes "gap") (time_found gap)
    (judged (codes "count") (whole_found count) verdict.Good))))

told-small : (c : Cue) (t : Tick) → IsSmall t → Leaves IsSmall (told_by c t)
told-small cue.Start t small = λ count gap priority. small
told-small cue.Timer t small = fired-small t (next_number t.n) small (next_number-lt t.n)
told-small cue.Other t small = small

pub tick_keeps : KeepsOwn tick_script IsSmall
unfolding tick_script
tick_keeps = record {
  reads_back = λ t small. number_reads_back (λ n. record { n = n }) t.n small;
  are_read = number_is_read IsSmall (λ n. record { n = n }) (λ n small. small);
  starts = lit< tt;
  goes_on = λ t call small. told-small (cue_of call.prompt) t small;
}
