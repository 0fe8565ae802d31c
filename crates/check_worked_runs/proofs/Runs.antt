-- Runs, worked out by the definitions.
use Rattle.std.proofs.Common.{refl}
use lib.Utf8.{encode}
use Rattle.std.specs.Fmt.{digits}
use Rattle.std.specs.Str.{chars, is_utf8}
use Rattle.sim_time.specs.Text.{text_of_time}
use Rattle.param_following.specs.Following.{value_of}
use Rattle.model_answers.specs.Answering.{answers_of}
use Rattle.model_settings.specs.Standings.{setting_of}
use Rattle.model_data.specs.Models.{time_limit_of}
use Rattle.model_questions.specs.Records.{place_of}
use Rattle.recorders.specs.Hearing.{is_within}
use Rattle.recorders.specs.Scalars.{statistic_lines}
use Rattle.recorders.specs.Selection.{selected_modes}
use Rattle.result_lines.specs.Header.{item_line}
use Rattle.run_semantics.specs.Run.{most_nested}
use Rattle.run_semantics.specs.Subtree.{inner_first, outer_first}
use Rattle.run_semantics.specs.Upcoming.{upcoming}
use Rattle.module_parts.specs.Numbers.{number_of, read_number, state_of}
use Rattle.module_parts.specs.Scripts.{naming_of}
use Rattle.module_stock.specs.Stock.{stock}
use Rattle.module_stock.specs.Tick.{tick_script}
use Rattle.check_worked_runs.specs.Models.{three_ticks}
use Rattle.check_worked_runs.specs.Runs.{ThreeTicks}
use Rattle.check_worked_runs.proofs.Giving.{gives}

-- three ticks, worked out
pub three_ticks_run : ThreeTicks
unfolding encode is_utf8 chars digits text_of_time place_of answers_of setting_of value_of time_limit_of is_within statistic_lines selected_modes item_line stock number_of read_number state_of naming_of tick_script upcoming most_nested outer_first inner_first
three_ticks_run = gives three_ticks 100 _ _ _ refl refl refl
