use Rattle.kernel_call_views.proofs.Showing.{shown_on}
use Rattle.kernel_call_views.proofs.tables_stay_right.Goals as goal

pub returns : goal.returns
returns c = shown_on
