use Rattle.payload_bounds.proofs.Edited.{edit_stays, none_bounded}
use Rattle.payload_bounds.proofs.laws.edits_keep_bounds.Goals as goal

pub returns : goal.returns
returns c = record { none = none_bounded; kept = edit_stays }
