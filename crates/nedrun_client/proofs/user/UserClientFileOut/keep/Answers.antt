use Rattle.std.proofs.Common.{◌≡◌, [], string_bytes}
use Rattle.nedrun_files.specs.Devices.{unwritten}
use Rattle.nedrun_client.proofs.Reasons.{kept_for, reason_of_files, stuck_for}
use Rattle.nedrun_client.proofs.user.UserClientFileOut.keep.Goals as goal

pub returns-in-Err-clause-stuck : goal.returns-in-Err-clause-stuck
returns-in-Err-clause-stuck g c =
    stuck_for c.gone.new.self.stop c.gone.new.self.dialogue.lines.buffer c.in-Err.stop c.gone.ensures.reason
    (reason_of_files (string_bytes c.args.pages.scalars.path) (string_bytes c.args.pages.vectors.path) (unwritten c.finish.new.pages.scalars ≡ [])
    c.gone.new.self.dialogue.lines.buffer c.in-Err.stop c.in-Err.ensures.failed)

pub returns-in-Err-clause-reason : goal.returns-in-Err-clause-reason
returns-in-Err-clause-reason g c =
    kept_for c.gone.new.self.stop (string_bytes c.args.pages.scalars.path) (string_bytes c.args.pages.vectors.path) (unwritten c.finish.new.pages.scalars ≡ [])
    c.in-Err.stop c.gone.ensures.reason c.in-Err.ensures.failed
