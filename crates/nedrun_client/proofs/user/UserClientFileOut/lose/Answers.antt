use Rattle.nedrun_client.specs.Devices.{path_of}
use Rattle.nedrun_client.proofs.user.UserClientFileOut.lose.Goals as goal

pub returns-clause-stuck : goal.returns-clause-stuck
returns-clause-stuck g c = (path_of c.args.page c.args.pages, c.lost.ensures)
