use Rattle.inside_laws.proofs.Lacking.{lacks_none, none_lacks}
use Rattle.inside_laws.proofs.laws.nothing_lacks_where_all_are_connected.Goals as goal

pub returns : goal.returns
returns c = record { none = lacks_none; all = none_lacks }
