-- What an edit of the ini text leaves of the values that are kept.
use Rattle.inside_keys.specs.Values.{asking_of, rules_of}
use Rattle.inside_run.proofs.Exact.{exact}
use Rattle.param_keeping.proofs.Kept.{over_edit}
use Rattle.inside_edits.specs.Kept.{KeptOverIniEdit}
use Rattle.inside_edits.specs.Reads.{with_entries}
use Rattle.inside_edits.proofs.Asking.{asks}

pub over_ini_edit : KeptOverIniEdit
over_ini_edit s after n kept seeds given live stored miss left =
    over_edit (rules_of s) (asking_of (with_entries after s)) n kept seeds given live (exact s) stored (λ p k h l e. asks s after k (miss p k h l e)) left
