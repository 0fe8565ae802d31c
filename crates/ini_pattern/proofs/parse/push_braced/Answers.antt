use Rattle.std.proofs.Common.{◌∷◌, []}
use Rattle.std.specs.Str.{chars}
use Rattle.std.proofs.lemmas.Result.{err_from_is_err_and}
use Rattle.ini_pattern.specs.PatternOf.{bounds_in}
use Rattle.ini_pattern.proofs.ParseLemmas.{no_bounds, braced_set, braced_no_set, kept_fault}
use Rattle.ini_pattern.proofs.parse.push_braced.Goals as goal

pub returns-in_err-set : goal.returns-in_err-set
returns-in_err-set c =
    let p = err_from_is_err_and c.from_residual.result c.from_residual.ensures.1 in
    rw (p.1, p.2) (kept_fault _ _ _ (braced_no_set (chars c.args.text.now) (bounds_in 125 (chars c.args.text.now)) (no_bounds _ c.in_default.ensures)) c.in_err-set.ensures)

pub returns-in_default : goal.returns-in_default
returns-in_default c =
    (c.in_ok-set.set ∷ [], c.in_ok-push.ensures.ok, braced_set (chars c.args.text.now) (bounds_in 125 (chars c.args.text.now)) _ _ (no_bounds _ c.in_default.ensures) c.in_ok-set.ensures)
