use Rattle.std.proofs.Common.{◌∙◌, sym}
use Rattle.std.proofs.lemmas.Slice.Eq.{bytes_eq-Decides}
use Rattle.same_entries.proofs.Counting.{written_alike}
use Rattle.edit_places.proofs.ends.are_same.Goals as goal

pub returns-then-is : goal.returns-then-is
returns-then-is c = λ e. written_alike c.args.one.now c.args.other.now c.requires.one c.requires.other
    ((bytes_eq-Decides c.args.one.now.key c.as_bytes.result.now).0 (sym c.is.ensures ∙ c.if-is.true) ∙ c.as_bytes.ensures)
    ((bytes_eq-Decides c.args.one.now.value c.as_bytes-then-is.result.now).0 (sym c.is-then-is.ensures ∙ e) ∙ c.as_bytes-then-is.ensures)
