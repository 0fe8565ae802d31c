use Rattle.std.proofs.Common.{◌≡◌, ◌≢◌, false, sym, ◌∙◌}
use Rattle.std.proofs.lemmas.Bool.{false≢true}
use Rattle.std.proofs.lemmas.Slice.Eq.{bytes_eq-Decides}
use Rattle.ini_trees.specs.Numbers.{holds}
use Rattle.ini_trees.specs.Sections.{general}
use Rattle.ini_trees.proofs.NumberedLaws.{sections_of, held_there}
use Rattle.ini_trees.proofs.chain.chain_of.Goals as goal

pub returns : goal.returns
returns c =
    let other : c.args.config.now ≢ general = λ e. false≢true (sym c.if-is_general.false ∙ c.is_general.ensures ∙ (bytes_eq-Decides c.args.config.now general).1 e) in
    let none : holds c.in_ok-names.names c.args.config.now ≡ false = c.in-None.ensures in
    absurd (held_there c.args.lines.now c.in_ok-names.names c.args.config.now (sections_of c.args.lines.now c.in_ok-names.names c.in_ok-names.ensures) other c.requires none)
