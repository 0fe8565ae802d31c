use Rattle.std.proofs.Common.{◌↔◌, IsTrue, List, subst, ◌∙◌}
use Rattle.std.specs.Str.{chars}
use Rattle.ini_pattern.specs.declared.piece.Piece.{Piece}
use Rattle.ini_pattern.specs.Matches.{Matches}
use Rattle.ini_pattern.proofs.MatchedLemmas.{test_of}
use Rattle.ini_pattern.proofs.pattern.Pattern.matches.Goals as goal

pub returns-clause-test : goal.returns-clause-test
returns-clause-test c = test_of c.args.self.now (chars c.args.name.now) c.matches_pieces.result (subst (λ (ps : List Piece). IsTrue c.matches_pieces.result ↔ Matches ps (chars c.args.name.now)) (c.as_slice.ensures ∙ c.self.view_is) c.matches_pieces.ensures)
