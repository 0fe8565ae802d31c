use Rattle.std.proofs.Common.{◌+◌, ◌++◌, ◌∷◌, take, sym, ◌∙◌, ap}
use Rattle.std.proofs.lemmas.List.{take_rest}
use Rattle.ini_pattern.specs.declared.piece.Piece.TheVariants.{AnyPath}
use Rattle.ini_pattern.proofs.EndLemmas.{no_path, about_path}
use Rattle.ini_pattern.proofs.matching.around_path.Goals as goal

pub returns-in_default : goal.returns-in_default
returns-in_default c = no_path c.args.pieces.now (sym c.in_default.ensures)

pub returns : goal.returns
returns c =
    let w = about_path c.args.pieces.now c.in-Some.at (sym c.in-Some.ensures) in
    (w.0, w.1 ∙ ap (λ l. take c.in-Some.at c.args.pieces.now ++ (AnyPath ∷ l)) (sym (take_rest c.args.pieces.now (c.in-Some.at + 1))))
