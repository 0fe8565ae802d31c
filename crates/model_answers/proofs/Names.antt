-- A name is among those that lines declare where one of them declares it.
use Rattle.std.proofs.Common.{◌≡◌, ℕ, Bool, true, false, List, [], ◌∷◌, Some, refl, bytes_eq, if◌then◌else◌}
use Rattle.std.specs.Option.{is_some}
use Rattle.ned_trees.specs.declared.declarations.SectionLine.{SectionLine}
use Rattle.ned_trees.specs.declared.declarations.SectionLine.TheVariants as line
use Rattle.ned_types.specs.Flat.{declaration_named}
use Rattle.model_questions.specs.Answers.{is_declared}
use Rattle.model_answers.specs.Keyed.{names_in}

pub declared_named : (name : List ℕ) (ls : List SectionLine) → is_some (declaration_named name ls) ≡ is_declared name (names_in ls)
declared_named name [] = refl
declared_named name (line.Declaration d ∷ ls) = by (bytes_eq d.name name) (declared_named name ls)
  where
    by : (b : Bool) → is_some (declaration_named name ls) ≡ is_declared name (names_in ls) → is_some (if b then Some d else declaration_named name ls) ≡ (if b then true else is_declared name (names_in ls))
    by true later = refl
    by false later = later
declared_named name (line.Assignment a ∷ ls) = declared_named name ls
declared_named name (line.Statistic s ∷ ls) = declared_named name ls
declared_named name (line.Class c ∷ ls) = declared_named name ls
declared_named name (line.Ignored ∷ ls) = declared_named name ls
