use Rattle.module_parts.specs.PathLaws.{parent_of_path_in}
use Rattle.module_parts.proofs.laws.parents_are_told.Goals as goal

pub returns : goal.returns
returns c = parent_of_path_in
