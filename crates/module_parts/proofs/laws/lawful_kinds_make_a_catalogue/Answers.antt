use Rattle.module_parts.specs.CatalogueLaws.{catalogue_lawful}
use Rattle.module_parts.proofs.laws.lawful_kinds_make_a_catalogue.Goals as goal

pub returns : goal.returns
returns c = catalogue_lawful
