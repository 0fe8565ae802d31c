use Rattle.std.proofs.Common.{ap, ◌∙◌}
use Rattle.ini_trees.specs.Entries.{last_name}
use Rattle.ini_index.proofs.KeyLaws.{first_by_keys}
use Rattle.ini_index.proofs.index.IndexedEntries.by_keys.Goals as goal

pub returns : goal.returns
returns c =
    first_by_keys c.last_name_is_literal.ensures c.args.path.now c.in-Ok.name.now c.args.self.now c.sooner-whole.result c.sooner-named.result c.sooner.result c.requires
    (c.in-Ok.ensures.cases.0 ∙ c.last_name.ensures ∙ ap last_name c.as_bytes.ensures.value)
    c.sooner-whole.ensures c.sooner-named.ensures c.sooner.ensures
