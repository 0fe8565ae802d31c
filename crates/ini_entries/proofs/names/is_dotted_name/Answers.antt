use Rattle.std.proofs.Common.{rules, tests}
use Rattle.std.proofs.lemmas.Iterator.Search.{all_from_yields_List}
use Rattle.std.proofs.lemmas.Iterator.Splits.{YieldsList-from_slice_split}
use Rattle.ini_entries.specs.Names.{is_name}
use Rattle.ini_entries.specs.Texts.{parts_at}
use Rattle.ini_entries.proofs.names.is_dotted_name.Goals as goal

pub returns : goal.returns
unfolding parts_at
returns c = all_from_yields_List is_name _ _ _ c.all.ensures.ran (YieldsList-from_slice_split _ _ c.args.bytes.now c.split.ensures.rest c.split.ensures.done c.split.ensures.closure (λ x r q k. search (rules, tests))) (λ x r q k. search (rules, tests))
