use Rattle.std.proofs.Common.{◌≡◌, sym, subst, ◌∙◌}
use Rattle.std.proofs.lemmas.Slice.Eq.{bytes_eq-Decides}
use Rattle.ini_entries.specs.Meaning.{FindsMeaning}
use Rattle.ini_entries.specs.Options.{word_time_limit}
use Rattle.ini_entries.specs.Texts.{Bytes}
use Rattle.ini_entries.proofs.meaning.entry_meaning.Goals as goal

pub returns-then-spells-3 : goal.returns-then-spells-3
returns-then-spells-3 c =
    let same : c.args.key.now ≡ word_time_limit = (bytes_eq-Decides c.args.key.now word_time_limit).0 (sym c.spells-else-spells-2.ensures ∙ c.if-spells-3.true) in
    subst (λ (k : Bytes). FindsMeaning k c.args.value.now c.limit_meaning.result) (sym same) c.limit_meaning.ensures
