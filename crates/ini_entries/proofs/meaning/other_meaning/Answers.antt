use Rattle.std.proofs.Common.{sym, ◌∙◌}
use Rattle.ini_trees.specs.declared.entry.EntryMeaning.TheVariants as meaning
use Rattle.ini_entries.proofs.EntryLaws.{no_other, only_meaning, option_lacked, option_told}
use Rattle.ini_entries.proofs.meaning.other_meaning.Goals as goal

pub returns-then-not-is_other_option : goal.returns-then-not-is_other_option
returns-then-not-is_other_option c =
    let bad = sym c.is_other_option.ensures ∙ c.if-not-is_other_option.true in
    (no_other c.args.key.now c.args.value.now c.requires.kind c.requires.other (λ good pattern. absurd cc), c.refused_option.ensures ∙ option_told c.args.key.now c.args.value.now c.requires.kind c.requires.other bad)

pub returns-then-not-branch : goal.returns-then-not-branch
returns-then-not-branch c = (no_other c.args.key.now c.args.value.now c.requires.kind c.requires.other (λ good pattern. let bad = sym c.in_ok-is_pattern.ensures ∙ c.if-not-branch.true in absurd cc), option_lacked c.args.key.now c.args.value.now c.requires.kind c.requires.other (sym c.is_other_option.ensures ∙ c.if-not-is_other_option.false))

pub returns : goal.returns
returns c = only_meaning c.args.key.now c.args.value.now meaning.Other (c.requires.kind, sym c.is_other_option.ensures ∙ c.if-not-is_other_option.false, sym c.in_ok-is_pattern.ensures ∙ c.if-not-branch.false)
