use Rattle.std.proofs.Common.{◌≡◌, ◌++◌, Option, Some, sym, ap, subst}
use Rattle.std.specs.Option.{option_copied}
use Rattle.ini_trees.specs.Numbers.{name_at}
use Rattle.ini_trees.specs.Sections.{entry_here, is_in}
use Rattle.ini_trees.specs.Words.{Bytes}
use Rattle.ini_index.specs.Entries.{number_where, numbers_at}
use Rattle.ini_index.proofs.SectionLaws.{added_to_none}
use Rattle.ini_index.proofs.along.add_line.Goals as goal

pub returns-in-None : goal.returns-in-None
returns-in-None c = λ k h.
    let section : Some c.in-Some.name.now ≡ option_copied c.args.section = ap option_copied (sym c.in-Some.is) in
    subst (λ (s : Option Bytes). numbers_at c.args.lists.now k ≡ numbers_at c.args.lists.now k ++ number_where c.args.number (entry_here (is_in (name_at c.args.names.now k) s) c.args.line.now.meaning)) section
    (added_to_none c.args.names.now c.in-Some.name.now c.args.line.now.meaning c.args.number k (numbers_at c.args.lists.now k) c.in-None.ensures h)
