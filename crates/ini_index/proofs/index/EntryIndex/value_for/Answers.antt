use Rattle.std.proofs.Common.{List, subst, sym, ap, ◌∙◌}
use Rattle.ini_trees.specs.declared.lines.IniEntry.{IniEntry}
use Rattle.ini_trees.specs.Entries.{value_for}
use Rattle.ini_index.specs.Indexed.{AreNotedFrom}
use Rattle.ini_index.proofs.index.EntryIndex.value_for.Goals as goal

pub invariant_of-indexed : goal.invariant_of-indexed
invariant_of-indexed c = subst (λ (es : List IniEntry). AreNotedFrom 0 es c.args.self.now.heads c.args.self.now.nexts) (sym c.entries-entries.ensures) c.requires.noted

pub returns : goal.returns
returns c = c.value_for.ensures ∙ ap (value_for c.args.path.now) c.entries-entries.ensures
