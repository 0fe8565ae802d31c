use Rattle.std.proofs.Common.{List, subst, sym}
use Rattle.std.specs.List.{All}
use Rattle.edit_places.specs.Edited.{IsRead}
use Rattle.ini_trees.specs.declared.lines.IniEntry.{IniEntry}
use Rattle.model_keeping.proofs.Read.{entries_read}
use Rattle.model_keeping.proofs.held.HeldValues.left.Goals as goal

pub left_by_edit-requires-clause-before : goal.left_by_edit-requires-clause-before
left_by_edit-requires-clause-before c = subst (λ (es : List IniEntry). All IsRead es) (sym c.entries.ensures) (entries_read c.args.before.now.chain c.args.before.now.ini c.requires.before)

pub left_by_edit-requires-clause-after : goal.left_by_edit-requires-clause-after
left_by_edit-requires-clause-after c = subst (λ (es : List IniEntry). All IsRead es) (sym c.entries-2.ensures) (entries_read c.args.after.now.chain c.args.after.now.ini c.requires.after)
