use Rattle.std.proofs.Common.{◌≡◌, List, Some, length, map, slice_get, arith, refl, ◌++◌, ◌∙◌, sym, ap, append-nil}
use Rattle.std.proofs.lemmas.Option.{slice_get_read}
use Rattle.std.proofs.lemmas.Result.{on_ok_weaker}
use Rattle.ini_trees.specs.declared.lines.IniEntry.{IniEntry}
use Rattle.ini_trees.specs.declared.lines.IniLine.{IniLine}
use Rattle.ini_trees.specs.Sections.{entries_under}
use Rattle.ini_index.specs.Entries.{told}
use Rattle.ini_index.proofs.SectionLaws.{none_under, told_under}
use Rattle.ini_index.proofs.along.Sections.add_under.Goals as goal

pub returns-in-None : goal.returns-in-None
returns-in-None c =
    sym (append-nil (told c.args.self.now c.args.list.now))
    ∙ ap (λ (es : List IniEntry). told c.args.self.now c.args.list.now ++ map Some es)
    (sym (none_under c.args.name.now c.self.inside.lines.now c.self.inside.names c.self.invariant.named c.in-None.ensures) ∙ ap (λ (ls : List IniLine). entries_under c.args.name.now ls) c.self.view_is)

pub returns-in-Some : goal.returns-in-Some
returns-in-Some c =
    let there : slice_get c.self.inside.lists.items c.in-Some.section ≡ Some c.index.result.now =
    slice_get_read c.self.inside.lists.items (length c.self.inside.lists.items) c.in-Some.section c.index.result.now refl (omega (arith, c.in-Some.ensures.0, c.self.invariant.size)) c.index.ensures in
    on_ok_weaker c.append.result
    (told_under c.self.inside.lines.now c.args.self.now c.self.inside.names c.self.inside.lists.items c.args.name.now c.in-Some.section c.args.list.now c.append.new.list c.as_slice.result.now c.self.view_is c.self.invariant c.in-Some.ensures.0 c.in-Some.ensures.1 (there ∙ ap Some (sym c.as_slice.ensures)))
    c.append.ensures
