use Rattle.std.proofs.Common.{Some, ◌&&◌, sym, ap, ◌∙◌}
use Rattle.std.proofs.lemmas.Option.{slice_get-get_or}
use Rattle.ned_types.specs.Types.{declares, is_declaration, name_in}
use Rattle.ned_inheritance.specs.Places.{is_declared_twice}
use Rattle.ned_inheritance.specs.Seen.{names_in}
use Rattle.ned_inheritance.proofs.AgainLaws.{again_told_more, seen_next}
use Rattle.ned_inheritance.proofs.sections.see_declared.Goals as goal

pub loop-at-preserved : goal.loop-at-preserved
loop-at-preserved c =
    let lines = c.args.lines.now in
    let n = c.loop-at.at in
    let l = c.index-lines-at.result in
    let here = slice_get-get_or lines n l c.loop-at-test.true ∙ ap Some (sym c.index-lines-at.is) in (
      seen_next declares (names_in c.loop-at.declared.keys) (names_in c.see_declaration.new.declared.keys) n lines l here c.in_ok-seen.ensures.names c.loop-at.invariant.0,
      again_told_more is_declared_twice n lines l c.loop-at.again c.first_number-again.result c.in_ok-seen.seen _ here (c.in_ok-seen.ensures.again ∙ ap (λ b. is_declaration l && b) (c.loop-at.invariant.0 (name_in l))) c.first_number-again.ensures c.loop-at.invariant.1,
    )
