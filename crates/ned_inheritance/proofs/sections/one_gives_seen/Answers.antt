use Rattle.std.proofs.Common.{Some, ◌&&◌, sym, ap, ◌∙◌}
use Rattle.std.specs.Prelude.{is_some}
use Rattle.std.proofs.lemmas.Option.{slice_get-get_or}
use Rattle.ned_types.specs.Types.{gives_fixed, is_refixed, name_in, value_in}
use Rattle.ned_inheritance.specs.Seen.{names_in}
use Rattle.ned_inheritance.proofs.AgainLaws.{again_here, again_passed, seen_next}
use Rattle.ned_inheritance.proofs.sections.one_gives_seen.Goals as goal

pub returns-then-gives_seen : goal.returns-then-gives_seen
returns-then-gives_seen c =
    let lines = c.args.lines.now in
    let n = c.loop-at.at in
    let l = c.index-lines-at.result in
    let here = slice_get-get_or lines n l c.loop-at-test.true ∙ ap Some (sym c.index-lines-at.is) in
    again_here is_refixed n lines l _ here (sym (ap (λ b. is_some (value_in l) && b) (c.loop-at.invariant.0 (name_in l))) ∙ sym c.gives_seen.ensures ∙ c.if-gives_seen.true) c.loop-at.invariant.1

pub loop-at-preserved : goal.loop-at-preserved
loop-at-preserved c =
    let lines = c.args.lines.now in
    let n = c.loop-at.at in
    let l = c.index-lines-at.result in
    let here = slice_get-get_or lines n l c.loop-at-test.true ∙ ap Some (sym c.index-lines-at.is) in (
      seen_next gives_fixed (names_in c.loop-at.seen.keys) (names_in c.see_fixing.new.fixed.keys) n lines l here c.in_ok-see_fixing.ensures c.loop-at.invariant.0,
      again_passed is_refixed n lines l _ here (sym (ap (λ b. is_some (value_in l) && b) (c.loop-at.invariant.0 (name_in l))) ∙ sym c.gives_seen.ensures ∙ c.if-gives_seen.false) c.loop-at.invariant.1,
    )
