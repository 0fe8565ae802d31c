use Rattle.std.proofs.Common.{◌∙◌}
use Rattle.ned_inheritance.specs.Seen.{names_in}
use Rattle.ned_types.specs.Types.{is_declared, is_fixed_in}
use Rattle.ned_inheritance.proofs.SectionLaws.{from_none, unfit_by}
use Rattle.ned_inheritance.proofs.bodies.first_unfit_over.Goals as goal

pub returns : goal.returns
returns c =
    let lines = c.args.lines.now in
    let declared = names_in c.see_declared.new.declared.keys in
    let fixed = names_in c.see_fixed.new.fixed.keys in
    c.first_unfit_by.ensures
    ∙ unfit_by declared fixed lines
    (from_none c.args.declared.now.keys declared (λ n. is_declared n lines) c.requires.declared c.in_ok-_again.ensures.names)
    (from_none c.args.fixed.now.keys fixed (λ n. is_fixed_in n lines) c.requires.fixed c.in_ok-see_fixed.ensures) c.args.body.now
