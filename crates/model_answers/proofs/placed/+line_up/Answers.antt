use Rattle.std.proofs.Common.{sym, arith}
use Rattle.std.proofs.lemmas.Bool.Decides.{nat_tests}
use Rattle.model_answers.proofs.Lines.{creations_up, site_up}
use Rattle.model_answers.proofs.placed.+line_up.Goals as goal

pub returns-clause-site : goal.returns-clause-site
returns-clause-site t c =
    site_up c.args.depth c.args.records.now c.args.id c.in-Some.record.now (grind (arith, nat_tests)) (sym c.in-Some.ensures) c.in_ok-around.around c.in_ok-site.site c.in_ok-around.ensures.site c.in_ok-site.ensures.site

pub returns-clause-created : goal.returns-clause-created
returns-clause-created t c =
    creations_up c.args.depth c.args.records.now c.args.id c.in-Some.record.now (grind (arith, nat_tests)) (sym c.in-Some.ensures) c.in_ok-around.around c.in_ok-site.site _ _ _ c.in_ok-around.ensures.site c.in_ok-site.ensures.site
    c.in_ok-around.ensures.created c.in_ok-push_created.ensures
