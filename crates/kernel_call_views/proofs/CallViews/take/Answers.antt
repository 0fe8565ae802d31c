use Rattle.std.proofs.Common.{sym, ◌∙◌, subst}
use Rattle.module_tree.specs.Boxes.{EachBox, Held}
use Rattle.module_tree.proofs.Each.{each_of, each_without}
use Rattle.kernel_call_views.specs.Tables.{IsShown}
use Rattle.kernel_call_views.specs.declared.CallView.{CallView}
use Rattle.kernel_call_views.proofs.Showing.{now_shown}
use Rattle.kernel_call_views.proofs.CallViews.take.Goals as goal

pub returns-in-Some-clause-found : goal.returns-in-Some-clause-found
returns-in-Some-clause-found g c =
    now_shown g.A.Answers.answers c.args.records.now c.args.id c.in-Some.shown
    (each_of (IsShown g.A.Answers.answers c.args.records.now) c.args.id c.args.self.now.entries.seats c.in-Some.shown c.requires (sym c.take.ensures.value ∙ c.in-Some.is))

pub returns-in-Some-clause-shown : goal.returns-in-Some-clause-shown
returns-in-Some-clause-shown g c =
    subst (λ (h : Held CallView). EachBox (IsShown g.A.Answers.answers c.args.records.now) h.seats) (sym c.take.ensures.rest)
    (each_without (IsShown g.A.Answers.answers c.args.records.now) c.args.id c.args.self.now.entries.seats c.requires)

pub returns-in-Some-clause-lasts : goal.returns-in-Some-clause-lasts
returns-in-Some-clause-lasts g c = λ t.
    let kept = each_of (IsShown g.A.Answers.answers c.args.records.now) c.args.id c.args.self.now.entries.seats c.in-Some.shown c.requires (sym c.take.ensures.value ∙ c.in-Some.is) in
    subst (IsShown g.A.Answers.answers c.args.records.now c.args.id) (now_shown g.A.Answers.answers c.args.records.now c.args.id c.in-Some.shown kept) kept

pub returns-in_ok-shown-in-None-clause-shown : goal.returns-in_ok-shown-in-None-clause-shown
returns-in_ok-shown-in-None-clause-shown g c =
    subst (λ (h : Held CallView). EachBox (IsShown g.A.Answers.answers c.args.records.now) h.seats) (sym c.take.ensures.rest)
    (each_without (IsShown g.A.Answers.answers c.args.records.now) c.args.id c.args.self.now.entries.seats c.requires)

pub returns-in_err-shown-in-None-clause-shown : goal.returns-in_err-shown-in-None-clause-shown
returns-in_err-shown-in-None-clause-shown g c =
    subst (λ (h : Held CallView). EachBox (IsShown g.A.Answers.answers c.args.records.now) h.seats) (sym c.take.ensures.rest)
    (each_without (IsShown g.A.Answers.answers c.args.records.now) c.args.id c.args.self.now.entries.seats c.requires)
