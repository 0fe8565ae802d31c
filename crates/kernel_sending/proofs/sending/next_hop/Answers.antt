use Rattle.std.proofs.Common.{◌∙◌, sym, ap, List, ℕ, Option}
use Rattle.model_questions.specs.declared.answer.Question.TheVariants.{Hop}
use Rattle.run_semantics.specs.declared.routes.GateChange.{GateChange}
use Rattle.run_semantics.specs.declared.routes.NextHop.{NextHop}
use Rattle.run_semantics.specs.Perform.{asking, hop_after}
use Rattle.run_semantics.specs.Routes.{change_of, hop_by, if_live}
use Rattle.kernel_sending.proofs.Chains.{unchanged}
use Rattle.kernel_sending.proofs.sending.next_hop.Goals as goal

pub returns-clause-hop : goal.returns-clause-hop
returns-clause-hop g c = λ next.
    ap (λ (o : Option GateChange). hop_after g.A.Answers.answers c.args.gate.now next c.args.core.now o) (unchanged c.args.core.now (change_of c.args.gate.now c.args.core.now.changes) (sym c.in_ok-hop.ensures ∙ c.in_default.is))
    ∙ sym (ap (λ (name : List ℕ). asking g.A.Answers.answers (Hop c.args.gate.now.id name c.args.gate.now.index) (λ a v. next (if_live v (hop_by v.records c.args.gate.now.id a)) v) c.args.core.now) c.in_ok-copy.ensures)
    ∙ c.in_ok-found.ensures.asked (λ a v. next (if_live v (hop_by v.records c.args.gate.now.id a)) v)
    ∙ ap (λ (o : Option NextHop). next (if_live c.ask.new.core o) c.ask.new.core) (sym c.hop_by-hop.ensures)
    ∙ ap (λ (o : Option NextHop). next o c.ask.new.core) (sym c.if_live.ensures)
