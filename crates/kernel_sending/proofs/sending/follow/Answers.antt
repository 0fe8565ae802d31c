use Rattle.std.proofs.Common.{◌∙◌, ◌<◌, ◌≤◌, ◌-◌, ◌+◌, List, Some, None, arith, ap, sym, subst, refl}
use Rattle.model_questions.specs.declared.record.Record.{Record}
use Rattle.run_semantics.specs.Routes.{is_simple}
use Rattle.run_semantics.specs.Perform.{chain, most_hops}
use Rattle.kernel_actions.proofs.Growing.{growth_on}
use Rattle.kernel_sending.proofs.Chains.{HopIs, on_none, on_end, on_more, at_last}
use Rattle.kernel_sending.proofs.sending.follow.Goals as goal

pub loop-done-preserved : goal.loop-done-preserved
loop-done-preserved g c = record {
  chain = λ reached.
      let lt : c.loop-done._done < most_hops = omega (arith, c.loop-done-test.true, c.most_hops-limit.ensures.value) in
      let hop : HopIs g.A.Answers.answers c.loop-done.place c.loop-done.core (Some c.in-Some.hop) c.next_hop.new.core =
      subst (λ o. HopIs g.A.Answers.answers c.loop-done.place c.loop-done.core o c.next_hop.new.core) c.in-Some.is c.in_ok-hop.ensures.hop in
      ap (λ xs. chain g.A.Answers.answers c.args.id reached (most_hops - (c.loop-done._done + 1)) c.in-Some.hop.to xs c.next_hop.new.core) c.in_ok-push.ensures.ok
      ∙ on_more g.A.Answers.answers c.args.id reached most_hops c.loop-done._done c.loop-done.place c.loop-done.passed c.loop-done.core c.next_hop.new.core _ (c.loop-done.invariant.chain reached) c.in-Some.hop lt hop (ap (λ (rs : List Record). is_simple rs c.in-Some.hop.to.id) (sym c.records.ensures.records) ∙ sym c.is_simple-simple.ensures ∙ c.if-simple.false);
  next = c.next_hop.ensures.next ∙ c.loop-done.invariant.next;
  grown = growth_on c.args.core.now c.loop-done.core c.next_hop.new.core c.loop-done.invariant.grown c.next_hop.ensures.grown;
}

pub returns-in_default-clause-chain : goal.returns-in_default-clause-chain
returns-in_default-clause-chain g c = λ reached.
    let lt : c.loop-done._done < most_hops = omega (arith, c.loop-done-test.true, c.most_hops-limit.ensures.value) in
    let hop : HopIs g.A.Answers.answers c.loop-done.place c.loop-done.core None c.next_hop.new.core =
    subst (λ o. HopIs g.A.Answers.answers c.loop-done.place c.loop-done.core o c.next_hop.new.core) c.in_default.is c.in_ok-hop.ensures.hop in
    sym (c.loop-done.invariant.chain reached)
    ∙ on_none g.A.Answers.answers c.args.id reached most_hops c.loop-done._done c.loop-done.place c.loop-done.passed c.loop-done.core c.next_hop.new.core _ refl lt hop
    ∙ sym c.in_ok-turn.ensures

pub returns-then-simple-clause-chain : goal.returns-then-simple-clause-chain
returns-then-simple-clause-chain g c = λ reached.
    let lt : c.loop-done._done < most_hops = omega (arith, c.loop-done-test.true, c.most_hops-limit.ensures.value) in
    let hop : HopIs g.A.Answers.answers c.loop-done.place c.loop-done.core (Some c.in-Some.hop) c.next_hop.new.core =
    subst (λ o. HopIs g.A.Answers.answers c.loop-done.place c.loop-done.core o c.next_hop.new.core) c.in-Some.is c.in_ok-hop.ensures.hop in
    sym (c.loop-done.invariant.chain reached)
    ∙ on_end g.A.Answers.answers c.args.id reached most_hops c.loop-done._done c.loop-done.place c.loop-done.passed c.loop-done.core c.next_hop.new.core _ refl c.in-Some.hop lt hop (ap (λ (rs : List Record). is_simple rs c.in-Some.hop.to.id) (sym c.records.ensures.records) ∙ sym c.is_simple-simple.ensures ∙ c.if-simple.true)
    ∙ ap (λ xs. reached xs c.in-Some.hop.to c.next_hop.new.core) (sym c.in_ok-push.ensures.ok)

pub returns-in-Some-2-clause-chain : goal.returns-in-Some-2-clause-chain
returns-in-Some-2-clause-chain g c = λ reached.
    let le : most_hops ≤ c.loop-done._done = omega (arith, c.loop-done-test.false, c.most_hops-limit.ensures.value) in
    let hop : HopIs g.A.Answers.answers c.loop-done.place c.loop-done.core (Some c.in-Some-2.field-0) c.next_hop-2.new.core =
    subst (λ o. HopIs g.A.Answers.answers c.loop-done.place c.loop-done.core o c.next_hop-2.new.core) c.in-Some-2.is c.in_ok-next_hop.ensures.hop in
    sym (c.loop-done.invariant.chain reached)
    ∙ at_last g.A.Answers.answers c.args.id reached most_hops c.loop-done._done c.loop-done.place c.loop-done.passed c.loop-done.core c.next_hop-2.new.core _ refl (Some c.in-Some-2.field-0) le hop
    ∙ sym c.in_ok-broken-in-Some-2.ensures

pub returns-clause-chain : goal.returns-clause-chain
returns-clause-chain g c = λ reached.
    let le : most_hops ≤ c.loop-done._done = omega (arith, c.loop-done-test.false, c.most_hops-limit.ensures.value) in
    let hop : HopIs g.A.Answers.answers c.loop-done.place c.loop-done.core None c.next_hop-2.new.core =
    subst (λ o. HopIs g.A.Answers.answers c.loop-done.place c.loop-done.core o c.next_hop-2.new.core) c.in-None.is c.in_ok-next_hop.ensures.hop in
    sym (c.loop-done.invariant.chain reached)
    ∙ at_last g.A.Answers.answers c.args.id reached most_hops c.loop-done._done c.loop-done.place c.loop-done.passed c.loop-done.core c.next_hop-2.new.core _ refl None le hop
    ∙ sym c.in_ok-broken-in-None.ensures
