use Rattle.std.proofs.Common.{◌^◌, ◌<◌, ◌∙◌, IfOk, ap, length, subst, sym, arith, rules as all_rules}
use Rattle.param_engine.specs.Tables.{IsFoundAt, found_in}
use Rattle.param_following.specs.Laws.{IsExact}
use Rattle.param_engine.specs.Working.{ruled}
use Rattle.param_base.proofs.Spots.{base_value, base_over, own_found, over_fault}
use Rattle.param_base.proofs.finding.value_over.Goals as goal

pub returns-in-Some-clause-value : goal.returns-in-Some-clause-value
returns-in-Some-clause-value g c =
    let asker = c.args.asker.now in
    let rules = ruled g.A.Key.PartialEq.eq (g.A.Asker.asking asker) (g.A.Asker.circle asker) in
    let exact : IsExact rules = record { same = g.met.A.Asker.exact; self = g.met.A.Key.Eq.laws.refl } in
    let h = c.in-Some.ensures in
    let few : length c.args.live.now < 2 ^ 63 = search all_rules in
    base_value rules exact c.args.kept.now c.args.live.now c.requires.base c.args.key c.in-Some.field-0-1.now c.in-Some.place (omega (arith, few)) h.value h.there

pub returns-in-Some-clause-over : goal.returns-in-Some-clause-over
returns-in-Some-clause-over g c =
    let asker = c.args.asker.now in
    let rules = ruled g.A.Key.PartialEq.eq (g.A.Asker.asking asker) (g.A.Asker.circle asker) in
    let exact : IsExact rules = record { same = g.met.A.Asker.exact; self = g.met.A.Key.Eq.laws.refl } in
    let h = c.in-Some.ensures in
    base_over rules exact c.args.kept.now c.args.live.now c.requires.base c.args.key c.in-Some.field-0-1.now c.in-Some.place h.value h.there

pub returns-in-Ok-clause-value : goal.returns-in-Ok-clause-value
returns-in-Ok-clause-value g c =
    let asker = c.args.asker.now in
    let rules = ruled g.A.Key.PartialEq.eq (g.A.Asker.asking asker) (g.A.Asker.circle asker) in
    let exact : IsExact rules = record { same = g.met.A.Asker.exact; self = g.met.A.Key.Eq.laws.refl } in
    let h = c.in_ok-place.ensures in
    let few : length c.args.live.now < 2 ^ 63 = search all_rules in
    let es = c.value_of.new.table.entries in
    own_found rules exact c.args.kept.now c.args.live.now c.requires.base es c.args.key c.in-Ok.place h.kept
    (omega (arith, few, c.requires.base.shaped.as_many.0, c.len-len.ensures.len, c.len-len.ensures.small))
    (subst (λ r. IfOk r (IsFoundAt g.A.Key.PartialEq.eq es c.args.key)) c.in-Ok.is h.there).1
    (ap (found_in es) (sym c.in-Ok.is) ∙ h.value)

pub returns-clause-value : goal.returns-clause-value
returns-clause-value g c =
    let asker = c.args.asker.now in
    let rules = ruled g.A.Key.PartialEq.eq (g.A.Asker.asking asker) (g.A.Asker.circle asker) in
    let exact : IsExact rules = record { same = g.met.A.Asker.exact; self = g.met.A.Key.Eq.laws.refl } in
    over_fault rules exact c.args.kept.now c.args.live.now c.requires.base c.args.key c.value_of.new.table.entries _ _ c.in-Err.is c.in_ok-place.ensures.value
