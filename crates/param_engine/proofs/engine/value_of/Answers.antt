use Rattle.std.proofs.Common.{Some, sym, ◌∙◌, ap, subst, arith}
use Rattle.param_engine.specs.Tables.{IsKept, said}
use Rattle.param_following.specs.Laws.{IsExact}
use Rattle.param_engine.specs.Working.{ruled}
use Rattle.param_engine.proofs.Going.{kept_value}
use Rattle.param_engine.proofs.engine.value_of.Goals as goal

pub returns-in-Some-clause-value : goal.returns-in-Some-clause-value
returns-in-Some-clause-value g c =
    let asker = c.args.asker.now in
    let rules = ruled g.A.Key.PartialEq.eq (g.A.Asker.asking asker) (g.A.Asker.circle asker) in
    let exact : IsExact rules = record { same = g.met.A.Asker.exact; self = g.met.A.Key.Eq.laws.refl } in
    let es = c.count_anew.new.self.entries in
    let h = c.in-Some.ensures in
    ap said h.there ∙ ap Some (sym
    (kept_value rules exact es c.args.key c.in-Some.field-0-1.now
    (subst (IsKept rules) (sym c.count_anew.ensures.entries) c.requires) (omega (arith, c.len-len.ensures.len, c.len-len.ensures.small)) h.value))
