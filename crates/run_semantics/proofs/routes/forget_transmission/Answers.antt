use Rattle.std.proofs.Common.{◌∙◌, ◌≡◌, ◌+◌, arith, List, Some, None, sym, ap}
use Rattle.std.specs.List.{remove}
use Rattle.run_semantics.specs.declared.routes.Transmission.{Transmission}
use Rattle.run_semantics.specs.Routes.{place_of, without_transmission}
use Rattle.run_semantics.proofs.Changes.{forgotten, none_left}
use Rattle.run_semantics.proofs.routes.forget_transmission.Goals as goal

pub loop-place-preserved : goal.loop-place-preserved
loop-place-preserved c =
    let found : place_of c.args.gate.now c.loop-place.transmissions ≡ Some c.in-Some.place = ap (λ (ts : List Transmission). place_of c.args.gate.now ts) (sym c.as_slice.ensures) ∙ sym c.place_of.ensures.place ∙ c.in-Some.is in
    let zero_before : c.in-Some.place ≡ 0 + c.in-Some.place = omega arith in
    ap (λ (ts : List Transmission). without_transmission c.args.gate.now ts) c.remove.ensures.rest
    ∙ forgotten 0 c.in-Some.place c.args.gate.now c.loop-place.transmissions (found ∙ ap (λ n. Some n) zero_before)
    ∙ c.loop-place.invariant

pub returns : goal.returns
returns c =
    let found : place_of c.args.gate.now c.loop-place.transmissions ≡ None = ap (λ (ts : List Transmission). place_of c.args.gate.now ts) (sym c.as_slice.ensures) ∙ sym c.place_of.ensures.place ∙ c.in_default.is in
    sym (none_left 0 c.args.gate.now c.loop-place.transmissions found) ∙ c.loop-place.invariant
