use Rattle.std.proofs.Common.{Some, sym, ap, take, ◌∙◌}
use Rattle.std.proofs.lemmas.Option.{slice_get-get_or}
use Rattle.ned_types.specs.Types.{declares_gate, is_declared_again}
use Rattle.ned_inheritance.specs.Seen.{names_in}
use Rattle.ned_inheritance.proofs.AgainLaws.{again_here, again_passed, gate_seen, seen_next}
use Rattle.ned_inheritance.proofs.NamedLaws.{told_there, told_new}
use Rattle.ned_inheritance.proofs.gates.declares_seen.Goals as goal

pub returns-then-not-branch : goal.returns-then-not-branch
returns-then-not-branch c =
    let gates = c.args.gates.now in
    let n = c.loop-at.at in
    let g = c.index-gates-at.result in
    let here = slice_get-get_or gates n g c.loop-at-test.true ∙ ap Some (sym c.index-gates-at.is) in
    let there = told_there c.in_ok-see_gate.field-0 _ c.in_ok-see_gate.ensures.new c.if-not-branch.true in
    again_here is_declared_again n gates g _ here (sym (gate_seen (names_in c.loop-at.seen.keys) (take n gates) g c.loop-at.invariant.0) ∙ there) c.loop-at.invariant.1

pub loop-at-preserved : goal.loop-at-preserved
loop-at-preserved c =
    let gates = c.args.gates.now in
    let n = c.loop-at.at in
    let g = c.index-gates-at.result in
    let names = names_in c.loop-at.seen.keys in
    let here = slice_get-get_or gates n g c.loop-at-test.true ∙ ap Some (sym c.index-gates-at.is) in
    let new = told_new c.in_ok-see_gate.field-0 _ c.in_ok-see_gate.ensures.new c.if-not-branch.false in (
      seen_next declares_gate names (names_in c.see_gate.new.seen.keys) n gates g here c.in_ok-see_gate.ensures.names c.loop-at.invariant.0,
      again_passed is_declared_again n gates g _ here (sym (gate_seen names (take n gates) g c.loop-at.invariant.0) ∙ new) c.loop-at.invariant.1,
    )
