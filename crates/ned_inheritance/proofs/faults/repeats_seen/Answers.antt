use Rattle.std.proofs.Common.{Some, bytes_eq, sym, ap, ◌∙◌}
use Rattle.std.proofs.lemmas.Option.{slice_get-get_or}
use Rattle.ned_inheritance.specs.Places.{is_name_before}
use Rattle.ned_inheritance.specs.Seen.{is_in, names_in}
use Rattle.ned_inheritance.proofs.AgainLaws.{added_as, again_here, again_passed, seen_next}
use Rattle.ned_inheritance.proofs.NamedLaws.{told_there, told_new}
use Rattle.ned_inheritance.proofs.faults.repeats_seen.Goals as goal

pub returns-then-not-branch : goal.returns-then-not-branch
returns-then-not-branch c =
    let ss = c.args.submodules.now in
    let n = c.loop-at.at in
    let s = c.index-submodules-at.result in
    let here = slice_get-get_or ss n s c.loop-at-test.true ∙ ap Some (sym c.index-submodules-at.is) in
    let there = told_there c.in_ok-see.field-0 _ c.in_ok-see.ensures.new c.if-not-branch.true in
    again_here is_name_before n ss s _ here
    (sym (c.loop-at.invariant.0 s.name) ∙ ap (λ m. is_in m (names_in c.loop-at.seen.keys)) (sym c.as_bytes.ensures) ∙ there) c.loop-at.invariant.1

pub loop-at-preserved : goal.loop-at-preserved
loop-at-preserved c =
    let ss = c.args.submodules.now in
    let n = c.loop-at.at in
    let s = c.index-submodules-at.result in
    let names = names_in c.loop-at.seen.keys in
    let more = names_in c.see.new.seen.keys in
    let here = slice_get-get_or ss n s c.loop-at-test.true ∙ ap Some (sym c.index-submodules-at.is) in
    let new = told_new c.in_ok-see.field-0 _ c.in_ok-see.ensures.new c.if-not-branch.false in (
      seen_next (λ m t. bytes_eq t.name m) names more n ss s here (added_as names more c.as_bytes.result.now s.name c.as_bytes.ensures c.in_ok-see.ensures.names) c.loop-at.invariant.0,
      again_passed is_name_before n ss s _ here (sym (c.loop-at.invariant.0 s.name) ∙ ap (λ m. is_in m names) (sym c.as_bytes.ensures) ∙ new) c.loop-at.invariant.1,
    )
