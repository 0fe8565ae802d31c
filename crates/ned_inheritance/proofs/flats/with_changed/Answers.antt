use Rattle.std.proofs.Common.{◌∙◌, ap, sym}
use Rattle.ned_inheritance.specs.Flats.{with_changed}
use Rattle.ned_inheritance.proofs.FlatLaws.{changed_none, passed_more, put_more}
use Rattle.ned_inheritance.proofs.flats.with_changed.Goals as goal

pub loop-last-preserved-in-Some-last : goal.loop-last-preserved-in-Some-last
loop-last-preserved-in-Some-last c =
    put_more c.loop-last.types c.set.new.self c.loop-last.changed c.pop.new.self c.in-Some.last c.in-Some-last.flat c.len.result _
    c.in-Some.ensures c.in-Some-last.is c.len.ensures c.set.ensures c.loop-last.invariant

pub loop-last-preserved : goal.loop-last-preserved
loop-last-preserved c =
    passed_more c.loop-last.types c.loop-last.changed c.pop.new.self c.in-Some.last _ c.in-Some.ensures c.in_default-last.is c.loop-last.invariant

pub returns : goal.returns
returns c =
    sym (changed_none c.loop-last.types) ∙ sym (ap (with_changed c.loop-last.types) c.in_default.ensures.0) ∙ c.loop-last.invariant.1
