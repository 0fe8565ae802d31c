use Rattle.std.proofs.Common.{arith}
use Rattle.std.proofs.lemmas.Bool.Decides.{nat_tests}
use Rattle.model_questions.proofs.RecordLemmas.{path-under, pushed_under}
use Rattle.model_questions.proofs.record.+push_path.Goals as goal

pub returns : goal.returns
returns t c =
    pushed_under c.push_own_name-2.result c.args.path.now.items _ c.push_path.new.path.items c.push.new.self.items c.push_own_name-2.new.path.items _ _
    c.in_ok-push_path.ensures c.in_ok-push.ensures.items c.push_own_name-2.ensures
    (rw c.as_bytes-2.ensures (path-under c.args.depth c.args.records.now c.args.created.now c.in-Some.outer.now (grind (arith, nat_tests)) c.in-Some.ensures))
