use Rattle.std.proofs.Common.{ℕ, ◌-◌, Option, Some, None, refl, sym, subst, arith}
use Rattle.recorders.specs.Hearing.{is_within_up, within_parent}
use Rattle.result_lines.specs.Rising.{IsLeastFrom}
use Rattle.result_lines.proofs.Rising.{least_above}
use Rattle.result_lines.proofs.next_vector.+next_around_up.Goals as goal
use Rattle.result_lines.proofs.next_vector.+next_around_up.Goals.{in-Some, in-None}

pub returns : goal.returns
returns t c =
    elim c.match-record_at.branch [
      | in-Some w ↦
          least_above c.args.records.now c.args.depth (c.args.depth - 1) c.args.from c.args.emitter (Some w.in-Some.record.now) c.match-record_at.above c.least_from.result (omega arith) w.in-Some.ensures
          (subst (λ (a : Option ℕ). IsLeastFrom c.args.from (λ id. is_within_up (c.args.depth - 1) c.args.records.now id w.in-Some.record.now.parent) a) (sym w.above-is) w.next_around_up-above.ensures)
          c.least_from.ensures
      | in-None w ↦
          least_above c.args.records.now c.args.depth (c.args.depth - 1) c.args.from c.args.emitter None c.match-record_at.above c.least_from.result (omega arith) w.in-None.ensures
          (subst (λ (a : Option ℕ). IsLeastFrom c.args.from (λ id. within_parent (is_within_up (c.args.depth - 1) c.args.records.now id) None) a) (sym w.above-is) (λ n l. refl))
          c.least_from.ensures
    ]
