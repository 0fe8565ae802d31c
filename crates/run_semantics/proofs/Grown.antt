-- Runs grow: nothing that happened is undone.
use Rattle.std.proofs.Common.{◌≡◌, ⊎_elim, ℕ, zero, suc, ◌≤◌, ◌<◌, true, length, sym, arith, subst, eq-or-lt_of_le}
use Rattle.module_api.specs.Behaviour.{Behaviour}
use Rattle.model_questions.specs.Answers.{Answers}
use Rattle.run_semantics.specs.World.{World, is_live}
use Rattle.run_semantics.specs.Run.{world_at, after}
use Rattle.run_semantics.specs.Laws.{HasGrown}
use Rattle.run_semantics.proofs.Alive.{lived}
use Rattle.run_semantics.proofs.Reuse.{after_later}
use Rattle.run_semantics.proofs.Orderly.{on_same, on_more, after_follows}

-- nothing happened
grown_same : (w : World) → HasGrown w w
grown_same w = record {
  clock = omega arith;
  count = omega arith;
  next = omega arith;
  records = on_same w.records;
  dead = on_same w.dead;
  started = on_same w.started;
  finished = on_same w.finished;
  changes = on_same w.changes;
  emissions = on_same w.emissions;
  scalars = on_same w.scalars;
  questions = on_same w.questions;
}

-- one growth and then another
grown_on : (u v w : World) → HasGrown u v → HasGrown v w → HasGrown u w
grown_on u v w f g = record {
  clock = omega (arith, f.clock, g.clock);
  count = omega (arith, f.count, g.count);
  next = omega (arith, f.next, g.next);
  records = on_more u.records v.records w.records f.records g.records;
  dead = on_more u.dead v.dead w.dead f.dead g.dead;
  started = on_more u.started v.started w.started f.started g.started;
  finished = on_more u.finished v.finished w.finished f.finished g.finished;
  changes = on_more u.changes v.changes w.changes f.changes g.changes;
  emissions = on_more u.emissions v.emissions w.emissions f.emissions g.emissions;
  scalars = on_more u.scalars v.scalars w.scalars f.scalars g.scalars;
  questions = on_more u.questions v.questions w.questions f.questions g.questions;
}

-- one turn of a run
grown_next : (b : Behaviour) (m : Answers) (n : ℕ) → HasGrown (world_at (after b m n)) (world_at (after b m (suc n)))
grown_next b m n =
    let f = after_follows b m n in
    let l = after_later b m n in
    record { clock = f.clock; count = f.count; next = f.next; records = (l.more, l.records); dead = f.dead; started = f.started; finished = f.finished; changes = f.changes; emissions = f.emissions; scalars = f.scalars; questions = (l.rest, l.joined) }

-- a run of more events has grown
pub grown_after : (b : Behaviour) (m : Answers) (n k : ℕ) → n ≤ k → HasGrown (world_at (after b m n)) (world_at (after b m k))
grown_after b m n zero h = let e : n ≡ zero = omega arith in subst (λ i. HasGrown (world_at (after b m n)) (world_at (after b m i))) e (grown_same (world_at (after b m n)))
grown_after b m n (suc k) h =
    ⊎_elim
    (λ (e : n ≡ suc k). subst (λ i. HasGrown (world_at (after b m n)) (world_at (after b m i))) e (grown_same (world_at (after b m n))))
    (λ (l : n < suc k). grown_on (world_at (after b m n)) (world_at (after b m k)) (world_at (after b m (suc k))) (grown_after b m n k (omega (arith, l))) (grown_next b m k))
    (eq-or-lt_of_le h)

-- a module that lives later lived before, once it was created
pub lived_before : (b : Behaviour) (m : Answers) (n k id : ℕ) → n ≤ k → id ≤ length (world_at (after b m n)).records → is_live (world_at (after b m k)) id ≡ true → is_live (world_at (after b m n)) id ≡ true
lived_before b m n k id h l e =
    let g = grown_after b m n k h in
    lived (world_at (after b m n)) (world_at (after b m k)) g.dead.0 id (sym g.dead.1) l e
