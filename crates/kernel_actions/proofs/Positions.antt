-- Going back to a position.
use Rattle.std.proofs.Common.{◌≡◌, ℕ, zero, suc, ◌≤◌, List, [], ◌∷◌, length, take, refl, sym, ap, ◌∙◌, arith, append-nil}
use Rattle.std.proofs.Math.Seq.{take-append_seam}
use Rattle.run_semantics.specs.Laws.{GoesOn}
use Rattle.run_semantics.specs.World.{World}
use Rattle.kernel_actions.specs.declared.position.Position.{Position}
use Rattle.kernel_actions.specs.Positions.{position_of, cut_to, world_back, IsGrownFrom, AreWithin}

-- a list that has grown, cut to what it was
cut_grown : {X : Type 0} (xs ys : List X) → GoesOn xs ys → take (length xs) ys ≡ xs
cut_grown xs ys g = ap (take (length xs)) (sym g.1) ∙ take-append_seam xs g.0

-- a list that is cut twice
cut_twice : {X : Type 0} (m n : ℕ) (xs : List X) → m ≤ n → take m (take n xs) ≡ take m xs
cut_twice zero n xs h = refl
cut_twice (suc m) zero xs h = absurd (omega (arith, h))
cut_twice (suc m) (suc n) [] h = refl
cut_twice (suc m) (suc n) (x ∷ xs) h = ap (λ ys. x ∷ ys) (cut_twice m n xs (omega (arith, h)))

-- A POSITION STAYS GOOD: the world that it was taken of is that of the position, whatever the run
-- did since
pub back_when_grown : (old new : World) → IsGrownFrom old new → world_back (position_of old) new ≡ old
back_when_grown old new g =
    rw (cut_grown old.records new.records g.records, cut_grown old.dead new.dead g.dead, cut_grown old.started new.started g.started, cut_grown old.finished new.finished g.finished, cut_grown old.changes new.changes g.changes, cut_grown old.emissions new.emissions g.emissions, cut_grown old.scalars new.scalars g.scalars, cut_grown old.questions new.questions g.questions) refl

same : (w : World) → IsGrownFrom w w
same w = record {
  records = ([], append-nil w.records);
  dead = ([], append-nil w.dead);
  started = ([], append-nil w.started);
  finished = ([], append-nil w.finished);
  changes = ([], append-nil w.changes);
  emissions = ([], append-nil w.emissions);
  scalars = ([], append-nil w.scalars);
  questions = ([], append-nil w.questions);
}

-- the world itself, where the position was just taken
pub back_to_taken : (w : World) → world_back (position_of w) w ≡ w
back_to_taken w = back_when_grown w w (same w)

-- A WORLD THAT WENT BACK can go back farther, as if it had not gone back before
pub back_after_back : (p q : Position) (w : World) → AreWithin p.lengths q.lengths → world_back p (world_back q w) ≡ world_back p w
back_after_back p q w h =
    rw (cut_twice p.lengths.records q.lengths.records w.records h.records, cut_twice p.lengths.dead q.lengths.dead w.dead h.dead, cut_twice p.lengths.started q.lengths.started w.started h.started, cut_twice p.lengths.finished q.lengths.finished w.finished h.finished, cut_twice p.lengths.changes q.lengths.changes w.changes h.changes, cut_twice p.lengths.emissions q.lengths.emissions w.emissions h.emissions, cut_twice p.lengths.scalars q.lengths.scalars w.scalars h.scalars, cut_twice p.lengths.questions q.lengths.questions w.questions h.questions) refl

-- so it can where only its lists were cut
pub back_after_cut : (p q : Position) (w : World) → AreWithin p.lengths q.lengths → world_back p (cut_to q.lengths w) ≡ world_back p w
back_after_cut p q w h =
    rw (cut_twice p.lengths.records q.lengths.records w.records h.records, cut_twice p.lengths.dead q.lengths.dead w.dead h.dead, cut_twice p.lengths.started q.lengths.started w.started h.started, cut_twice p.lengths.finished q.lengths.finished w.finished h.finished, cut_twice p.lengths.changes q.lengths.changes w.changes h.changes, cut_twice p.lengths.emissions q.lengths.emissions w.emissions h.emissions, cut_twice p.lengths.scalars q.lengths.scalars w.scalars h.scalars, cut_twice p.lengths.questions q.lengths.questions w.questions h.questions) refl

-- the same position once more
pub back_again : (p : Position) (w : World) → world_back p (world_back p w) ≡ world_back p w
back_again p w = back_after_back p p w (record {
  records = omega arith;
  dead = omega arith;
  started = omega arith;
  finished = omega arith;
  changes = omega arith;
  emissions = omega arith;
  scalars = omega arith;
  questions = omega arith;
})
