use Rattle.std.proofs.Common.{◌≡◌, ℕ, ◌<◌, false, ap, ◌∙◌}
use Rattle.inside_wiring.specs.Wired.{is_free}
use Rattle.inside_wiring.proofs.Taken.{IsIndexed-source, IsIndexed-target, IsIndexed-both}
use Rattle.inside_wiring.proofs.wiring.Wiring.raise.Goals as goal
use Rattle.inside_wiring.proofs.wiring.Wiring.raise.Goals.{in-Source+in_ok-insert-in-Source, in-Target+in_ok-insert-in-Target, in-Both+in_ok-insert-in-Both}

pub invariant_of-result : goal.invariant_of-result
invariant_of-result c =
    let fresh : (i : ℕ) → i < c.args.index → is_free c.self.inside.links c.args.role (c.args.vector, i) ≡ false = λ i h. ap (λ w. is_free w.links c.args.role (c.args.vector, i)) c.self.view_is ∙ c.requires i h in
    elim c.match-role.branch [
      | in-Source+in_ok-insert-in-Source w ↦ rw (w.source_hints-is, w.target_hints-is, w.both_hints-is) (IsIndexed-source c.self.inside.links c.self.inside.sources c.self.inside.targets c.self.inside.source_hints w.insert.new.self c.self.inside.target_hints c.self.inside.both_hints c.args.role c.args.vector c.args.index c.self.invariant w.in-Source.is w.in_ok-insert-in-Source.ensures.updates.0 fresh)
      | in-Target+in_ok-insert-in-Target w ↦ rw (w.source_hints-is, w.target_hints-is, w.both_hints-is) (IsIndexed-target c.self.inside.links c.self.inside.sources c.self.inside.targets c.self.inside.source_hints c.self.inside.target_hints w.insert-in-Target.new.self c.self.inside.both_hints c.args.role c.args.vector c.args.index c.self.invariant w.in-Target.is w.in_ok-insert-in-Target.ensures.updates.0 fresh)
      | in-Both+in_ok-insert-in-Both w ↦ rw (w.source_hints-is, w.target_hints-is, w.both_hints-is) (IsIndexed-both c.self.inside.links c.self.inside.sources c.self.inside.targets c.self.inside.source_hints c.self.inside.target_hints c.self.inside.both_hints w.insert-in-Both.new.self c.args.role c.args.vector c.args.index c.self.invariant w.in-Both.is w.in_ok-insert-in-Both.ensures.updates.0 fresh)
    ]
