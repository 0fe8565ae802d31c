use Rattle.std.proofs.Common.{◌++◌, ◌∙◌, ap, arith, subst, ◌≡◌, ◌||◌, ℕ}
use Rattle.std.proofs.lemmas.List.Folds.{list_any-append}
use Rattle.edit_places.specs.Edited.{between, is_reached}
use Rattle.rest_index.specs.Rests.{is_among}
use Rattle.edit_places.proofs.Reached.{among_both, reached_all, reached_more, reached_none}
use Rattle.edit_places.proofs.places.add_reached.Goals as goal

pub entries-init : goal.entries-init
entries-init g c = (
  omega arith,
  c.requires.rising,
  λ p. reached_none (g.P.PlacePaths.paths c.args.at.now) c.args.entries.now c.args.from p (is_among p c.args.places.now),
)

pub entries-preserved : goal.entries-preserved
entries-preserved g c = (
  omega (arith, c.entries.invariant.0),
  omega (arith, c.entries-test.true),
  λ p. reached_more (g.P.PlacePaths.paths c.args.at.now) c.args.entries.now c.args.from c.entries.number c.at.result.now p
      (is_among p c.args.places.now) (is_among p c.entries.places) (is_among p c.append.new.places) (is_among p c.in_ok-reached.reached)
      c.entries.invariant.0 c.at.ensures (c.entries.invariant.2 p)
      (ap (is_among p) c.in_ok-append.ensures ∙ among_both p c.entries.places c.as_slice.result.now ∙ ap (λ l. is_among p c.entries.places || is_among p l) c.as_slice.ensures)
      (c.in_ok-reached.ensures p),
)

pub returns : goal.returns
returns g c = λ p. reached_all (g.P.PlacePaths.paths c.args.at.now) c.args.entries.now c.args.from c.entries.number c.args.to p (is_among p c.args.places.now) (is_among p c.entries.places)
    (omega (arith, c.entries.invariant.1, c.entries-test.false)) (c.entries.invariant.2 p)
