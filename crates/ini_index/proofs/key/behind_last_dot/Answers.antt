use Rattle.std.proofs.Common.{◌≡◌, ◌∙◌, ℕ, suc, ◌-◌, ◌<◌, length, arith, true, Some, slice_get, refl, sym, ap}
use Rattle.std.proofs.lemmas.List.{take_rest}
use Rattle.std.proofs.lemmas.Option.{slice_get_read}
use Rattle.ini_pattern.specs.declared.piece.Piece.{Piece}
use Rattle.ini_index.specs.Keys.{is_dot}
use Rattle.ini_index.proofs.KeyLaws.{behind_is}
use Rattle.ini_index.proofs.key.behind_last_dot.Goals as goal
use Rattle.ini_index.proofs.key.behind_last_dot.Goals.{then-loop-start-test+else-not-is_dot, else-loop-start-test}

pub returns : goal.returns
returns c =
    let ps = c.args.pieces.now in
    let at : (before : ℕ) → c.loop-start.start ≡ suc before → (p : Piece) × (slice_get ps before ≡ Some p) × (is_dot p ≡ true) =
    elim c.loop-start-test.branch [
      | then-loop-start-test+else-not-is_dot w ↦ λ before e.
          let back : c.loop-start.start - 1 ≡ before = omega (arith, e) in
          let within : c.loop-start.start - 1 < length ps = omega (arith, e, c.loop-start.invariant.within) in
          (w.index-pieces-start.result, sym (ap (slice_get ps) back) ∙ slice_get_read ps (length ps) (c.loop-start.start - 1) w.index-pieces-start.result refl within w.index-pieces-start.is, sym w.is_dot.ensures ∙ w.if-not-is_dot.false)
      | else-loop-start-test w ↦ λ before e. absurd (omega (arith, e))
    ] in
    take_rest ps c.loop-start.start ∙ behind_is ps c.loop-start.start c.loop-start.invariant.past at
