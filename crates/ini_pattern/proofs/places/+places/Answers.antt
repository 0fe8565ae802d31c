use Rattle.std.proofs.Common.{◌≡◌, ◌≢◌, ◌<◌, ◌+◌, ◌/◌, true, refl, sym, ap, ◌∙◌, arith}
use Rattle.ini_pattern.proofs.PlaceLemmas.{no_stars_fixed, stuck_last, stuck_next}
use Rattle.ini_pattern.proofs.PlacedLemmas.{text_is, wide, placed_begin, placed_found, placed_next, placed_none, placed_on, placed_down, placed_out, smaller_next, smaller_on, told_paths, told_last, told_next, told_stuck}
use Rattle.ini_pattern.proofs.places.+places.Goals as goal
use Rattle.ini_pattern.proofs.places.+places.Goals.{placed_rest-else-at-eq0-via-then-at-eq0+else-not-anywhere, placed_rest-else-at-eq0-via-else-at-eq0, placed_rest-else-c-eq46-via-then-c-eq46+else-at-gt0, placed_rest-else-c-eq46-via-else-c-eq46}

pub block_rest-fixed_within-requires : goal.block_rest-fixed_within-requires
block_rest-fixed_within-requires t c =
    no_stars_fixed c.args.pieces.now c.requires.1.1 (sym c.count_stars.ensures ∙ c.if-count_stars-eq0.true)

pub placed_rest-loop-rest-init : goal.placed_rest-loop-rest-init
placed_rest-loop-rest-init t c = placed_begin _ c.args.anywhere _ c.args.to_end _ c.args.name c.args.pieces refl

pub placed_rest-try_block-requires : goal.placed_rest-try_block-requires
placed_rest-try_block-requires t c =
    let w = c.loop-rest.invariant in (
      omega (arith, c.requires.1.0, c.count_stars.ensures),
      (omega arith, told_paths _ _ c.loop-rest.lefts c.loop-rest.at c.index-lefts-at.result c.requires.1.1 (omega (arith, w.few, w.room')) (w.left c.loop-rest.at (omega arith))),
    )

pub placed_rest-returns-in-Last : goal.placed_rest-returns-in-Last
placed_rest-returns-in-Last t c =
    let w = c.loop-rest.invariant in
    placed_found _ _ _ _ _ _ c.loop-rest.heres c.loop-rest.lefts c.loop-rest.at _ w (told_last _ c.loop-rest.lefts c.loop-rest.heres c.loop-rest.at _ _ _ _ _ (omega (arith, w.few, w.room')) (omega (arith, w.few, w.room)) c.in-Last.ensures)

pub placed_rest-loop-rest-smaller-in-Next : goal.placed_rest-loop-rest-smaller-in-Next
placed_rest-loop-rest-smaller-in-Next t c =
    let w = c.loop-rest.invariant in
    smaller_next _ _ _ _ _ _ c.loop-rest.heres c.loop-rest.lefts c.loop-rest.at _ _ w (told_next _ c.loop-rest.lefts c.loop-rest.heres c.loop-rest.at _ _ _ _ _ (omega (arith, w.few, w.room')) (omega (arith, w.few, w.room)) c.in-Next.ensures)

pub placed_rest-loop-rest-preserved-in-Next : goal.placed_rest-loop-rest-preserved-in-Next
placed_rest-loop-rest-preserved-in-Next t c =
    let w = c.loop-rest.invariant in
    placed_next _ _ _ _ _ _ c.loop-rest.heres c.loop-rest.lefts c.loop-rest.at _ _ (wide _ _ (ap (λ s. s / 64 + 1) c.count_stars.ensures)) w (told_next _ c.loop-rest.lefts c.loop-rest.heres c.loop-rest.at _ _ _ _ _ (omega (arith, w.few, w.room')) (omega (arith, w.few, w.room)) c.in-Next.ensures)

pub placed_rest-returns-then-not-anywhere : goal.placed_rest-returns-then-not-anywhere
placed_rest-returns-then-not-anywhere t c =
    let w = c.loop-rest.invariant in
    placed_out _ _ _ _ _ _ c.loop-rest.heres c.loop-rest.lefts c.loop-rest.at w (told_stuck _ c.loop-rest.lefts c.loop-rest.heres c.loop-rest.at _ _ _ _ _ (omega (arith, w.few, w.room')) (omega (arith, w.few, w.room)) c.in-Stuck.ensures) c.if-at-eq0.true c.if-not-anywhere.true

pub placed_rest-returns-in_default : goal.placed_rest-returns-in_default
placed_rest-returns-in_default t c =
    let w = c.loop-rest.invariant in
    placed_none _ _ _ _ _ _ c.loop-rest.heres c.loop-rest.lefts c.loop-rest.at w (told_stuck _ c.loop-rest.lefts c.loop-rest.heres c.loop-rest.at _ _ _ _ _ (omega (arith, w.few, w.room')) (omega (arith, w.few, w.room)) c.in-Stuck.ensures) (sym (text_is c.loop-rest.heres c.loop-rest.at _ (omega (arith, w.few, w.room))) ∙ c.in_default.ensures)

pub placed_rest-loop-rest-smaller-then-at-gt0 : goal.placed_rest-loop-rest-smaller-then-at-gt0
placed_rest-loop-rest-smaller-then-at-gt0 t c =
    let w = c.loop-rest.invariant in
    smaller_on c.loop-rest.heres c.loop-rest.at _ _ _ (omega (arith, w.few, w.room)) (sym (text_is c.loop-rest.heres c.loop-rest.at _ (omega (arith, w.few, w.room))) ∙ c.in-Some.ensures) (omega arith)

pub placed_rest-loop-rest-preserved-then-at-gt0 : goal.placed_rest-loop-rest-preserved-then-at-gt0
placed_rest-loop-rest-preserved-then-at-gt0 t c =
    let w = c.loop-rest.invariant in
    placed_down _ _ _ _ _ _ c.loop-rest.heres c.loop-rest.lefts c.loop-rest.at _ _ w (told_stuck _ c.loop-rest.lefts c.loop-rest.heres c.loop-rest.at _ _ _ _ _ (omega (arith, w.few, w.room')) (omega (arith, w.few, w.room)) c.in-Stuck.ensures) (sym (text_is c.loop-rest.heres c.loop-rest.at _ (omega (arith, w.few, w.room))) ∙ c.in-Some.ensures) c.if-c-eq46.true c.if-at-gt0.true

pub placed_rest-loop-rest-smaller : goal.placed_rest-loop-rest-smaller
placed_rest-loop-rest-smaller t c =
    let w = c.loop-rest.invariant in
    smaller_on c.loop-rest.heres c.loop-rest.at _ _ _ (omega (arith, w.few, w.room)) (sym (text_is c.loop-rest.heres c.loop-rest.at _ (omega (arith, w.few, w.room))) ∙ c.in-Some.ensures) (omega arith)

pub placed_rest-loop-rest-preserved : goal.placed_rest-loop-rest-preserved
placed_rest-loop-rest-preserved t c =
    let w = c.loop-rest.invariant in
    let open_way : c.loop-rest.at ≡ 0 → c.args.anywhere ≡ true =
    elim c.else-at-eq0.branch [
      | placed_rest-else-at-eq0-via-then-at-eq0+else-not-anywhere k ↦ λ z. k.if-not-anywhere.false
      | placed_rest-else-at-eq0-via-else-at-eq0 k ↦ λ z. absurd (k.if-at-eq0.false z)
    ] in
    let apart : 0 < c.loop-rest.at → c.in-Some.c ≢ 46 =
    elim c.else-c-eq46.branch [
      | placed_rest-else-c-eq46-via-then-c-eq46+else-at-gt0 k ↦ λ z. absurd (omega (arith, z, k.if-at-gt0.false))
      | placed_rest-else-c-eq46-via-else-c-eq46 k ↦ λ z. k.if-c-eq46.false
    ] in
    placed_on _ _ _ _ _ _ c.loop-rest.heres c.loop-rest.lefts c.loop-rest.at _ _ w (told_stuck _ c.loop-rest.lefts c.loop-rest.heres c.loop-rest.at _ _ _ _ _ (omega (arith, w.few, w.room')) (omega (arith, w.few, w.room)) c.in-Stuck.ensures) (sym (text_is c.loop-rest.heres c.loop-rest.at _ (omega (arith, w.few, w.room))) ∙ c.in-Some.ensures) open_way apart

pub try_block-returns-in-None : goal.try_block-returns-in-None
try_block-returns-in-None t c = stuck_last _ _ _ _ _ _ c.in_default.ensures c.in-None.ensures

pub try_block-returns-in-None-block_rest : goal.try_block-returns-in-None-block_rest
try_block-returns-in-None-block_rest t c = stuck_next _ _ _ _ _ _ _ _ c.in-Some.ensures.0 c.in-Some.ensures.1 c.in-None-block_rest.ensures
