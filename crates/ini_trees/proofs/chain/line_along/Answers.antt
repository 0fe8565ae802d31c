use Rattle.std.proofs.Common.{◌≡◌, ◌≢◌, ◌⊎◌, set, inl, ◌+◌, ◌<◌, ◌++◌, ◌∷◌, [], ℕ, List, Option, Some, None, Ok, length, map, take, get_or, refl, sym, ap, ◌∙◌, subst, arith}
use Rattle.std.specs.List.{Contains}
use Rattle.std.proofs.lemmas.List.{length-set, take_all}
use Rattle.std.proofs.lemmas.List.Elements.{Contains-get_or}
use Rattle.std.specs.declared.alloc.AllocError.{AllocError}
use Rattle.ini_trees.specs.Counts.{AreAllBelow, HoldsZeros, ZerosBehind}
use Rattle.ini_trees.specs.Numbers.{bases_at}
use Rattle.ini_trees.specs.Numbered.{line_at, SettlesRow, IsNumberLine}
use Rattle.ini_trees.specs.Parts.{IsFirstOnce}
use Rattle.ini_trees.proofs.PartLaws.{first_once}
use Rattle.ini_trees.proofs.NumberedLaws.{sections_of, have_lines, merged_below, found_kept, found_more, row_settled, row_faults, no_line_above, read_at}
use Rattle.ini_trees.proofs.chain.line_along.Goals as goal

pub line_in-requires-clause-below : goal.line_in-requires-clause-below
line_in-requires-clause-below c =
    let rows = c.args.rows.now in
    let number = get_or c.args.order.now c.loop-place.place 0 in
    let have = have_lines c.args.text.now c.args.names.now rows c.loop-place.lines c.args.order.now c.in_ok-last.last.items c.args.root c.loop-place.place number c.requires.rows c.requires.ordered c.in_ok-last.ensures c.loop-place-test.true refl c.loop-place.invariant.found in
    let below = merged_below c.args.text.now c.args.names.now c.loop-place.lines (bases_at rows number) have in
    subst (λ (ls : List (List ℕ)). AreAllBelow (length c.loop-place.waiting) (map (line_at ls) (bases_at rows number) ++ bases_at rows number ∷ [])) (sym c.as_slice.ensures)
    (subst (λ (n : ℕ). AreAllBelow n (map (line_at c.loop-place.lines) (bases_at rows number) ++ bases_at rows number ∷ [])) (sym c.loop-place.invariant.counted) below)

pub line_in-requires-clause-once : goal.line_in-requires-clause-once
line_in-requires-clause-once c =
    let rows = c.args.rows.now in
    let number = get_or c.args.order.now c.loop-place.place 0 in
    let have = have_lines c.args.text.now c.args.names.now rows c.loop-place.lines c.args.order.now c.in_ok-last.last.items c.args.root c.loop-place.place number c.requires.rows c.requires.ordered c.in_ok-last.ensures c.loop-place-test.true refl c.loop-place.invariant.found in
    subst (λ (ls : List (List ℕ)). IsFirstOnce ls (bases_at rows number)) (sym c.as_slice.ensures) (first_once c.args.text.now c.args.names.now c.loop-place.lines (bases_at rows number) have)

pub set-requires : goal.set-requires
set-requires c =
    let number = get_or c.args.order.now c.loop-place.place 0 in
    let reached = c.requires.reached number (Contains-get_or c.args.order.now c.loop-place.place 0 c.loop-place-test.true) in
    omega (arith, reached.0, c.requires.rows.0, c.loop-place.invariant.size)

pub returns-in-None : goal.returns-in-None
returns-in-None c =
    let rows = c.args.rows.now in
    let number = get_or c.args.order.now c.loop-place.place 0 in
    let reached = c.requires.reached number (Contains-get_or c.args.order.now c.loop-place.place 0 c.loop-place-test.true) in
    let within : number < length c.args.names.now = omega (arith, reached.0, c.requires.rows.0) in
    let have = have_lines c.args.text.now c.args.names.now rows c.loop-place.lines c.args.order.now c.in_ok-last.last.items c.args.root c.loop-place.place number c.requires.rows c.requires.ordered c.in_ok-last.ensures c.loop-place-test.true refl c.loop-place.invariant.found in
    let settled =
    subst (λ (ls : List (List ℕ)). SettlesRow {E = AllocError} (get_or rows number None) number ls (Ok None)) c.as_slice.ensures
    (subst (λ (o : Option (List ℕ)). SettlesRow {E = AllocError} (get_or rows number None) number c.as_slice.result.now (Ok o)) c.in-None.is c.in_ok-line.ensures.line) in
    let none = row_faults AllocError c.args.text.now c.args.names.now rows c.loop-place.lines number (sections_of c.args.text.now c.args.names.now c.requires.names) c.requires.rows within have settled in
    no_line_above c.args.text.now c.args.names.now rows c.args.root number reached.1 c.requires.rows reached.2 none

pub loop-place-preserved : goal.loop-place-preserved
loop-place-preserved c =
    let rows = c.args.rows.now in
    let number = get_or c.args.order.now c.loop-place.place 0 in
    let line = c.in-Some.line in
    let reached = c.requires.reached number (Contains-get_or c.args.order.now c.loop-place.place 0 c.loop-place-test.true) in
    let within : number < length c.args.names.now = omega (arith, reached.0, c.requires.rows.0) in
    let place : number < length c.loop-place.lines = omega (arith, c.loop-place.invariant.size) in
    let have = have_lines c.args.text.now c.args.names.now rows c.loop-place.lines c.args.order.now c.in_ok-last.last.items c.args.root c.loop-place.place number c.requires.rows c.requires.ordered c.in_ok-last.ensures c.loop-place-test.true refl c.loop-place.invariant.found in
    let settled =
    subst (λ (ls : List (List ℕ)). SettlesRow {E = AllocError} (get_or rows number None) number ls (Ok (Some line))) c.as_slice.ensures
    (subst (λ (o : Option (List ℕ)). SettlesRow {E = AllocError} (get_or rows number None) number c.as_slice.result.now (Ok o)) c.in-Some.is c.in_ok-line.ensures.line) in
    let is = row_settled AllocError c.args.text.now c.args.names.now rows c.loop-place.lines number line (sections_of c.args.text.now c.args.names.now c.requires.names) c.requires.rows within have settled in
    let more = found_more c.args.text.now c.args.names.now c.loop-place.lines c.args.order.now c.in_ok-last.last.items line c.args.root c.loop-place.place number c.loop-place-test.true refl place is c.loop-place.invariant.found in
    let zeros : HoldsZeros c.line_in.new.waiting = subst (λ (o : Option (List ℕ)). ZerosBehind {E = AllocError} c.line_in.new.waiting (Ok o)) c.in-Some.is c.in_ok-line.ensures.zeros in
    let same : (k : ℕ) → (k ≡ c.args.root) ⊎ (get_or c.in_ok-last.last.items k 0 ≢ c.loop-place.place) → line_at c.give_up.new.lines k ≡ line_at (set c.loop-place.lines number line) k =
    λ k h.
    let there = subst (λ (is : List ℕ). (k ≡ c.args.root) ⊎ (get_or is k 0 ≢ c.loop-place.place)) (sym c.as_slice-in-loop-place.ensures.value) h in
    c.give_up.ensures.kept k there ∙ ap (λ (ls : List (List ℕ)). line_at ls k) c.set.ensures in
    record {
      size = c.give_up.ensures.size ∙ ap length c.set.ensures ∙ length-set c.loop-place.lines number line ∙ c.loop-place.invariant.size;
      counted = c.line_in.auto.waiting ∙ c.loop-place.invariant.counted;
      zeros = zeros;
      found = found_kept c.args.text.now c.args.names.now (set c.loop-place.lines number line) c.give_up.new.lines (take (c.loop-place.place + 1) c.args.order.now) c.in_ok-last.last.items c.args.root c.loop-place.place same more;
    }

pub returns : goal.returns
returns c =
    let all : take c.loop-place.place c.args.order.now ≡ c.args.order.now = take_all c.loop-place.place c.args.order.now c.loop-place-test.false in
    let held = subst (λ (l : List ℕ). Contains l c.args.root) (sym all) c.requires.whole in
    let at = read_at c.loop-place.lines c.args.root c.remove.result c.remove.ensures.item in
    subst (IsNumberLine c.args.text.now c.args.names.now c.args.root) at (c.loop-place.invariant.found c.args.root held (inl refl))
