use Rattle.std.proofs.Common.{◌≡◌, ◌<◌, ◌+◌, ◌++◌, ◌∷◌, [], ℕ, List, Bool, true, set, length, sym, subst, arith}
use Rattle.ini_trees.specs.declared.order.Next.TheVariants as next
use Rattle.ini_trees.specs.declared.order.Walk.{Walk}
use Rattle.ini_trees.specs.Numbers.{IsWalk, IsNext, steps_left, left_to_pass}
use Rattle.ini_trees.proofs.WalkLaws.{walk_begin, walk_pass, walk_finish, walk_faults, fewer_by_begin, fewer_by_pass, fewer_by_finish, base_below}
use Rattle.ini_trees.proofs.order.Walk.step.Goals as goal

pub returns-in_ok-begin-in-Begin : goal.returns-in_ok-begin-in-Begin
returns-in_ok-begin-in-Begin c = λ root front w e.
    let rows = c.args.rows.now in
    let old = c.args.self.now in
    let base = c.in-Begin.base in
    let is : IsNext rows old.passed c.as_slice-2.result.now c.args.top (next.Begin base) = subst (λ (l : List ℕ). IsNext rows l c.as_slice-2.result.now c.args.top (next.Begin base)) c.as_slice.ensures c.in-Begin.ensures in
    let within = base_below rows c.args.top base c.requires.rows is.0 in
    let size : base < length old.passed = omega (arith, c.requires.passed) in
    let walk = walk_begin rows root old.path old.passed old.done old.order front c.args.top base c.requires.rows e is.0 w in
    let less = fewer_by_begin rows old.passed old.path base size within is.1 in
    subst (λ (s : Walk). IsWalk rows root s.path s.passed s.done s.order × (steps_left rows s < steps_left rows old)) (sym c.in_ok-begin-in-Begin.ensures) (walk, less)

pub returns-in-Pass : goal.returns-in-Pass
returns-in-Pass c = λ root front w e.
    let rows = c.args.rows.now in
    let old = c.args.self.now in
    let place = c.in-Pass.next in
    let is : IsNext rows old.passed c.as_slice-2.result.now c.args.top (next.Pass place) = subst (λ (l : List ℕ). IsNext rows l c.as_slice-2.result.now c.args.top (next.Pass place)) c.as_slice.ensures c.in-Pass.ensures in
    let size : c.args.top < length old.passed = omega (arith, c.requires.passed, c.requires.within) in
    let walk = walk_pass rows root old.path old.passed old.done old.order front c.args.top place e w in
    let less = fewer_by_pass rows old.passed old.path c.args.top place size c.requires.within is.0 is.1 in
    subst (λ (s : Walk). IsWalk rows root s.path s.passed s.done s.order × (steps_left rows s < steps_left rows old)) (sym c.pass.ensures) (walk, less)

pub returns-in_ok-finish-in-Finish : goal.returns-in_ok-finish-in-Finish
returns-in_ok-finish-in-Finish c = λ root front w e.
    let rows = c.args.rows.now in
    let old = c.args.self.now in
    let new = c.finish.new.self in
    let is : IsNext rows c.as_slice.result.now old.done c.args.top next.Finish = subst (λ (l : List Bool). IsNext rows c.as_slice.result.now l c.args.top next.Finish) c.as_slice-2.ensures c.in-Finish.ensures in
    let walk = walk_finish rows root old.path old.passed old.done old.order front c.args.top e is w in
    let path : new.path ≡ front = c.in_ok-finish-in-Finish.ensures.path front c.args.top e in
    let rest = c.in_ok-finish-in-Finish.ensures.rest in
    let one = subst (λ (l : List ℕ). IsWalk rows root l old.passed (set old.done c.args.top true) (old.order ++ c.args.top ∷ [])) (sym path) walk in
    let two = subst (λ (l : List ℕ). IsWalk rows root new.path l (set old.done c.args.top true) (old.order ++ c.args.top ∷ [])) (sym rest.0) one in
    let three = subst (λ (l : List Bool). IsWalk rows root new.path new.passed l (old.order ++ c.args.top ∷ [])) (sym rest.1) two in
    let less = fewer_by_finish (left_to_pass old.passed rows) old.path front c.args.top e in (
      subst (λ (l : List ℕ). IsWalk rows root new.path new.passed new.done l) (sym rest.2) three,
      subst (λ (l : List ℕ). left_to_pass l rows + left_to_pass l rows + length new.path < steps_left rows old) (sym rest.0)
          (subst (λ (l : List ℕ). left_to_pass old.passed rows + left_to_pass old.passed rows + length l < steps_left rows old) (sym path) less),
    )

pub returns-in-Fault : goal.returns-in-Fault
returns-in-Fault c = λ root front w e.
    let rows = c.args.rows.now in
    let old = c.args.self.now in
    let is : IsNext rows old.passed old.done c.args.top next.Fault =
    subst (λ (l : List Bool). IsNext rows old.passed l c.args.top next.Fault) c.as_slice-2.ensures
    (subst (λ (l : List ℕ). IsNext rows l c.as_slice-2.result.now c.args.top next.Fault) c.as_slice.ensures c.in-Fault.ensures) in
    walk_faults rows root old.path old.passed old.done old.order front c.args.top e is w
