-- What steps do, and how much they leave.
use Rattle.std.proofs.Common.{◌≡◌, ℕ, ◌+◌, ◌*◌, ◌<◌, ◌≤◌, max, List, [], ◌∷◌, slice_get, Result, Ok, Err, Bor, ap, sym, subst, ◌∙◌, arith}
use Rattle.std.specs.Prelude.{IfOk}
use Rattle.std.proofs.Math.Nat.{mul-le-mul_left}
use Rattle.inside_keys.specs.declared.found.State.{State}
use Rattle.inside_keys.specs.declared.key.Key.{Key}
use Rattle.inside_keys.specs.Places.{meant_under}
use Rattle.inside_parts.specs.declared.fault.InsideError.{InsideError}
use Rattle.inside_parts.specs.declared.fault.InsideError.TheVariants as stop
use Rattle.param_eval.specs.declared.evaluation.Evaluation.{Evaluation}
use Rattle.param_eval.specs.declared.evaluation.EvaluationStep.{EvaluationStep}
use Rattle.param_eval.specs.Evaluating.{came_to, asks, left}
use Rattle.sim_values.specs.declared.value.Value.{Value}
use Rattle.inside_walk.specs.declared.task.Doing.{Doing}
use Rattle.inside_walk.specs.declared.task.Doing.TheVariants as doing
use Rattle.inside_walk.specs.declared.task.Ground.{Ground}
use Rattle.inside_walk.specs.declared.task.Halt.{Halt}
use Rattle.inside_walk.specs.declared.task.Halt.TheVariants as halt
use Rattle.inside_walk.specs.declared.task.Sort.TheVariants as sort
use Rattle.inside_walk.specs.declared.task.Task.TheVariants as task
use Rattle.inside_keys.specs.declared.key.Module.{Module}
use Rattle.inside_keys.specs.Asked.{KeyAsking}
use Rattle.inside_keys.specs.Inside.{gates, gates_in, inside, items, joined, made_of, own_part, submodule_names, submodules}
use Rattle.inside_keys.specs.declared.key.What.TheVariants as what
use Rattle.inside_parts.specs.declared.gates.TypeGate.{TypeGate}
use Rattle.ned_trees.specs.declared.connections.ConnectionItem.{ConnectionItem}
use Rattle.ned_trees.specs.declared.declarations.Submodule.{Submodule}
use Rattle.ned_trees.specs.declared.declarations.TypeDeclaration.{TypeDeclaration}
use Rattle.inside_walk.specs.declared.task.Next.{Next}
use Rattle.inside_walk.specs.declared.task.Next.TheVariants as next
use Rattle.inside_walk.specs.declared.task.Task.{Task}
use Rattle.inside_walk.specs.declared.task.Carry.{Carry}
use Rattle.inside_walk.specs.declared.task.Wait.{Wait}
use Rattle.inside_walk.specs.declared.task.Want.{Want}
use Rattle.inside_walk.specs.Tasks.{Leads, continued, halted, next_of, scope_of, wanted}
use Rattle.inside_walk.specs.Weights.{IsSpent, Spends, of_gates, of_items, of_submodules, of_type_gates, of_next, of_carry, of_task, of_tasks, of_wait, of_want, turns_of, cost_of_next, cost_of_task, cost_of_tasks, cost_of_want}
use Rattle.inside_run.specs.declared.reach.Reached.{Reached}
use Rattle.inside_run.specs.declared.reach.Reached.TheVariants as reached
use Rattle.inside_run.specs.Runs.{Reaches, AsksWithin, Comes, begun_load, load, load_of, needs, reached_of}

module _ (g : Ground) where
  -- the expression has its value, and something is done with it
  pub value_leads : (ts us : List Task) (e f : Evaluation) (t : EvaluationStep) (w : Want) (s : State) (x : Reached) (v : Value) (r : Result Next InsideError) → x ≡ reached.Value v
      → Reaches (meant_under (scope_of ts) g.place) (Ok x) f (came_to e t) → Leads g r us (wanted g w v (scope_of ts) s (continued g ts)) → Leads g r us (next_of g ts (next.At e t w s))
  value_leads ts us e f t w s x v r is h l =
      subst (Leads g r us) (ap (λ z. reached_of (meant_under (scope_of ts) g.place) z f (λ u. wanted g w u (scope_of ts) s (continued g ts))) (sym is) ∙ h (λ u. wanted g w u (scope_of ts) s (continued g ts))) l

  -- it needs the value of a key
  pub stops_at : (ts : List Task) (e f : Evaluation) (t : EvaluationStep) (w : Want) (s : State) (x : Reached) (k : Key) → x ≡ reached.Key k
      → Reaches (meant_under (scope_of ts) g.place) (Ok x) f (came_to e t) → halted g ts (halt.Asks k (doing.Expression f w) s) ≡ next_of g ts (next.At e t w s)
  stops_at ts e f t w s x k is r =
      ap (λ z. reached_of (meant_under (scope_of ts) g.place) z f (λ u. wanted g w u (scope_of ts) s (continued g ts))) (sym is) ∙ r (λ u. wanted g w u (scope_of ts) s (continued g ts))

  -- a fault comes of it
  pub stopped_by : (ts us : List Task) (e f : Evaluation) (t : EvaluationStep) (w : Want) (s : State) (why : InsideError)
      → Reaches (meant_under (scope_of ts) g.place) (Err why) f (came_to e t) → Comes g (Err why) us (next_of g ts (next.At e t w s))
  stopped_by ts us e f t w s (stop.Fault x) r = r (λ u. wanted g w u (scope_of ts) s (continued g ts))
  stopped_by ts us e f t w s (stop.Memory m) r = tt

  both : (a b m : ℕ) → a ≤ m → b ≤ m → max a b ≤ m
  both a b m h k = omega arith

  lower : (a b c x y z : ℕ) → a + b + x < c → y ≤ x → a + b + y < c
  lower a b c x y z h k = omega arith

  -- what is left after a step that spent so much
  pub spent_load : (most w : ℕ) (ts : List Task) (n : ℕ) (found : Next) (us : List Task) → IsSpent g most w ts n found us → load g found us < w + of_tasks g ts + n * most
  spent_load most w ts n found us s =
      lower (of_next g found) (of_tasks g us) (w + of_tasks g ts + n * most) (turns_of found * most) (turns_of found * max (cost_of_next found) (cost_of_tasks us)) 0 s.less
      (mul-le-mul_left (turns_of found) (both (cost_of_next found) (cost_of_tasks us) most s.cost s.costs))

  more : (a w d t p : ℕ) → a < w + t + p → a < d + w + t + p
  more a w d t p h = omega arith

  -- after an expression
  value_load : (ts us : List Task) (e : Evaluation) (t : EvaluationStep) (w : Want) (s : State) (n : Next) → Spends g (of_want g w) (cost_of_want w) ts s.turns (Ok n) us → load g n us < load g (next.At e t w s) ts
  value_load ts us e t w s n h =
      let most : ℕ = max (cost_of_want w) (cost_of_tasks ts) in
      more (load g n us) (of_want g w) (asks t + left e) (of_tasks g ts) (s.turns * most)
      (spent_load most (of_want g w) ts s.turns n us (h most (omega arith) (omega arith)))

  pub value_within : (ts us : List Task) (e : Evaluation) (t : EvaluationStep) (w : Want) (s : State) (r : Result Next InsideError) → Spends g (of_want g w) (cost_of_want w) ts s.turns r us
      → IfOk r (λ n. load g n us < load g (next.At e t w s) ts)
  value_within ts us e t w s (Ok n) h = value_load ts us e t w s n h
  value_within ts us e t w s (Err why) h = tt

  less_to_ask : (a b w t p q : ℕ) → 1 + a ≤ b → 1 + (a + w + t + p) ≤ b + w + t + p
  less_to_ask a b w t p q h = omega arith

  pub key_load : (ts : List Task) (e f : Evaluation) (t : EvaluationStep) (w : Want) (s : State) (x : Reached) (k : Key) → x ≡ reached.Key k → needs x + left f ≤ asks t + left e
      → AsksWithin g (load g (next.At e t w s) ts) ts (halt.Asks k (doing.Expression f w) s)
  key_load ts e f t w s x k is h = let one : needs x ≡ 1 = ap needs is in less_to_ask (left f) (asks t + left e) (of_want g w) (of_tasks g ts) (s.turns * max (cost_of_want w) (cost_of_tasks ts)) 0 (omega (arith, one, h))

  one_for_it : (a t p : ℕ) → 1 + (a + t + p) ≤ (a + 1) + t + p
  one_for_it a t p = omega arith

  pub waits_within : (ts : List Task) (k : Key) (w : Wait) (s : State) → AsksWithin g (load g (next.Ask k w s) ts) ts (halt.Asks k (doing.Key w) s)
  waits_within ts k w s = one_for_it (of_wait g w) (of_tasks g ts) (s.turns * max 0 (cost_of_tasks ts))

  pub carries_within : (ts : List Task) (k : Key) (y : Carry) (s : State) → AsksWithin g (load g (next.Carry k y s) ts) ts (halt.Asks k (doing.Carrier y) s)
  carries_within ts k y s = one_for_it (of_carry y) (of_tasks g ts) (s.turns * max 0 (cost_of_tasks ts))

  grouped : (a x t p : ℕ) → a < x + t + p → a < 0 + (x + t) + p
  grouped a x t p h = omega arith

  -- after a task
  task_load : (all ts us : List Task) (t : Task) (s : State) (n : Next) → all ≡ t ∷ ts → Spends g (of_task g t) (cost_of_task t) ts s.turns (Ok n) us → load g n us < load g (next.Go s) all
  task_load all ts us t s n is h =
      subst_load all (t ∷ ts) is
      (grouped (load g n us) (of_task g t) (of_tasks g ts) (s.turns * most) (spent_load most (of_task g t) ts s.turns n us (h most (omega arith) (omega arith))))
    where
      most : ℕ
      most = max 0 (max (cost_of_task t) (cost_of_tasks ts))

      subst_load : (a b : List Task) → a ≡ b → load g n us < load g (next.Go s) b → load g n us < load g (next.Go s) a
      subst_load a b e h = let same : load g (next.Go s) a ≡ load g (next.Go s) b = ap (load g (next.Go s)) e in omega (arith, same, h)

  pub task_within : (all ts us : List Task) (t : Task) (s : State) (r : Result Next InsideError) → all ≡ t ∷ ts → Spends g (of_task g t) (cost_of_task t) ts s.turns r us
      → IfOk r (λ n. load g n us < load g (next.Go s) all)
  task_within all ts us t s (Ok n) is h = task_load all ts us t s n is h
  task_within all ts us t s (Err why) is h = tt

  pub within_more : (a b : ℕ) (ts : List Task) (h : Halt) → a ≤ b → AsksWithin g a ts h → AsksWithin g b ts h
  within_more a b ts (halt.Asks k d s) le w = let h : 1 + load_of g d ts s ≤ a = w in omega (arith, le, h)
  within_more a b ts (halt.Done f) le w = tt

  -- what is done with what a channel does
  resumed_by : (ts us : List Task) (y : Carry) (s : State) (n : Next) → Spends g (of_carry y) 0 ts s.turns (Ok n) us → load g n us ≤ load_of g (doing.Carrier y) ts s
  resumed_by ts us y s n h =
      let most : ℕ = max 0 (cost_of_tasks ts) in
      let less : load g n us < of_carry y + of_tasks g ts + s.turns * most = spent_load most (of_carry y) ts s.turns n us (h most (omega arith) (omega arith)) in
      omega (arith, less)

  resumed_all : (ts us : List Task) (y : Carry) (s : State) (r : Result Next InsideError) → Spends g (of_carry y) 0 ts s.turns r us → IfOk r (λ n. load g n us ≤ load_of g (doing.Carrier y) ts s)
  resumed_all ts us y s (Ok n) h = resumed_by ts us y s n h
  resumed_all ts us y s (Err why) h = tt

  pub resumed_within : (ts us vs : List Task) (d : Doing) (y : Carry) (s : State) (r q : Result Next InsideError) → d ≡ doing.Carrier y → q ≡ r → vs ≡ us
      → Spends g (of_carry y) 0 ts s.turns r us → IfOk q (λ n. load g n vs ≤ load_of g d ts s)
  resumed_within ts us vs d y s r q is same at h =
      subst (λ x. IfOk x (λ n. load g n vs ≤ load_of g d ts s)) (sym same)
      (subst (λ l. IfOk r (λ n. load g n l ≤ load_of g d ts s)) (sym at)
      (subst (λ z. IfOk r (λ n. load g n us ≤ load_of g z ts s)) (sym is) (resumed_all ts us y s r h)))

  pub stopped_within : (vs : List Task) (m : ℕ) (q : Result Next InsideError) (why : InsideError) → q ≡ Err why → IfOk q (λ n. load g n vs ≤ m)
  stopped_within vs m q why same = subst (λ x. IfOk x (λ n. load g n vs ≤ m)) (sym same) tt

  -- the tasks of an inside that has begun come to it
  pub begun_is : (all us vs : List Task) (m : Module) (gs : Bor (List TypeGate)) (ls : Bor (List Submodule)) (is : Bor (List ConnectionItem)) (s : State) (n : ℕ) (t : TypeDeclaration)
      → vs ≡ task.Items is ∷ [] → us ≡ task.Submodules ls ∷ vs → all ≡ task.Gates m sort.Own gs ∷ us → s ≡ own_part n → gs.now ≡ gates_in (slice_get g.gates.now n)
      → ls.now ≡ t.submodules → is.now ≡ t.connections.items → m ≡ g.site → g.submodules.now ≡ submodule_names t
      → continued g all s ≡ inside g.site g.types.now g.gates.now g.is_whole g.place n t
  begun_is all us vs m gs ls is s n t e f h k a b c d i =
      let whole : all ≡ task.Gates m sort.Own gs ∷ task.Submodules ls ∷ task.Items is ∷ [] = h ∙ ap (λ l. task.Gates m sort.Own gs ∷ l) (f ∙ ap (λ l. task.Submodules ls ∷ l) e) in
      ap (λ l. continued g l s) whole ∙ ap (λ (x : State). continued g (task.Gates m sort.Own gs ∷ task.Submodules ls ∷ task.Items is ∷ []) x) k
      ∙ ap (λ x. by x gs.now ls.now is.now g.submodules.now) d ∙ ap (λ x. by g.site x ls.now is.now g.submodules.now) a
      ∙ ap (λ x. by g.site (gates_in (slice_get g.gates.now n)) x is.now g.submodules.now) b
      ∙ ap (λ x. by g.site (gates_in (slice_get g.gates.now n)) t.submodules x g.submodules.now) c
      ∙ ap (λ x. by g.site (gates_in (slice_get g.gates.now n)) t.submodules t.connections.items x) i
    where
      by : Module → List TypeGate → List Submodule → List ConnectionItem → List (List ℕ) → KeyAsking
      by site gates_there lines items_there names =
          gates site what.GateSize gates_there (own_part n) (λ u.
          submodules g.site g.types.now g.gates.now g.is_whole lines u (λ v.
          items g.place names g.gates.now (joined g.site names g.gates.now g.is_whole) items_there [] v made_of))

  summed : (a b p q most : ℕ) → a ≤ b → most ≡ q → 0 + (a + (p + (q + 0))) + 1000000 * most ≤ b + p + q + 1000000 * q
  summed a b p q most h e = omega (arith, h, e)

  greatest : (n : ℕ) → max 0 (max 0 (max 0 (max n 0))) ≡ n
  greatest n = omega arith

  -- an inside that has begun
  pub begun_within : (all us ts vs : List Task) (m : Module) (gs : Bor (List TypeGate)) (ls : Bor (List Submodule)) (is : Bor (List ConnectionItem)) (s : State) (n : ℕ) (t : TypeDeclaration)
      → vs ≡ task.Items is ∷ [] → us ≡ task.Submodules ls ∷ vs → all ≡ task.Gates m sort.Own gs ∷ us → s ≡ own_part n → of_gates gs.now ≤ of_type_gates g.gates.now → ls.now ≡ t.submodules → is.now ≡ t.connections.items
      → load g (next.Go s) all ≤ begun_load g t
  begun_within all us ts vs m gs ls is s n t e f h k le le2 le3 =
      let whole : all ≡ task.Gates m sort.Own gs ∷ task.Submodules ls ∷ task.Items is ∷ [] = h ∙ ap (λ l. task.Gates m sort.Own gs ∷ l) (f ∙ ap (λ l. task.Submodules ls ∷ l) e) in
      let same : load g (next.Go s) all ≡ load g (next.Go (own_part n)) (task.Gates m sort.Own gs ∷ task.Submodules ls ∷ task.Items is ∷ []) = ap (λ l. load g (next.Go s) l) whole ∙ ap (λ (x : State). load g (next.Go x) (task.Gates m sort.Own gs ∷ task.Submodules ls ∷ task.Items is ∷ [])) k in
      let less : load g (next.Go (own_part n)) (task.Gates m sort.Own gs ∷ task.Submodules ls ∷ task.Items is ∷ []) ≤ of_type_gates g.gates.now + of_submodules g ls.now + of_items is.now + 1000000 * of_items is.now
      = summed (of_gates gs.now) (of_type_gates g.gates.now) (of_submodules g ls.now) (of_items is.now) (max 0 (max 0 (max 0 (max (of_items is.now) 0)))) le (greatest (of_items is.now)) in
      let at : of_type_gates g.gates.now + of_submodules g ls.now + of_items is.now + 1000000 * of_items is.now ≡ begun_load g t
      = ap (λ x. of_type_gates g.gates.now + of_submodules g x + of_items is.now + 1000000 * of_items is.now) le2 ∙ ap (λ x. of_type_gates g.gates.now + of_submodules g t.submodules + of_items x + 1000000 * of_items x) le3 in
      omega (arith, same, less, at)
