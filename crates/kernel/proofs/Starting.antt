-- The start of modules, in code and in the definitions.
pub use Rattle.kernel_sending.proofs.Loops.{stops, each_step, each_on, each_ends}
use Rattle.std.proofs.Common.{◌≡◌, ℕ, suc, ◌+◌, ◌-◌, ◌≤◌, ◌<◌, ◌==◌, nat_lt, max, Bool, true, false, cond, List, [], ◌∷◌, Option, Some, None, is_some, not, unwrap_or, refl, sym, ap, ◌∙◌, arith, drop, get_or, length, map}
use Rattle.std.proofs.lemmas.Bool.Decides.{nat_tests}
use Rattle.module_api.specs.Behaviour.{Behaviour}
use Rattle.module_api.specs.declared.call.CallReason.TheVariants as prompt
use Rattle.module_api.specs.Meaning.{Module}
use Rattle.model_questions.specs.Answers.{Answers}
use Rattle.run_semantics.specs.declared.traces.Instance.{Instance}
use Rattle.run_semantics.specs.World.{World}
use Rattle.run_semantics.specs.Perform.{Flow, On, Stopped, Broken, ◌>>=◌}
use Rattle.run_semantics.specs.Event.{call_module, instance_in}
use Rattle.run_semantics.specs.Run.{Part, first_unknown, placed, prepared, settled, stages_in, most_stages, initialize, one_stage, stages_from, start, start_all, started, unless_unknown, unstarted, with_started}
use Rattle.run_semantics.specs.Subtree.{outer_first}
use Rattle.kernel_boxes.specs.Seats.{BoxAt, instance_of, module_in, AreOfKinds}
use Rattle.kernel_sending.proofs.Loops.{next_left, none_left}
use Rattle.kernel.specs.Seats.{needs, stages_of}
use Rattle.kernel.specs.Setups.{boxed, ready}

-- ---- stages

-- the stages that a box tells are those of its module
pub stages_told : (b : Behaviour) (id : ℕ) (ss : List BoxAt) → AreOfKinds b ss → unwrap_or (stages_of (module_in id ss)) 0 ≡ stages_in b (instance_in id (map instance_of ss))
stages_told b id [] h = refl
stages_told b id (s ∷ ss) h = by (s.id == id) (stages_told b id ss h.1)
  where
    by : (t : Bool) → unwrap_or (stages_of (module_in id ss)) 0 ≡ stages_in b (instance_in id (map instance_of ss)) → unwrap_or (stages_of (cond t (Some s.box) (module_in id ss))) 0 ≡ stages_in b (cond t (Some (instance_of s)) (instance_in id (map instance_of ss)))
    by true later = ap (λ n. n.stages) h.0.named
    by false later = later

-- a box whose stages are not told is not there
pub told_none : (found : Option Module) (stages : Option ℕ) (none : Bool) → stages ≡ stages_of found → is_some stages ≡ not none → none ≡ true → found ≡ None
told_none None stages none e f t = refl
told_none (Some box) None none e f t = cc
told_none (Some box) (Some n) none e f t = let same : true ≡ not true = f ∙ ap not t in cc

past : (stage stages : ℕ) → stages ≤ stage → nat_lt stage stages ≡ false
past stage stages h = grind (arith, nat_tests)

before : (stage stages : ℕ) → stage < stages → nat_lt stage stages ≡ true
before stage stages h = grind (arith, nat_tests)

-- a module that doesn't have the stage
pub initialize-past : (b : Behaviour) (m : Answers) (stage id stages : ℕ) (w : World) → stages ≡ stages_in b (instance_in id w.modules) → stages ≤ stage → On w ≡ initialize b m stage id w
initialize-past b m stage id stages w told h = rw (ap (nat_lt stage) (sym told) ∙ past stage stages h) refl

-- one that has it
pub initialize-called : (b : Behaviour) (m : Answers) (stage id stages : ℕ) (w : World) (fl : Flow) → stages ≡ stages_in b (instance_in id w.modules) → stage < stages → fl ≡ call_module b m id (prompt.Initialize stage) w → fl ≡ initialize b m stage id w
initialize-called b m stage id stages w fl told h f = rw (ap (nat_lt stage) (sym told) ∙ before stage stages h) f

-- ---- the greatest number of stages

max_in : (most n k : ℕ) → max (max most n) k ≡ max most (max n k)
max_in most n k = omega arith

-- one id more
pub most_step : (b : Behaviour) (is : List Instance) (ids : List ℕ) (i d most stages now whole : ℕ) → i < length ids → stages ≡ stages_in b (instance_in (get_or ids i d) is) → now ≡ max most stages
    → max most (most_stages b is (drop i ids)) ≡ whole → max now (most_stages b is (drop (i + 1) ids)) ≡ whole
most_step b is ids i d most stages now whole h told is_now done =
    let k : ℕ = most_stages b is (drop (i + 1) ids) in
    ap (λ x. max x k) (is_now ∙ ap (max most) told)
    ∙ (max_in most (stages_in b (instance_in (get_or ids i d) is)) k
    ∙ (ap (λ xs. max most (most_stages b is xs)) (sym (next_left ids i d h)) ∙ done))

pub most_begins : (b : Behaviour) (is : List Instance) (ids : List ℕ) → max 0 (most_stages b is ids) ≡ most_stages b is ids
most_begins b is ids = omega arith

pub most_ends : (b : Behaviour) (is : List Instance) (ids : List ℕ) (i most whole : ℕ) → length ids ≤ i → max most (most_stages b is (drop i ids)) ≡ whole → most ≡ whole
most_ends b is ids i most whole h done =
    let max_zero : most ≡ max most 0 = omega arith in
    max_zero ∙ (sym (ap (λ xs. max most (most_stages b is xs)) (none_left ids i h)) ∙ done)

-- ---- stage after stage

-- one stage more
stages_step : (b : Behaviour) (m : Answers) (ids : List ℕ) (stage most : ℕ) (w : World) → stage < most → stages_from b m ids stage (most - stage) w ≡ (one_stage b m stage ids w >>= stages_from b m ids (stage + 1) (most - (stage + 1)))
stages_step b m ids stage most w h =
    let left : most - stage ≡ suc (most - (stage + 1)) = omega arith in
    let next : suc stage ≡ stage + 1 = omega arith in
    ap (λ n. stages_from b m ids stage n w) left ∙ ap (λ s. one_stage b m stage ids w >>= stages_from b m ids s (most - (stage + 1))) next

-- in the loop
pub stages_on : (b : Behaviour) (m : Answers) (ids : List ℕ) (stage most : ℕ) (w : World) (fl whole : Flow) → stage < most → fl ≡ one_stage b m stage ids w → stages_from b m ids stage (most - stage) w ≡ whole → (fl >>= stages_from b m ids (stage + 1) (most - (stage + 1))) ≡ whole
stages_on b m ids stage most w fl whole lt step done =
    ap (λ (f : Flow). f >>= stages_from b m ids (stage + 1) (most - (stage + 1))) step
    ∙ sym (stages_step b m ids stage most w lt)
    ∙ done

-- ---- the start of a network

-- where all is ready its modules are started
pub started_as : (b : Behaviour) (m : Answers) (v : World) → On v ≡ ready b m → settled (started b m (unstarted v) (outer_first v.records (unstarted v) 1) v) ≡ start b m
started_as b m v e = by (prepared m) e
  where
    with_boxes : (w : World) (o : Option Part) → On v ≡ unless_unknown b (needs w) w o
        → settled (started b m (unstarted v) (outer_first v.records (unstarted v) 1) v) ≡ settled (unless_unknown b (needs w) w o >>= started b m (unstarted w) (outer_first w.records (unstarted w) 1))
    with_boxes w None h = let same : v ≡ placed b (needs w) w = cc in ap (λ (u : World). settled (started b m (unstarted u) (outer_first u.records (unstarted u) 1) u)) same
    with_boxes w (Some p) h = cc

    by : (fl : Flow) → On v ≡ (fl >>= boxed b) → settled (started b m (unstarted v) (outer_first v.records (unstarted v) 1) v) ≡ settled (fl >>= start_all b m)
    by (On w) h = with_boxes w (first_unknown b (needs w)) h
    by (Stopped w) h = cc
    by (Broken w path f) h = cc

-- its calls, by what is known of their order and their stages
pub modules_begun : (b : Behaviour) (m : Answers) (v u : World) (ids calls xs ys : List ℕ) (first most : ℕ) (fl : Flow) → fl ≡ stages_from b m ys 0 most u → u ≡ with_started ids v → most ≡ most_stages b v.modules xs → xs ≡ calls → ys ≡ calls → calls ≡ outer_first v.records ids first
    → fl ≡ started b m ids (outer_first v.records ids first) v
modules_begun b m v u ids calls xs ys first most fl e marked stages one two order =
    let all : List ℕ = outer_first v.records ids first in
    e
    ∙ ap (λ is. stages_from b m is 0 most u) (two ∙ order)
    ∙ ap (λ n. stages_from b m all 0 n u) (stages ∙ ap (most_stages b v.modules) (one ∙ order))
    ∙ ap (stages_from b m all 0 (most_stages b v.modules all)) marked

-- how many stages they have at most
pub most_told : (b : Behaviour) (v : World) (ids calls xs : List ℕ) (first most : ℕ) → most ≡ most_stages b v.modules xs → xs ≡ calls → calls ≡ outer_first v.records ids first → most_stages b v.modules (outer_first v.records ids first) ≡ most
most_told b v ids calls xs first most stages one order = sym (stages ∙ ap (most_stages b v.modules) (one ∙ order))

-- all that live, at first
pub all_begun : (b : Behaviour) (m : Answers) (v : World) (ids xs : List ℕ) (fl : Flow) → fl ≡ started b m xs (outer_first v.records xs 1) v → xs ≡ ids → ids ≡ unstarted v → fl ≡ started b m (unstarted v) (outer_first v.records (unstarted v) 1) v
all_begun b m v ids xs fl e same fresh = e ∙ ap (λ (is : List ℕ). started b m is (outer_first v.records is 1) v) (same ∙ fresh)
