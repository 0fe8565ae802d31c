-- In every world of a run each module's state is one of its kind.
use Rattle.std.proofs.Common.{◌≡◌, ℕ, ◌==◌, cond, Bool, true, false, List, [], ◌∷◌, Some, None, IsTrue, refl, subst, map, nat_lt, if◌then◌else◌}
use Rattle.module_api.specs.Behaviour.{Behaviour}
use Rattle.module_api.specs.Laws.{IsLawful}
use Rattle.model_questions.specs.Answers.{Answers}
use Rattle.run_semantics.specs.declared.traces.Instance.{Instance}
use Rattle.run_semantics.specs.World.{World}
use Rattle.run_semantics.specs.Calls.{call_of, instance_in, with_state}
use Rattle.run_semantics.specs.Run.{Part, fresh, first_unknown, needs_of, with_instance, with_instances, world_at, after}
use Rattle.run_semantics.specs.Laws.{Each, AreStates}
use Rattle.run_semantics.proofs.Alive.{each_filter}
use Rattle.run_semantics.proofs.Lasting.{Lasts, by_steps}
use Rattle.run_semantics.proofs.Always.{LastsAlways, always}

-- a module's kind is known, and its state is one of that kind
record IsAtHome (b : Behaviour) (i : Instance) : Type 0 where
  known : IsTrue (b.known i.kind)
  state : IsTrue ((b.naming i.kind).is_state i.state)

-- so it is with each module
abbrev AllIn : Behaviour → World → Type 0
AllIn b w = Each (IsAtHome b) w.modules

-- a module that a call finds is at home
found_in : (b : Behaviour) (id : ℕ) (is : List Instance) (i : Instance) → instance_in id is ≡ Some i → Each (IsAtHome b) is → IsAtHome b i
found_in b id [] i e h = cc
found_in b id (j ∷ js) i e h = by (j.id == id) (λ x. found_in b id js i x h.1) e
  where
    by : (t : Bool) → (instance_in id js ≡ Some i → IsAtHome b i) → cond t (Some j) (instance_in id js) ≡ Some i → IsAtHome b i
    by true later e = let same : j ≡ i = cc in subst (IsAtHome b) same h.0
    by false later e = later e

-- it is the one whose state changes
changed_in : (b : Behaviour) (id : ℕ) (state : List ℕ) (is : List Instance) (i : Instance) → instance_in id is ≡ Some i → IsTrue ((b.naming i.kind).is_state state) → Each (IsAtHome b) is → Each (IsAtHome b) (with_state id state is)
changed_in b id state [] i e s h = tt
changed_in b id state (j ∷ js) i e s h = by (j.id == id) (λ x. changed_in b id state js i x s h.1) e
  where
    by : (t : Bool) → (instance_in id js ≡ Some i → Each (IsAtHome b) (with_state id state js)) → cond t (Some j) (instance_in id js) ≡ Some i → Each (IsAtHome b) (cond t (record j { state = state } ∷ js) (j ∷ with_state id state js))
    by true later e = let same : i ≡ j = cc in (record { known = h.0.known; state = subst (λ (k : Instance). IsTrue ((b.naming k.kind).is_state state)) same s }, h.1)
    by false later e = (h.0, later e)

-- where no kind is unknown each module is at home in its state at first
fresh_in : (b : Behaviour) → IsLawful b → (ps : List Part) → first_unknown b ps ≡ None → Each (IsAtHome b) (map (fresh b) ps)
fresh_in b l [] e = tt
fresh_in b l (p ∷ ps) e = by (b.known p.kind) refl e (fresh_in b l ps)
  where
    by : (t : Bool) → b.known p.kind ≡ t → cond t (first_unknown b ps) (Some p) ≡ None → (first_unknown b ps ≡ None → Each (IsAtHome b) (map (fresh b) ps)) → Each (IsAtHome b) (map (fresh b) (p ∷ ps))
    by true k e later = (record { known = k; state = (l.states p.kind k).starts }, later e)
    by false k e later = cc

-- they are placed
one_in : (b : Behaviour) (i : Instance) (is : List Instance) → IsAtHome b i → Each (IsAtHome b) is → Each (IsAtHome b) (with_instance i is)
one_in b i [] h k = (h, tt)
one_in b i (j ∷ js) h k = by (nat_lt i.id j.id) (one_in b i js h k.1)
  where
    by : (t : Bool) → Each (IsAtHome b) (with_instance i js) → Each (IsAtHome b) (if t then i ∷ j ∷ js else j ∷ with_instance i js)
    by true later = (h, k)
    by false later = (k.0, later)

all_in : (b : Behaviour) (is js : List Instance) → Each (IsAtHome b) is → Each (IsAtHome b) js → Each (IsAtHome b) (with_instances is js)
all_in b [] js h k = k
all_in b (i ∷ is) js h k = one_in b i (with_instances is js) h.0 (all_in b is js h.1 k)

states_last : (b : Behaviour) → IsLawful b → (m : Answers) → Lasts b m (AllIn b)
states_last b law m = record {
  asked = λ q w n f g p. p;
  emitted = λ e w n t f g p. p;
  recorded = λ s w f g p. p;
  inserted = λ e w n t live short f g p. p;
  cancelled = λ id timer w f g p. p;
  transmitted = λ ts w f g p. p;
  joined = λ gate to w f g p. p;
  ended = λ w f g p. p;
  called = λ id reason i w e f g p. let home = found_in b id w.modules i e p in changed_in b id ((b.naming i.kind).reply i.state (call_of m id reason w)).state w.modules i e ((law.states i.kind home.known).goes_on i.state (call_of m id reason w) home.state) p;
  finished = λ id w f g p. p;
  gone = λ target w live f g p. each_filter (IsAtHome b) (IsAtHome b) _ w.modules (λ i h e. h) p;
  created = λ parent c class w live room deep f g p. p;
  set_up = by_steps m (AllIn b) (λ id w n f g p. p) (λ parent bs w n few f g p. p);
  started = λ ids w e live young f g p. all_in b (map (fresh b) (needs_of ids w)) w.modules (fresh_in b law (needs_of ids w) e) p;
}

-- ---- runs

states_always : (b : Behaviour) → IsLawful b → (m : Answers) → LastsAlways b m (AllIn b)
states_always b law m = record {
  lasts = states_last b law m;
  at_first = tt;
  network = λ name. tt;
  begins = λ w u p rest e looked f h. subst (AllIn b) looked.same h;
}

run_in : (b : Behaviour) → IsLawful b → (m : Answers) (n : ℕ) → AllIn b (world_at (after b m n))
run_in b law m n = always b m (AllIn b) (states_always b law m) n

-- each state is one of its kind
states_in : (b : Behaviour) (is : List Instance) → Each (IsAtHome b) is → AreStates b is
states_in b [] h = tt
states_in b (i ∷ is) h = (h.0.state, states_in b is h.1)

-- in every world of a run of a lawful catalogue each state is one of its kind
pub states_of_run : (b : Behaviour) → IsLawful b → (m : Answers) (n : ℕ) → AreStates b (world_at (after b m n)).modules
states_of_run b l m n = states_in b (world_at (after b m n)).modules (run_in b l m n)

-- each kind is known
kinds_in : (b : Behaviour) (is : List Instance) → Each (IsAtHome b) is → Each (λ (i : Instance). b.known i.kind ≡ true) is
kinds_in b [] h = tt
kinds_in b (i ∷ is) h = (h.0.known, kinds_in b is h.1)

-- what stands in a world of such a run is of kinds that are known
pub kinds_of_run : (b : Behaviour) → IsLawful b → (m : Answers) (n : ℕ) → Each (λ (i : Instance). b.known i.kind ≡ true) (world_at (after b m n)).modules
kinds_of_run b l m n = kinds_in b (world_at (after b m n)).modules (run_in b l m n)
