-- Modules that are created neither read nor change those that have states.
use Rattle.std.proofs.Common.{◌≡◌, ℕ, zero, suc, List, [], ◌∷◌, refl, sym, ap, ◌∙◌, Option, Some, None, length, slice_get}
use Rattle.module_api.specs.Names.{is_module_name}
use Rattle.module_api.specs.declared.reply.Creation.{Creation}
use Rattle.model_questions.specs.declared.answer.Answer.{Answer}
use Rattle.model_questions.specs.declared.answer.Answer.TheVariants as answer
use Rattle.model_questions.specs.declared.answer.Built.{Built}
use Rattle.model_questions.specs.declared.answer.Question.TheVariants.{Build, TypeOf}
use Rattle.model_questions.specs.Answers.{Answers, answer_of}
use Rattle.run_semantics.specs.declared.outcome.EventFlow.{EventFlow}
use Rattle.run_semantics.specs.declared.traces.Instance.{Instance}
use Rattle.run_semantics.specs.Building.{built, compounds_from, created, inside_of, room_in, set_up, unless_many}
use Rattle.run_semantics.specs.Creating.{awaiting, built_as, built_by, class_answer, class_in, created_as, created_in, created_new, has_namesake, is_full, levels_in, with_created}
use Rattle.run_semantics.specs.Perform.{Flow, On, Stopped, Broken, ◌>>=◌, flow_of, for_each}
use Rattle.run_semantics.specs.Routes.{is_simple, module_at}
use Rattle.run_semantics.specs.World.{World, asked}
use Rattle.kernel.proofs.Apart.{either_apart, flow_of_with, flow_with, with_modules}

module _ (ms : List Instance) where
  then_apart : (f g : Flow) (k : World → Flow) → f ≡ flow_with ms g → ((w : World) → k (with_modules ms w) ≡ flow_with ms (k w)) → (f >>= k) ≡ flow_with ms (g >>= k)
  then_apart f (On w) k e h = ap (λ x. x >>= k) e ∙ h w
  then_apart f (Stopped w) k e h = ap (λ x. x >>= k) e
  then_apart f (Broken w path fault) k e h = ap (λ x. x >>= k) e

  -- a part for each
  abbrev AllApart : (ℕ → World → Flow) → Type 0
  AllApart part = (id : ℕ) (w : World) → part id (with_modules ms w) ≡ flow_with ms (part id w)

  each_apart : (part : ℕ → World → Flow) → AllApart part → (ids : List ℕ) (w : World) → for_each part ids (with_modules ms w) ≡ flow_with ms (for_each part ids w)
  each_apart part h [] w = refl
  each_apart part h (id ∷ ids) w = then_apart (part id (with_modules ms w)) (part id w) (for_each part ids) (h id w) (each_apart part h ids)

  -- ---- what is built

  many_apart : (parent : ℕ) (bs : List Built) (w : World) (one : Option Built) → unless_many parent bs (with_modules ms w) one ≡ flow_with ms (unless_many parent bs w one)
  many_apart parent bs w None = refl
  many_apart parent bs w (Some b) = refl

  inside_apart : (parent : ℕ) (found : Answer) (w : World) → created parent found (with_modules ms w) ≡ flow_with ms (created parent found w)
  inside_apart parent (answer.Inside bs) w = many_apart parent bs w (slice_get bs (room_in w))
  inside_apart parent (answer.Class class) w = refl
  inside_apart parent (answer.Root name) w = refl
  inside_apart parent (answer.Value v) w = refl
  inside_apart parent (answer.Gate g) w = refl
  inside_apart parent (answer.Next next) w = refl
  inside_apart parent (answer.Fault path fault) w = refl
  inside_apart parent (answer.Beyond beyond) w = refl
  inside_apart parent (answer.Injection i) w = refl
  inside_apart parent answer.Absent w = refl

  built_apart : (inner : ℕ → World → Flow) → AllApart inner → (parent : ℕ) (found : Answer) (w : World) → built inner parent found (with_modules ms w) ≡ flow_with ms (built inner parent found w)
  built_apart inner h parent found w =
      then_apart (created parent found (with_modules ms w)) (created parent found w) (for_each inner (compounds_from (suc (length w.records)) (inside_of found))) (inside_apart parent found w)
      (each_apart inner h (compounds_from (suc (length w.records)) (inside_of found)))

  set_up_apart : (depth : ℕ) (m : Answers) → AllApart (set_up depth m)
  set_up_apart zero m id w = refl
  set_up_apart (suc depth) m id w = built_apart (set_up depth m) (set_up_apart depth m) id (answer_of m w.records (Build id)) (asked (Build id) w)

  -- ---- what is created

  by_apart : (m : Answers) (levels first : ℕ) (class : Option (List ℕ)) (w : World) → built_by m levels first class (with_modules ms w) ≡ flow_with ms (built_by m levels first class w)
  by_apart m levels first (Some class) w = refl
  by_apart m levels first None w = then_apart (set_up levels m first (with_modules ms w)) (set_up levels m first w) (awaiting first) (set_up_apart levels m first w) (λ v. refl)

  as_apart : (m : Answers) (levels first : ℕ) (a : Answer) (w : World) → built_as m levels first a (with_modules ms w) ≡ flow_with ms (built_as m levels first a w)
  as_apart m levels first (answer.Class class) w = by_apart m levels first class w
  as_apart m levels first (answer.Fault path fault) w = refl
  as_apart m levels first (answer.Root name) w = refl
  as_apart m levels first (answer.Inside bs) w = refl
  as_apart m levels first (answer.Value v) w = refl
  as_apart m levels first (answer.Gate g) w = refl
  as_apart m levels first (answer.Next next) w = refl
  as_apart m levels first (answer.Beyond beyond) w = refl
  as_apart m levels first (answer.Injection i) w = refl
  as_apart m levels first answer.Absent w = refl

  few_apart : (m : Answers) (parent : ℕ) (c : Creation) (w : World) → created_as m parent c (with_modules ms w) ≡ flow_with ms (created_as m parent c w)
  few_apart m parent c w =
      let first : ℕ = suc (length w.records) in
      let a : Answer = class_answer m parent c w in
      either_apart ms (is_full (room_in w)) _ _ _ _ refl
      (either_apart ms (is_full (levels_in parent w)) _ _ _ _ refl (as_apart m (levels_in parent w) first a (asked (TypeOf first) (with_created parent c (class_in a) w))))

  named_apart : (m : Answers) (id : ℕ) (c : Creation) (w : World) (found : Option ℕ) → created_in m id c (with_modules ms w) found ≡ flow_with ms (created_in m id c w found)
  named_apart m id c w None = refl
  named_apart m id c w (Some parent) =
      either_apart ms (is_simple w.records parent) _ _ _ _ refl
      (either_apart ms (is_module_name c.name) _ _ _ _ (either_apart ms (has_namesake parent c w) _ _ _ _ refl (few_apart m parent c w)) refl)

  created_apart : (m : Answers) (id : ℕ) (c : Creation) (w : World) → created_new m id c (with_modules ms w) ≡ flow_with ms (created_new m id c w)
  created_apart m id c w = named_apart m id c w (module_at c.parent w)

-- what the code of a core does to the world with these modules
pub created_is : (ms : List Instance) (m : Answers) (id : ℕ) (c : Creation) (core core' : World) (turn : EventFlow) → flow_of turn core' ≡ created_new m id c core → flow_of turn (with_modules ms core') ≡ created_new m id c (with_modules ms core)
created_is ms m id c core core' turn e = flow_of_with ms turn core' ∙ ap (flow_with ms) e ∙ sym (created_apart ms m id c core)
