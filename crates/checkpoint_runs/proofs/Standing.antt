-- The modules that stand in a world of a run, by their ids.
use Rattle.std.proofs.Common.{◌≡◌, ℕ, suc, ◌+◌, ◌≤◌, ◌<◌, Bool, true, false, List, [], ◌∷◌, ◌++◌, Option, Some, None, length, option_map, refl, sym, ap, ◌∙◌, arith, subst, cond}
use Rattle.module_api.specs.Behaviour.{Behaviour}
use Rattle.model_questions.specs.declared.answer.Answer.{Answer}
use Rattle.model_questions.specs.declared.answer.Answer.TheVariants as answer
use Rattle.model_questions.specs.declared.answer.Question.TheVariants as question
use Rattle.model_questions.specs.declared.record.Record.{Record}
use Rattle.model_questions.specs.Answers.{Answers}
use Rattle.model_questions.specs.Records.{path_along, path_of}
use Rattle.model_questions.proofs.AnswerLemmas.{AreNested, answer_more}
use Rattle.run_semantics.specs.declared.traces.Instance.{Instance}
use Rattle.run_semantics.specs.Laws.{Each, GoesOn}
use Rattle.run_semantics.specs.Run.{Part, after, parts_of, standing, world_at}
use Rattle.run_semantics.specs.World.{World}
use Rattle.run_semantics.proofs.Fitting.{fits_after}
use Rattle.run_semantics.proofs.Placing.{standing_after}
use Rattle.kernel_boxes.specs.Staying.{first_without, is_held, IdsRise}
use Rattle.kernel.proofs.Behind.{parts_rise}
use Rattle.kernel.proofs.Rising.{rise_filter, rise_later, Rise}
use Rattle.kernel.specs.Seats.{request_for}

-- ---- their ids rise

stand_rise : (b : Behaviour) (m : Answers) (n : ℕ) → Rise 1 (1 + length (world_at (after b m n)).records) (standing (world_at (after b m n)).modules)
stand_rise b m n =
    let w = world_at (after b m n) in
    subst (Rise 1 (1 + length w.records)) (sym (standing_after b m n))
    (rise_filter _ 1 (1 + length w.records) (parts_of w) (parts_rise 1 (1 + length w.records) w.records (omega arith)))

ids_of_parts : (from below : ℕ) (is : List Instance) → Rise from below (standing is) → IdsRise from is
ids_of_parts from below [] r = tt
ids_of_parts from below (i ∷ is) r = (r.0, ids_of_parts (suc i.id) below is r.2)

pub run_rises : (b : Behaviour) (m : Answers) (n : ℕ) → IdsRise 0 (world_at (after b m n)).modules
run_rises b m n =
    let w = world_at (after b m n) in
    ids_of_parts 0 (1 + length w.records) w.modules (rise_later 0 1 (1 + length w.records) (standing w.modules) (omega arith) (stand_rise b m n))

-- ---- the first without a box is one of them

pub without_is : (P : Part → Type 0) (boxes ps : List Part) (p : Part) → Each P ps → first_without boxes ps ≡ Some p → P p × (is_held p.id boxes ≡ false)
without_is P boxes [] p h e = cc
without_is P boxes (q ∷ qs) p h e = by (is_held q.id boxes) refl (without_is P boxes qs p h.1) e
  where
    by : (t : Bool) → is_held q.id boxes ≡ t → (first_without boxes qs ≡ Some p → P p × (is_held p.id boxes ≡ false)) → cond t (first_without boxes qs) (Some q) ≡ Some p → P p × (is_held p.id boxes ≡ false)
    by true t later e = later e
    by false t later e = let same : q ≡ p = cc in (subst P same h.0, subst (λ (x : Part). is_held x.id boxes ≡ false) same t)

below_each : (from below : ℕ) (ps : List Part) → Rise from below ps → Each (λ (p : Part). p.id < below) ps
below_each from below [] r = tt
below_each from below (p ∷ ps) r = (r.1, below_each (suc p.id) below ps r.2)

-- ---- its path

-- a model that answers where a module stands, by its path
abbrev names_paths : Answers
names_paths = record {
  root = answer.Absent;
  class_there = λ place. answer.Absent;
  inside = λ place. answer.Root (path_along place);
  names = λ place. [];
  value = λ place name. answer.Absent;
  gates = λ place. [];
  hop = λ place name index. answer.Absent;
  hop_back = λ place name index. answer.Absent;
  time_limit = None;
  injections = [];
}

abbrev named_in : Answer → List ℕ
named_in (answer.Root name) = name
named_in (answer.Class class) = []
named_in (answer.Inside bs) = []
named_in (answer.Value v) = []
named_in (answer.Gate g) = []
named_in (answer.Next next) = []
named_in (answer.Fault path f) = []
named_in (answer.Beyond beyond) = []
named_in (answer.Injection i) = []
named_in answer.Absent = []

-- the path of a module that is there stays as more are created
path_more : (rs more : List Record) (id : ℕ) → AreNested 0 rs → id ≤ length rs → path_of (rs ++ more) id ≡ path_of rs id
path_more rs more id nested l = ap named_in (answer_more names_paths rs more nested (question.Build id) l)

pub path_grown : (rs ss : List Record) (id : ℕ) → AreNested 0 rs → GoesOn rs ss → id ≤ length rs → path_of ss id ≡ path_of rs id
path_grown rs ss id nested g l = ap (λ xs. path_of xs id) (sym g.1) ∙ path_more rs g.0 id nested l

-- so is the request for it
request_grown : (v w : World) (p : Part) → AreNested 0 v.records → GoesOn v.records w.records → p.id ≤ length v.records → request_for w p ≡ request_for v p
request_grown v w p nested g l = ap (λ (path : List ℕ). record { kind = p.kind; path = path; id = p.id }) (path_grown v.records w.records p.id nested g l)

pub wanted_grown : (b : Behaviour) (m : Answers) (n : ℕ) (w : World) (boxes : List Part) → GoesOn (world_at (after b m n)).records w.records
    → option_map (request_for w) (first_without boxes (standing (world_at (after b m n)).modules)) ≡ option_map (request_for (world_at (after b m n))) (first_without boxes (standing (world_at (after b m n)).modules))
wanted_grown b m n w boxes g = by (first_without boxes (standing v.modules)) refl
  where
    v : World
    v = world_at (after b m n)

    within : (p : Part) → first_without boxes (standing v.modules) ≡ Some p → p.id ≤ length v.records
    within p e = let h = (without_is (λ (q : Part). q.id < 1 + length v.records) boxes (standing v.modules) p (below_each 1 (1 + length v.records) (standing v.modules) (stand_rise b m n)) e).0 in omega (arith, h)

    by : (o : Option Part) → first_without boxes (standing v.modules) ≡ o → option_map (request_for w) o ≡ option_map (request_for v) o
    by None e = refl
    by (Some p) e = ap Some (request_grown v w p (fits_after b m n).nested g (within p e))
