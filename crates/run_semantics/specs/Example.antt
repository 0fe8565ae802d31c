-- A network with compound modules, worked by hand.
use Rattle.std.specs.Prelude.{◌≡◌, ℕ, bytes_eq, codes, List, [], ◌∷◌, Option, Some, None}
use Rattle.std.specs.Prelude.{if◌then◌else◌}
use Rattle.model_questions.specs.declared.answer.Answer.{Answer}
use Rattle.model_questions.specs.declared.answer.Answer.TheVariants as answer
use Rattle.model_questions.specs.declared.answer.Built.{Built}
use Rattle.model_questions.specs.declared.answer.Question.TheVariants.{Root, Build}
use Rattle.model_questions.specs.declared.record.Origin.TheVariants as origin
use Rattle.model_questions.specs.declared.record.Record.{Record}
use Rattle.model_questions.specs.Answers.{Answers}
use Rattle.model_questions.specs.Records.{path_along}
use Rattle.run_semantics.specs.Ending.{to_finish}
use Rattle.run_semantics.specs.Perform.{On}
use Rattle.run_semantics.specs.Run.{prepared}
use Rattle.run_semantics.specs.Subtree.{outer_first}
use Rattle.run_semantics.specs.World.{World, empty}

abbrev pub compound : List ℕ → Built
compound name = record { name = name; index = None; class = None }

abbrev pub simple : List ℕ → Built
simple name = record { name = name; index = None; class = Some (codes "S") }

-- N has a and b; a has x and y; b has z
abbrev pub inside_at : List ℕ → Answer
inside_at path =
    if bytes_eq path (codes "N")
    then answer.Inside (compound (codes "a") ∷ compound (codes "b") ∷ [])
    else (if bytes_eq path (codes "N.a")
    then answer.Inside (simple (codes "x") ∷ simple (codes "y") ∷ [])
    else (if bytes_eq path (codes "N.b") then answer.Inside (simple (codes "z") ∷ [])
    else answer.Absent))

abbrev pub nested : Answers
nested = record {
  root = answer.Root (codes "N");
  class_there = λ p. answer.Absent;
  inside = λ p. inside_at (path_along p);
  names = λ p. [];
  value = λ p name. answer.Absent;
  gates = λ p. [];
  hop = λ p name index. answer.Absent;
  hop_back = λ p name index. answer.Absent;
  time_limit = None;
  injections = [];
}

abbrev pub made : ℕ → List ℕ → Option (List ℕ) → Record
made parent name class =
    record { parent = parent; name = name; index = None; class = class; origin = origin.Built }

-- a and b are created before what is inside of a: so the ids of a subtree are not consecutive
abbrev pub nested_records : List Record
nested_records =
    made 0 (codes "N") None ∷ made 1 (codes "a") None ∷ made 1 (codes "b") None
    ∷ made 2 (codes "x") (Some (codes "S")) ∷ made 2 (codes "y") (Some (codes "S"))
    ∷ made 3 (codes "z") (Some (codes "S")) ∷ []

abbrev pub at_setup : World → World
at_setup w = record w {
  records = nested_records;
  questions = record { event = 0; question = Root } ∷ record { event = 0; question = Build 1 }
      ∷ record { event = 0; question = Build 2 } ∷ record { event = 0; question = Build 3 } ∷ [];
}

-- Its setup; the order of its calls: N, a, x, y, b, z; and that of its end, where all were started:
-- x, y, a, z, b, N.
pub record ExampleNests : Type 0 where
  pub setup : prepared nested ≡ On (at_setup empty)
  pub calls : outer_first nested_records (1 ∷ 2 ∷ 3 ∷ 4 ∷ 5 ∷ 6 ∷ []) 1 ≡ 1 ∷ 2 ∷ 4 ∷ 5 ∷ 3 ∷ 6 ∷ []
  pub finishes : to_finish (record (at_setup empty) { started = 1 ∷ 2 ∷ 3 ∷ 4 ∷ 5 ∷ 6 ∷ [] })
      ≡ 4 ∷ 5 ∷ 2 ∷ 6 ∷ 3 ∷ 1 ∷ []
