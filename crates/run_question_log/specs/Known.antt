-- Parameters that modules have read, whose questions were asked.
use Rattle.std.specs.Prelude.{◌≡◌, ℕ, true, List, [], ◌∷◌}
use Rattle.module_tree.specs.Boxes.{Seated, EachBox}
use Rattle.model_questions.specs.declared.answer.AskedQuestion.{AskedQuestion}
use Rattle.model_questions.specs.declared.answer.Question.TheVariants.{Param}
use Rattle.run_semantics.specs.World.{is_asked}
use Rattle.run_question_log.specs.declared.known_reads.KnownReads.{KnownReads}

-- the parameters of these names were asked of the module of that id
abbrev pub WereAsked : List AskedQuestion → ℕ → List (List ℕ) → Type 0
WereAsked asked id [] = Unit {0}
WereAsked asked id (name ∷ names) =
    (is_asked (Param id name) asked ≡ true) × WereAsked asked id names

-- so it is of each of these modules
abbrev pub AreKnown : List AskedQuestion → List (Seated (List (List ℕ))) → Type 0
AreKnown asked ss = EachBox (WereAsked asked) ss

-- of which modules what is known, by rising ids
abbrev pub reads_in : KnownReads → List (Seated (List (List ℕ)))
reads_in k = k.lists.seats
