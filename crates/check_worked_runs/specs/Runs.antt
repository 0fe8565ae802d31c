-- Runs that were worked out by hand.
use Rattle.std.specs.Prelude.{◌≡◌, ℕ, pos, List, [], ◌∷◌, ◌++◌, codes}
use Rattle.sim_values.specs.declared.value.Dimension.TheVariants as dimension
use Rattle.sim_values.specs.declared.value.Value.TheVariants as values
use Rattle.model_data.specs.declared.model.Model.{Model}
use Rattle.module_stock.specs.Stock.{stock}
use Rattle.edit_session.specs.Files.{scalars_of_run, vectors_of_run}
use Rattle.desk_answers.specs.Turns.{run_answer}
use Rattle.check_worked_runs.specs.Models.{ticks, given, three_ticks}

-- the answer of the run to this limit where no position is stored, its scalar file, and its vector
-- file
pub record Gives (m : Model) (limit : ℕ) (answer scalars vectors : List ℕ) : Type 0 where
  pub answer_is : run_answer stock m limit [] ≡ answer
  pub scalars_are : scalars_of_run stock m limit ≡ scalars
  pub vectors_are : vectors_of_run stock m limit ≡ vectors

abbrev pub header : List ℕ
header =
    codes "version 3\nrun General-0\nattr configname General\nattr network N\nattr runnumber 0\nconfig network N\n"

-- three ticks, a second apart
abbrev pub ThreeTicks : Type 0
ThreeTicks = Gives three_ticks 100
    (codes "done no-more-events from start executed 3")
    (header ++ codes "config **.count 3\n\nscalar N.t fired:count 3\nscalar N.t fired:max 3\n")
    (header
    ++ codes "config **.count 3\n\nvector 0 N.t fired:vector ETV\n0\t1\t1\t1\n0\t2\t2\t2\n0\t3\t3\t3\n")

-- no ticks: the vector file is its header, and nothing has no greatest value
abbrev pub NoTicks : Type 0
NoTicks = Gives
    (ticks (codes "t" ∷ []) (given (codes "count") (codes "0") (values.Whole (pos 0)) ∷ [])) 100
    (codes "done no-more-events from start executed 0")
    (header ++ codes "config **.count 0\n\nscalar N.t fired:count 0\n")
    (header ++ codes "config **.count 0\n\n")

-- two Ticks that fire at equal times, in the order of their insertion
abbrev pub TwoModules : Type 0
TwoModules = Gives (ticks (codes "a" ∷ codes "b" ∷ [])
    (given (codes "count") (codes "2") (values.Whole (pos 2)) ∷ []))
    100 (codes "done no-more-events from start executed 4")
    (header
    ++ codes "config **.count 2\n\nscalar N.a fired:count 2\nscalar N.a fired:max 2\nscalar N.b fired:count 2\nscalar N.b fired:max 2\n")
    (header
    ++ codes "config **.count 2\n\nvector 0 N.a fired:vector ETV\nvector 1 N.b fired:vector ETV\n0\t1\t1\t1\n1\t2\t1\t1\n0\t3\t2\t2\n1\t4\t2\t2\n")

-- the second tick would come after the greatest time: no module is finished, and so the scalar file
-- is its header
abbrev pub TimeOverflow : Type 0
TimeOverflow = Gives (ticks (codes "t" ∷ [])
    (given (codes "count") (codes "2") (values.Whole (pos 2))
    ∷ given (codes "gap") (codes "9223372.036854775807s")
    (values.Quantity dimension.Time (pos 9223372036854775807))
    ∷ []))
    100 (codes "done fault 1 N.t TimeOverflow from start executed 1")
    (header ++ codes "config **.count 2\nconfig **.gap 9223372.036854775807s\n\n")
    (header
    ++ codes "config **.count 2\nconfig **.gap 9223372.036854775807s\n\nvector 0 N.t fired:vector ETV\n0\t1\t9223372.036854775807\t1\n")
