-- The first example, as its files have it: examples/three_ticks.
use Rattle.std.specs.Prelude.{ℕ, List, [], ◌∷◌, codes}
use Rattle.model_reading.specs.Models.{IsModelOf, IsOnlyModelOf}
use Rattle.check_worked_runs.specs.Models.{three_ticks}
use Rattle.check_worked_runs.specs.Runs.{ThreeTicks}

-- the bytes of three_ticks.ned
abbrev pub ned_text : List ℕ
ned_text =
    codes "simple Tick\n{\n    parameters:\n        int count;\n        double gap @unit(s) = default(1s);\n        int priority = default(0);\n        int late = default(0);\n        int extra = default(0);\n        @statistic[fired](record=count,max,vector);\n        @statistic[extra](record=last);\n}\n\nnetwork N\n{\n    submodules:\n        t: Tick;\n}\n"

-- the bytes of omnetpp.ini
abbrev pub ini_text : List ℕ
ini_text = codes "[General]\nnetwork = N\n**.count = 3\n"

-- FROM BYTES TO BYTES: the two files make the model of three ticks, and no other. What its run
-- answers, and what it writes, is said by `ThreeTicks`.
pub record FirstExample : Type 0 where
  pub makes : IsModelOf (ned_text ∷ []) ini_text (codes "General") three_ticks
  pub only : IsOnlyModelOf (ned_text ∷ []) ini_text (codes "General") three_ticks
  pub runs : ThreeTicks
