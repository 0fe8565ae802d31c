-- The steps of a question, on what the code has.
use Rattle.std.specs.Prelude.{ℕ, ◌+◌, ◌*◌, ◌-◌, ◌^◌, ◌≡◌, ◌<◌, ◌≤◌, Bool, true, List, length, None}
use Rattle.std.specs.List.{list_any}
use Rattle.param_following.specs.Asking.{Asking}
use Rattle.param_following.specs.Following.{Rules}
use Rattle.param_engine.specs.declared.engine.Going.{Going}
use Rattle.param_engine.specs.declared.turn.QuestionStep.{QuestionStep}
use Rattle.param_engine.specs.declared.turn.QuestionStep.TheVariants as step
use Rattle.param_engine.specs.declared.turn.EngineStep.{EngineStep}
use Rattle.param_engine.specs.Tables.{Entries, Known, known, IsKept, Begins}
use Rattle.param_engine.specs.Turns.{came_to}
use Rattle.param_engine.specs.Working.{IsGoing, IsAnswered}

-- so many places are free for keys that are not evaluated yet: each is opened once, and then noted
abbrev pub room : {K V : Type 0} → Entries K V → List K → ℕ
room es keys = 2 * (2 ^ 63 - length es) + (2 ^ 63 - length keys)

-- There is a key that is being evaluated, none of these has a value yet, and each evaluation that
-- was begun was of one of these or of one that has a value.
pub record IsBusy {K V : Type 0} (same : K → K → Bool) (table : Known K V)
    (keys : List K) : Type 0 where
  pub some : 0 < length keys
  pub counted : table.begun ≤ length table.entries + length keys
  pub unknown : (k : K) → list_any (same k) keys ≡ true → known same table.entries k ≡ None

-- a step that isn't the last leaves less to do
abbrev pub IsLess : {K V F : Type 0} → ℕ → ℕ → QuestionStep K V F → Type 0
IsLess before after (step.Goes turn) = after < before
IsLess before after (step.Ended found) = Unit {0}

module _ {K V F E : Type 0} (rules : Rules K V F) (resumed : E → V → Asking K V F V) where
  -- a question about the key `asked` goes on by a table that began as `start`, and has come to this
  -- turn
  abbrev pub IsGoingBy : Entries K V → K → Known K V → Going K E → EngineStep K V F → Type 0
  IsGoingBy start asked table going turn =
      IsGoing rules resumed start asked table.entries table.begun going.keys.keys going.waiting
      going.current.asked (came_to (resumed going.current.evaluation) turn)

  abbrev pub IsStepped : Entries K V → K → Known K V → Going K E → QuestionStep K V F → Type 0
  IsStepped start asked table going (step.Goes turn) = IsGoingBy start asked table going turn
  IsStepped start asked table going (step.Ended found) =
      IsAnswered rules start asked table.entries table.begun found

  -- a step leads to the next turn, or to the answer
  abbrev pub Steps : Known K V → Going K E → EngineStep K V F → Known K V → Going K E
      → QuestionStep K V F → Type 0
  Steps table going turn after further next = (start : Entries K V) (asked : K)
      → IsGoingBy start asked table going turn
      → IsStepped start asked after further next

  -- and not without end
  abbrev pub Falls : Known K V → Going K E → EngineStep K V F → Known K V → Going K E
      → QuestionStep K V F → Type 0
  Falls table going turn after further next = (start : Entries K V) (asked : K)
      → IsGoingBy start asked table going turn
      → IsLess (room table.entries going.keys.keys) (room after.entries further.keys.keys) next

  -- where memory runs out, the table may be kept, and has what it had
  abbrev pub StopsShort : Known K V → Going K E → EngineStep K V F → Known K V → Type 0
  StopsShort table going turn after = (start : Entries K V) (asked : K)
      → IsGoingBy start asked table going turn
      → IsKept rules after.entries × Begins start after.entries
