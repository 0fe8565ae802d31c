-- Gates by their names.
use Rattle.std.specs.Prelude.{ℕ, Bool, true, false, ◌&&◌, bytes_eq, List, [], ◌∷◌, ◌++◌, Option}
use Rattle.std.specs.Prelude.{Some, None, if◌then◌else◌}
use Rattle.module_api.specs.declared.call.Direction.{Direction}
use Rattle.module_api.specs.declared.call.Direction.TheVariants.{Input, Output, Inout}
use Rattle.module_api.specs.declared.call.Gate.{Gate}
use Rattle.module_api.specs.Values.{gate_of}
use Rattle.model_questions.specs.declared.answer.Answer.{Answer}
use Rattle.model_questions.specs.declared.answer.Answer.TheVariants as answer

abbrev pub is_inout : Direction → Bool
is_inout Input = false
is_inout Output = false
is_inout Inout = true

-- the mark after the name of a half of a gate: `$i` of what comes in, `$o` of what goes out
abbrev pub in_mark : List ℕ
in_mark = 36 ∷ 105 ∷ []

abbrev pub out_mark : List ℕ
out_mark = 36 ∷ 111 ∷ []

-- whether that is the name of a half of this gate (OMNeT++ Simulation Manual, "Gates")
abbrev pub is_half : List ℕ → List ℕ → Gate → Bool
is_half mark name g = is_inout g.direction && bytes_eq name (g.name ++ mark)

-- the half of that name, of a gate that goes both ways: it has the gate's own name and size, and
-- one direction
abbrev pub half_of : List ℕ → List Gate → Option Gate
half_of name [] = None
half_of name (g ∷ gs) =
    if is_half in_mark name g then Some (record g { direction = Input })
    else (if is_half out_mark name g then Some (record g { direction = Output })
    else half_of name gs)

abbrev pub gate_answer : Option Gate → Option Gate → Answer
gate_answer (Some g) half = answer.Gate g
gate_answer None (Some g) = answer.Gate g
gate_answer None None = answer.Absent

-- what is answered of the gate of that name among these: a whole gate, or a half of one
abbrev pub gate_named : List ℕ → List Gate → Answer
gate_named name gs = gate_answer (gate_of name gs) (half_of name gs)
