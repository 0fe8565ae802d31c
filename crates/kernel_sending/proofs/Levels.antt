-- One level of a setup more.
use Rattle.std.proofs.Common.{◌≡◌, ℕ, zero, suc, ◌-◌, ◌<◌, List, ap, sym, ◌∙◌, arith, length}
use Rattle.model_questions.specs.declared.answer.Answer.{Answer}
use Rattle.model_questions.specs.declared.answer.Question.TheVariants.{Build}
use Rattle.model_questions.specs.Answers.{Answers, answer_of}
use Rattle.run_semantics.specs.declared.outcome.EventFlow.{EventFlow}
use Rattle.run_semantics.specs.declared.outcome.EventFlow.TheVariants.{GoOn}
use Rattle.run_semantics.specs.World.{World, asked}
use Rattle.run_semantics.specs.Perform.{Flow, ◌>>=◌, asking, flow_of, for_each}
use Rattle.run_semantics.specs.Run.{built, compounds_from, created, inside_of, set_up}
use Rattle.kernel_sending.specs.Setups.{HasBuilt}
use Rattle.kernel_sending.proofs.Loops.{stops}

pub deeper : (m : Answers) (depth id : ℕ) (w : World) → 0 < depth → set_up depth m id w ≡ asking m (Build id) (built (set_up (depth - 1) m) id) w
deeper m zero id w h = absurd (omega (arith, h))
deeper m (suc depth) id w h =
    let same : suc depth - 1 ≡ depth = omega arith in
    ap (λ d. asking m (Build id) (built (set_up d m) id) w) (sym same)

-- a turn that does not go on is all that becomes of a level
pub built_stops : (m : Answers) (id : ℕ) (w u v : World) (found : Answer) (turn : EventFlow) (left : List ℕ) → (turn ≡ GoOn → ⊥) → found ≡ answer_of m w.records (Build id) → u ≡ asked (Build id) w → flow_of turn v ≡ created id found u → HasBuilt m id w turn left v
built_stops m id w u v found turn left out told noted e inner =
    let inside : World → Flow = for_each inner (compounds_from (suc (length w.records)) (inside_of (answer_of m w.records (Build id)))) in
    let is : flow_of turn v ≡ created id (answer_of m w.records (Build id)) (asked (Build id) w) = e ∙ (ap (λ a. created id a u) told ∙ ap (created id (answer_of m w.records (Build id))) noted) in
    stops turn v (for_each inner left) out ∙ (sym (stops turn v inside out) ∙ ap (λ (fl : Flow). fl >>= inside) is)
