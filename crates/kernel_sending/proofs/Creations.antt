-- A module that is created, by what was answered of it.
use Rattle.std.proofs.Common.{◌≡◌, ℕ, suc, ◌+◌, ◌^◌, ◌≤◌, ◌<◌, Bool, true, false, if◌then◌else◌, List, [], ◌∷◌, ◌++◌, Option, None, refl, sym, ap, ◌∙◌, arith, subst, length, length-append, take}
use Rattle.std.proofs.Math.Seq.{take-append_seam}
use Rattle.module_api.specs.declared.reply.Creation.{Creation}
use Rattle.model_questions.specs.declared.answer.Answer.{Answer}
use Rattle.model_questions.specs.declared.answer.Question.{Question}
use Rattle.model_questions.specs.declared.answer.Question.TheVariants.{TypeOf}
use Rattle.model_questions.specs.declared.record.Record.{Record}
use Rattle.model_questions.specs.Answers.{Answers, answer_of}
use Rattle.run_semantics.specs.declared.outcome.EventFlow.{EventFlow}
use Rattle.run_semantics.specs.declared.outcome.EventFlow.TheVariants.{GoOn}
use Rattle.run_semantics.specs.Building.{room_in, set_up}
use Rattle.run_semantics.specs.Creating.{awaiting, built_as, built_by, class_answer, class_in, creating, is_full, record_for, with_created}
use Rattle.run_semantics.specs.Perform.{Flow, On, ◌>>=◌, flow_of}
use Rattle.run_semantics.specs.Laws.{GoesOn}
use Rattle.run_semantics.specs.World.{World, asked, is_asked}
use Rattle.run_semantics.proofs.Flows.{in_flow}
use Rattle.run_semantics.proofs.Lasting.{not_full}
use Rattle.run_semantics.proofs.Orderly.{on_same}
use Rattle.run_semantics.proofs.Sound.{set_up_keeps}
use Rattle.kernel_actions.specs.Positions.{IsGrownFrom}
use Rattle.kernel_sending.proofs.Loops.{stops}

-- ---- its record

-- where there is room there are fewer records than ids
pub few_created : (w : World) → is_full (room_in w) ≡ false → length w.records + 1 < 2 ^ 32
few_created w e = let some = not_full (room_in w) e in omega (arith, some)

pub created_grows : (parent : ℕ) (c : Creation) (class : Option (List ℕ)) (w v : World) → v ≡ with_created parent c class w → IsGrownFrom w v
created_grows parent c class w v e = subst (IsGrownFrom w) (sym e) (record {
  records = (record_for parent c class ∷ [], refl);
  dead = on_same w.dead;
  started = on_same w.started;
  finished = on_same w.finished;
  changes = on_same w.changes;
  emissions = on_same w.emissions;
  scalars = on_same w.scalars;
  questions = on_same w.questions;
})

-- what is asked is noted, unless it was asked before
pub asked_grows : (q : Question) (w v : World) → v ≡ asked q w → IsGrownFrom w v
asked_grows q w v e = subst (IsGrownFrom w) (sym e) (record {
  records = on_same w.records;
  dead = on_same w.dead;
  started = on_same w.started;
  finished = on_same w.finished;
  changes = on_same w.changes;
  emissions = on_same w.emissions;
  scalars = on_same w.scalars;
  questions = by (is_asked q w.questions);
})
  where
    by : (before : Bool) → GoesOn w.questions (if before then w.questions else w.questions ++ record { event = w.count; question = q } ∷ [])
    by true = on_same w.questions
    by false = (record { event = w.count; question = q } ∷ [], refl)

-- its class is asked where it stands without one
pub class_told : (m : Answers) (parent : ℕ) (c : Creation) (w v : World) (id : ℕ) (a : Answer) → v ≡ with_created parent c None w → id ≡ suc (length w.records) → a ≡ answer_of m v.records (TypeOf id) → a ≡ class_answer m parent c w
class_told m parent c w v id a made is e =
    e
    ∙ (ap (λ (u : World). answer_of m u.records (TypeOf id)) made
    ∙ ap (λ n. answer_of m (with_created parent c None w).records (TypeOf n)) is)

-- and it is taken away again
pub created_cut : (parent : ℕ) (c : Creation) (class : Option (List ℕ)) (w v u : World) (left : ℕ) → v ≡ with_created parent c class w → left ≡ length w.records → u ≡ record v { records = take left v.records } → u ≡ w
created_cut parent c class w v u left made is cut =
    let r : Record = record_for parent c class in
    cut
    ∙ (ap (λ (x : World). record x { records = take left x.records }) made
    ∙ (ap (λ n. record w { records = take n (w.records ++ r ∷ []) }) is ∙ ap (λ (rs : List Record). record w { records = rs }) (take-append_seam w.records (r ∷ []))))

-- it is there with its class
pub created_told : (parent : ℕ) (c : Creation) (class : Option (List ℕ)) (a : Answer) (w u v x : World) (first : ℕ) → u ≡ w → v ≡ with_created parent c class u → class ≡ class_in a → x ≡ asked (TypeOf first) v → first ≡ suc (length w.records)
    → x ≡ asked (TypeOf (suc (length w.records))) (with_created parent c (class_in a) w)
created_told parent c class a w u v x first same made told noted is =
    noted
    ∙ (ap (asked (TypeOf first)) (made ∙ (ap (with_created parent c class) same ∙ ap (λ k. with_created parent c k w) told))
    ∙ ap (λ n. asked (TypeOf n) (with_created parent c (class_in a) w)) is)

-- ---- its inside

-- a setup inserts nothing
pub set_up_room : (m : Answers) (levels first : ℕ) (w v : World) → first ≤ length w.records → On v ≡ set_up levels m first w → w.next + 1 < 2 ^ 128 → v.next + 1 < 2 ^ 128
set_up_room m levels first w v there e room =
    let kept = (set_up_keeps m levels first w there).next in
    let same : v.next ≡ (in_flow (set_up levels m first w)).next = ap (λ fl. (in_flow fl).next) e in
    omega (arith, kept, same, room)

pub inside_on : (m : Answers) (levels first : ℕ) (w v : World) (fl : Flow) → On v ≡ set_up levels m first w → fl ≡ awaiting first v → fl ≡ built_by m levels first None w
inside_on m levels first w v fl e waits = waits ∙ ap (λ (f : Flow). f >>= awaiting first) e

pub inside_stops : (m : Answers) (levels first : ℕ) (w v : World) (turn : EventFlow) → (turn ≡ GoOn → ⊥) → flow_of turn v ≡ set_up levels m first w → flow_of turn v ≡ built_by m levels first None w
inside_stops m levels first w v turn out e = sym (stops turn v (awaiting first) out) ∙ ap (λ (f : Flow). f >>= awaiting first) e

-- ---- all of it

-- what is asked of a module that is created inserts nothing, and it is there
pub created_room : (parent : ℕ) (c : Creation) (class : Option (List ℕ)) (id : ℕ) (w v : World) → v ≡ asked (TypeOf id) (with_created parent c class w) → w.next + 1 < 2 ^ 128 → v.next + 1 < 2 ^ 128
created_room parent c class id w v e room = let same : v.next ≡ w.next = ap (λ (u : World). u.next) e in omega (arith, same, room)

pub created_there : (parent : ℕ) (c : Creation) (class : Option (List ℕ)) (id first : ℕ) (w v : World) → v ≡ asked (TypeOf id) (with_created parent c class w) → first ≡ suc (length w.records) → first ≤ length v.records
created_there parent c class id first w v e is =
    let same : length v.records ≡ length (w.records ++ record_for parent c class ∷ []) = ap (λ (u : World). length u.records) e in
    let more = length-append w.records (record_for parent c class ∷ []) in
    omega (arith, same, more, is)

pub created_on : (m : Answers) (levels parent : ℕ) (c : Creation) (a : Answer) (first : ℕ) (w v : World) (fl : Flow) → a ≡ class_answer m parent c w → v ≡ asked (TypeOf (suc (length w.records))) (with_created parent c (class_in a) w) → first ≡ suc (length w.records)
    → fl ≡ built_as m levels first a v → fl ≡ creating m parent c (built_as m levels (suc (length w.records))) w
created_on m levels parent c a first w v fl told made is e =
    let id : ℕ = suc (length w.records) in
    e
    ∙ (ap (λ n. built_as m levels n a v) is
    ∙ (ap (built_as m levels id a) made
    ∙ ap (λ (x : Answer). built_as m levels id x (asked (TypeOf id) (with_created parent c (class_in x) w))) told))
