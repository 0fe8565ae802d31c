-- Ids of modules that were created.
use Rattle.std.proofs.Common.{◌≡◌, ℕ, ◌+◌, ◌≤◌, List, [], ◌∷◌, Option, Some, None, ap, length, length-append, slice_get, arith, ◌∙◌}
use Rattle.std.proofs.lemmas.List.Elements.{All-cons, All-nil}
use Rattle.std.specs.List.{All}
use Rattle.model_questions.specs.declared.answer.Answer.{Answer}
use Rattle.model_questions.specs.declared.answer.Answer.TheVariants as answer
use Rattle.model_questions.specs.declared.answer.Built.{Built}
use Rattle.run_semantics.specs.declared.outcome.EventFlow.TheVariants.{GoOn}
use Rattle.run_semantics.specs.Perform.{flow_of}
use Rattle.run_semantics.specs.Run.{compounds_from, created, inside_of, room_in, unless_many, with_submodules}
use Rattle.run_semantics.specs.Laws.{GoesOn}
use Rattle.run_semantics.specs.World.{World}
use Rattle.run_semantics.proofs.Setting.{AreUpTo, compounds_within, length_created}

all_up : (n : ℕ) (ids : List ℕ) → AreUpTo n ids → All (λ id. id ≤ n) ids
all_up n [] h = All-nil (λ id. id ≤ n)
all_up n (id ∷ ids) h = All-cons (λ k. k ≤ n) id ids h.0 (all_up n ids h.1)

-- those of modules that are created next are within
pub all_within : (id n : ℕ) (bs : List Built) → id + length bs ≤ n + 1 → All (λ k. k ≤ n) (compounds_from id bs)
all_within id n bs h = all_up n (compounds_from id bs) (compounds_within id n bs h)

-- so many modules are there after a level that goes on
pub built_long : (id : ℕ) (found : Answer) (u v : World) → flow_of GoOn v ≡ created id found u → length v.records ≡ length u.records + length (inside_of found)
built_long id (answer.Inside bs) u v e = by (slice_get bs (room_in u)) e
  where
    by : (o : Option Built) → flow_of GoOn v ≡ unless_many id bs u o → length v.records ≡ length u.records + length bs
    by None h = let same : v ≡ with_submodules id bs u = cc in ap (λ (w : World). length w.records) same ∙ length_created id bs u
    by (Some b) h = cc
built_long id (answer.Fault path f) u v e = cc
built_long id (answer.Root name) u v e = cc
built_long id (answer.Class class) u v e = cc
built_long id (answer.Value value) u v e = cc
built_long id (answer.Gate g) u v e = cc
built_long id (answer.Next next) u v e = cc
built_long id (answer.Beyond beyond) u v e = cc
built_long id (answer.Injection i) u v e = cc
built_long id answer.Absent u v e = cc

-- a list that goes on is no shorter
pub long_on : {X : Type 0} (xs ys : List X) → GoesOn xs ys → length xs ≤ length ys
long_on xs ys h = let more = ap length h.1 in let both = length-append xs h.0 in omega (arith, more, both)
