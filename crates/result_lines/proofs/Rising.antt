-- Vectors by rising id, and ids of modules.
use Rattle.std.proofs.Common.{◌≡◌, ℕ, suc, ◌<◌, ◌≤◌, ◌==◌, Bool, true, false, List, Option, Some, IsTrue, get_or, length, sym, ap, subst, arith, if◌then◌else◌}
use Rattle.std.proofs.lemmas.List.{get_or_default}
use Rattle.std.proofs.lemmas.Bool.Decides.{nat_tests}
use Rattle.std.specs.List.{IsAllAdjacentAnswer}
use Rattle.std.specs.Ordering.{nat_cmp, is_le, is_some_and}
use Rattle.std.proofs.lemmas.List.Sorted.{IsNonDecreasingBy-from_all_adjacent}
use Rattle.model_questions.specs.Records.{record_at}
use Rattle.recorders.specs.Hearing.{is_within_up, within_parent}
use Rattle.result_lines.specs.Rising.{AreByModule, IsLeastFrom}
use Rattle.model_questions.specs.declared.record.Record.{Record}
use Rattle.recorders.specs.declared.vector_line.VectorLine.{VectorLine}

le_cmp : (m n : ℕ) → true ≡ is_some_and is_le (Some (nat_cmp m n)) → m ≤ n
le_cmp m n h = grind (arith, nat_tests)

pub by_module_answer : (vs : List VectorLine) (r : Bool) → IsAllAdjacentAnswer (λ (v w : VectorLine) b. b ≡ is_some_and is_le (Some (nat_cmp v.id w.id))) vs r → IsTrue r → AreByModule vs
by_module_answer vs true h t = IsNonDecreasingBy-from_all_adjacent (λ (v : VectorLine). v.id) vs (λ k d l. le_cmp _ _ (h k d l))
by_module_answer vs false h t = cc

-- the module around, where there is one, is looked at with one step less
pub least_above : (records : List Record) (depth further from emitter : ℕ) (o : Option Record) (above result : Option ℕ) → depth ≡ suc further → o ≡ record_at records emitter
    → IsLeastFrom from (λ id. within_parent (is_within_up further records id) o) above
    → ((p : ℕ → Bool) → IsLeastFrom from p above → IsLeastFrom from (λ n. if emitter == n then true else p n) result)
    → IsLeastFrom from (λ id. is_within_up depth records id emitter) result
least_above records depth further from emitter o above result e at h k =
    subst (λ d. IsLeastFrom from (λ id. is_within_up d records id emitter) result) (sym e)
    (subst (λ a. IsLeastFrom from (λ id. if emitter == id then true else within_parent (is_within_up further records id) a) result) at
    (k (λ id. within_parent (is_within_up further records id) o) h))

-- the vectors after one are of modules with ids no lower than its own
pub no_lower : (vs : List VectorLine) (number k : ℕ) (e d : VectorLine) → AreByModule vs → number ≤ k → k < length vs → (get_or vs number e).id ≤ (get_or vs k d).id
no_lower vs number k e d up from l =
    let same : get_or vs number d ≡ get_or vs number e = get_or_default vs number d e (omega arith) in
    omega (arith, up number k d from l, ap (λ (v : VectorLine). v.id) same)
