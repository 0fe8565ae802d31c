use Rattle.std.proofs.Common.{◌≡◌, ◌+◌, ◌-◌, ◌∷◌, ◌++◌, ◌∙◌, [], Bool, List, ℕ, ap, arith, false, length, true}
use Rattle.model_questions.specs.Records.{path_of}
use Rattle.path_table.specs.declared.ModuleAt.{ModuleAt}
use Rattle.path_table.specs.Paths.{with_dead}
use Rattle.kernel_actions.proofs.Listed.{flag_last}
use Rattle.kernel_actions.proofs.module_list.push_path.Goals as goal

pub returns-then-has-clause-ok : goal.returns-then-has-clause-ok
returns-then-has-clause-ok c =
    let ms = c.args.paths.now in
    let n = length c.args.records.now in
    let at : n - 1 ≡ length ms = omega (arith, c.requires.last) in
    let flagged : c.bury.new.self ≡ with_dead (ms ++ record { path = c.in_ok-path.path; is_dead = false } ∷ []) (n - 1) true = c.bury.ensures ∙ ap (λ (l : List ModuleAt). with_dead l (n - 1) true) c.in_ok-push.ensures.ok in
    flagged
    ∙ (ap (λ k. with_dead (ms ++ record { path = c.in_ok-path.path; is_dead = false } ∷ []) k true) at
    ∙ (flag_last ms c.in_ok-path.path true
    ∙ (ap (λ (path : List ℕ). ms ++ record { path = path; is_dead = true } ∷ []) c.in_ok-path.ensures
    ∙ ap (λ (t : Bool). ms ++ record { path = path_of c.args.records.now n; is_dead = t } ∷ []) c.if-has.ensures)))
