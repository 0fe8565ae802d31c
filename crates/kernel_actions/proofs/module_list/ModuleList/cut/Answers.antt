use Rattle.std.proofs.Common.{List, ℕ, subst, sym, take}
use Rattle.model_questions.specs.declared.record.Record.{Record}
use Rattle.path_table.specs.declared.ModuleAt.{ModuleAt}
use Rattle.kernel_actions.specs.Modules.{AreLookedUp}
use Rattle.kernel_actions.proofs.Listed.{looked_up_cut}
use Rattle.kernel_actions.proofs.module_list.ModuleList.cut.Goals as goal

pub invariant_of-self : goal.invariant_of-self
invariant_of-self c =
    subst (λ (rs : List Record). AreLookedUp rs c.self.inside.dead c.cut-2.new.self c.cut-3.new.self) (sym c.cut.ensures)
    (subst (λ (ps : List ModuleAt). AreLookedUp (take c.args.left c.self.inside.records) c.self.inside.dead ps c.cut-3.new.self) (sym c.cut-2.ensures)
    (subst (λ (qs : List ℕ). AreLookedUp (take c.args.left c.self.inside.records) c.self.inside.dead (take c.args.left c.self.inside.paths) qs) (sym c.cut-3.ensures)
    (looked_up_cut c.self.inside.records c.self.inside.dead c.self.inside.paths c.self.inside.children c.args.left c.self.invariant)))
