use Rattle.std.proofs.Common.{◌≡◌, ◌<◌, ◌∙◌, None, Some, ap, arith, length, sym}
use Rattle.path_table.specs.Paths.{first_living, lives_at as living_at}
use Rattle.run_semantics.specs.Routes.{first_from}
use Rattle.kernel_actions.specs.Modules.{Modules, lives_at, module_as, with_paths}
use Rattle.kernel_actions.proofs.Found.{found_none, found_some, place_within}
use Rattle.kernel_actions.proofs.Listed.{length_paths}
use Rattle.kernel_actions.proofs.module_list.ModuleList.first_at.Goals as goal

pub overflow_cast-result : goal.overflow_cast-result
overflow_cast-result c =
    let within : c.in-Some.number < length c.self.inside.paths = place_within (living_at c.args.path.now) c.self.inside.paths c.in-Some.number (sym c.first.ensures ∙ c.in-Some.is) in
    let many : length c.self.inside.paths ≡ length c.self.inside.records = ap length c.self.invariant.paths_are ∙ length_paths c.self.inside.records c.self.inside.dead in
    let few = c.self.invariant.few in
    omega (arith, within, many, few)

pub overflow_add-result : goal.overflow_add-result
overflow_add-result c =
    let within : c.in-Some.number < length c.self.inside.paths = place_within (living_at c.args.path.now) c.self.inside.paths c.in-Some.number (sym c.first.ensures ∙ c.in-Some.is) in
    let many : length c.self.inside.paths ≡ length c.self.inside.records = ap length c.self.invariant.paths_are ∙ length_paths c.self.inside.records c.self.inside.dead in
    let few = c.self.invariant.few in
    omega (arith, within, many, few)

pub returns-in-Some : goal.returns-in-Some
returns-in-Some c =
    let there : Some c.in-Some.number ≡ first_living c.args.path.now (with_paths c.self.inside.records c.self.inside.dead) = sym c.in-Some.is ∙ (c.first.ensures ∙ ap (first_living c.args.path.now) c.self.invariant.paths_are) in
    found_some (living_at c.args.path.now) (module_as c.self.inside.records c.self.inside.dead) c.self.inside.records c.in-Some.number there
    ∙ ap (λ (m : Modules). first_from (lives_at c.args.path.now m) 1 m.records) c.self.view_is

pub returns-in-None : goal.returns-in-None
returns-in-None c =
    let there : None ≡ first_living c.args.path.now (with_paths c.self.inside.records c.self.inside.dead) = sym c.in-None.is ∙ (c.first.ensures ∙ ap (first_living c.args.path.now) c.self.invariant.paths_are) in
    found_none (living_at c.args.path.now) (module_as c.self.inside.records c.self.inside.dead) c.self.inside.records there
    ∙ ap (λ (m : Modules). first_from (lives_at c.args.path.now m) 1 m.records) c.self.view_is
