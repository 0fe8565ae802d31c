use Rattle.std.proofs.Common.{ap, sym, subst, ◌∙◌, List}
use Rattle.std.specs.Option.{option_copied}
use Rattle.std.specs.Prelude.{slice_get}
use Rattle.path_table.specs.Groups.{IsGroupOf}
use Rattle.path_table.specs.Paths.{first_living}
use Rattle.path_table.specs.declared.ModuleAt.{ModuleAt}
use Rattle.path_table.specs.declared.groups.Group.{Group}
use Rattle.path_table.proofs.Numbers.{none_there}
use Rattle.path_table.proofs.PathTable.first.Goals as goal

pub returns-in-Some : goal.returns-in-Some
returns-in-Some c =
    let path = c.args.path.now in
    let place = c.in-Some.place.now in
    let g = c.self.invariant.present path place (sym c.get.ensures.value ∙ ap option_copied c.in-Some.is) in
    c.find_first.ensures path g.0 (ap (λ (l : List Group). slice_get l place) c.as_slice-in-Some.ensures.value ∙ g.1.0)
    (subst (λ (l : List ModuleAt). IsGroupOf path l g.0) (sym c.as_slice.ensures.value) g.1.1)
    ∙ ap (first_living path) (c.as_slice.ensures.value ∙ c.self.view_is)

pub returns-in-None : goal.returns-in-None
returns-in-None c = none_there c.self.inside.modules.items c.args.path.now (c.self.invariant.absent c.args.path.now (sym c.get.ensures.value ∙ ap option_copied c.in-None.is))
    ∙ ap (first_living c.args.path.now) c.self.view_is
