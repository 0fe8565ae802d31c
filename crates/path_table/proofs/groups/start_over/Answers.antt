use Rattle.std.proofs.Common.{ap, sym, subst, ◌∙◌, ◌≡◌, List, Some, false}
use Rattle.std.specs.HashMap.{get}
use Rattle.std.specs.Prelude.{slice_get}
use Rattle.std.specs.Str.{bytes_eq}
use Rattle.path_table.specs.Groups.{AreGrouped}
use Rattle.path_table.specs.Paths.{with_dead}
use Rattle.path_table.specs.declared.groups.Group.{Group}
use Rattle.path_table.proofs.Grouped.{revived, revived_alone, some_module, there_is}
use Rattle.path_table.proofs.groups.start_over.Goals as goal

pub set_front-requires : goal.set_front-requires
set_front-requires c =
    let m = some_module c.args.modules.now c.args.number c.requires.there in
    there_is c.args.modules.now (get bytes_eq c.args.groups.now) c.args.members.now.items m.0.path c.in-Some.place c.requires.grouped (sym (c.group_at.ensures m.0 m.1) ∙ c.in-Some.is)

pub returns-in-Some : goal.returns-in-Some
returns-in-Some c =
    let ms = c.args.modules.now in
    let groups = get bytes_eq c.args.groups.now in
    let m = some_module ms c.args.number c.requires.there in
    let own : groups m.0.path ≡ Some c.in-Some.place = sym (c.group_at.ensures m.0 m.1) ∙ c.in-Some.is in
    let gs = c.args.members.now.items in
    let g = c.requires.grouped.present m.0.path c.in-Some.place own in
    subst (λ (l : List Group). AreGrouped (with_dead ms c.args.number false) groups l) (sym (c.set_front.ensures g.0 g.1.0))
    (revived ms c.args.number m.0 groups gs m.1 c.requires.grouped c.in-Some.place g.0 c.reopened-front.result own g.1.0
    (c.reopened-front.ensures g.0 (ap (λ (l : List Group). slice_get l c.in-Some.place) c.as_slice.ensures.value ∙ g.1.0)))

pub returns-in-None : goal.returns-in-None
returns-in-None c =
    let m = some_module c.args.modules.now c.args.number c.requires.there in
    revived_alone c.args.modules.now c.args.number m.0 (get bytes_eq c.args.groups.now) c.args.members.now.items m.1 c.requires.grouped
    (sym (c.group_at.ensures m.0 m.1) ∙ c.in-None.is)
