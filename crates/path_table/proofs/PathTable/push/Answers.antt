use Rattle.std.proofs.Common.{ap, sym, subst, ◌∙◌, ◌++◌, ◌∷◌, [], List, length, false}
use Rattle.std.specs.HashMap.{get}
use Rattle.std.specs.Str.{bytes_eq}
use Rattle.path_table.specs.Groups.{AreGrouped}
use Rattle.path_table.specs.declared.ModuleAt.{ModuleAt}
use Rattle.path_table.proofs.Grouped.{there_is}
use Rattle.path_table.proofs.PathTable.push.Goals as goal

pub drop_number-requires : goal.drop_number-requires
drop_number-requires c =
    let ms = c.self.inside.modules.items in
    let m : ModuleAt = record { path = c.args.path; is_dead = false } in
    let groups = get bytes_eq c.group_of.new.groups in
    there_is (ms ++ m ∷ []) groups c.add_number.new.members.items c.args.path c.in_ok-place.place
    (c.in_ok-add_number.ensures.ok ms m groups c.in_ok-place.ensures.found (c.len-number.ensures ∙ ap length (sym c.self.view_is)) (c.group_of.ensures.kept ms c.self.invariant))
    c.in_ok-place.ensures.found

pub invariant_of-self-in-Err : goal.invariant_of-self-in-Err
invariant_of-self-in-Err c =
    let ms = c.self.inside.modules.items in
    let m : ModuleAt = record { path = c.args.path; is_dead = false } in
    let groups = get bytes_eq c.group_of.new.groups in
    subst (λ (l : List ModuleAt). AreGrouped l groups c.drop_number.new.members.items) (sym c.in-Err.ensures.items)
    (c.drop_number.ensures ms m groups c.in_ok-place.ensures.found
    (c.in_ok-add_number.ensures.ok ms m groups c.in_ok-place.ensures.found (c.len-number.ensures ∙ ap length (sym c.self.view_is)) (c.group_of.ensures.kept ms c.self.invariant)))
