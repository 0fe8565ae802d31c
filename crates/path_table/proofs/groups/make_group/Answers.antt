use Rattle.std.proofs.Common.{sym, ap, subst, ◌∙◌, List, Some, cond, bytes_eq}
use Rattle.std.specs.HashMap.{get}
use Rattle.path_table.specs.Groups.{AreGrouped}
use Rattle.path_table.specs.declared.groups.Group.{Group}
use Rattle.path_table.proofs.Grouped.{with_group}
use Rattle.path_table.proofs.groups.make_group.Goals as goal

pub returns-clause-kept : goal.returns-clause-kept
returns-clause-kept c = λ modules a.
    let was = get bytes_eq c.args.groups.now in
    let gs = c.args.members.now.items in
    let copy = c.in_ok-copy.copy in
    subst (λ (l : List Group). AreGrouped modules (get bytes_eq c.insert.new.self) l) (sym {A = List Group} c.in_ok-push.ensures.items)
    (with_group modules was gs (record { numbers = c.new.result; front = 0 }) a (get bytes_eq c.insert.new.self) copy (ap was c.in_ok-copy.ensures ∙ c.requires)
    (ap (λ l. record { numbers = l; front = 0 }) c.new.ensures)
    (λ p. c.in_ok-insert.ensures.updates.0 p ∙ ap (λ k. cond (bytes_eq copy p) (Some k) (was p)) (c.count-place.ensures)))
