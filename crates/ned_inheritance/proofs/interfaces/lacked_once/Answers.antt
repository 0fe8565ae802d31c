use Rattle.std.proofs.Common.{sym, ap, ◌∙◌}
use Rattle.ned_inheritance.specs.Places.{lacked_of_any}
use Rattle.ned_inheritance.specs.Seen.{names_in}
use Rattle.ned_inheritance.proofs.NamedLaws.{told_there}
use Rattle.ned_inheritance.proofs.RepeatedLaws.{more_kept}
use Rattle.ned_inheritance.proofs.interfaces.lacked_once.Goals as goal

pub returns-then-not-branch-clause-member : goal.returns-then-not-branch-clause-member
returns-then-not-branch-clause-member c = sym (c.requires c.args.name.now (told_there c.in_ok-see.field-0 _ c.in_ok-see.ensures.new c.if-not-branch.true) c.args.number)

pub returns-then-not-branch-clause-kept : goal.returns-then-not-branch-clause-kept
returns-then-not-branch-clause-kept c = λ none.
    more_kept c.args.named.now c.args.declared.now (names_in c.args.seen.now.keys) (names_in c.see.new.seen.keys) c.args.name.now c.args.number c.requires c.in_ok-see.ensures.names
    (c.requires c.args.name.now (told_there c.in_ok-see.field-0 _ c.in_ok-see.ensures.new c.if-not-branch.true) c.args.number)

pub returns-clause-kept : goal.returns-clause-kept
returns-clause-kept c = λ none.
    more_kept c.args.named.now c.args.declared.now (names_in c.args.seen.now.keys) (names_in c.see.new.seen.keys) c.args.name.now c.args.number c.requires c.in_ok-see.ensures.names
    (ap (lacked_of_any c.args.declared.now c.args.number) (sym c.find.ensures) ∙ sym c.lacked_of_any.ensures ∙ none)
