use Rattle.std.proofs.Common.{ap, ◌∙◌, length}
use Rattle.ned_inheritance.specs.Order.{first_left, member_left, steps_left}
use Rattle.ned_inheritance.proofs.RoundLaws.{circle_here}
use Rattle.ned_inheritance.proofs.rounds.circle_place.Goals as goal

pub returns : goal.returns
returns c =
    let types = c.args.types.now in
    let order = c.args.order.now in
    let number = c.last_left-number.result in
    circle_here types order c.requires.left (record { number = number; member = c.member_left-member.result })
    (c.last_left-number.ensures ∙ ap (λ ts. steps_left ts order types (length types) (first_left order types)) c.requires.names)
    (c.member_left-member.ensures ∙ ap (λ ts. member_left ts order types number) c.requires.names)
