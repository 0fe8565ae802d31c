use Rattle.std.proofs.Common.{List, ◌+◌, ap, sym, ◌∙◌, length, option_map, take, unwrap_or}
use Rattle.run_semantics.specs.Run.{Part, needs_of, standing, wanted}
use Rattle.kernel_boxes.specs.Saved.{instances_held, seats_held}
use Rattle.kernel.specs.Kernels.{world_in}
use Rattle.kernel.specs.Seats.{request_for}
use Rattle.kernel.specs.Starts.{next_in, starts_next, wanted_of}
use Rattle.kernel.proofs.Behind.{behind_last, needed_rise}
use Rattle.kernel.proofs.Picked.{picked_next}
use Rattle.kernel.proofs.Waiting.{fresh_standing}
use Rattle.kernel.proofs.Wanted.{needed_next, none_wanted, picked_next_event}
use Rattle.kernel.proofs.kernel.Kernel.missing_next.Goals as goal

pub returns-then-not-is_start_first : goal.returns-then-not-is_start_first
returns-then-not-is_start_first g c =
    let w = world_in (λ b. (g.dyn-1.0.entry b.vtable).1) c.args.self.now in
    let held : List Part = standing (instances_held (λ b. (g.dyn-1.0.entry b.vtable).1) c.args.waiting.now) in
    sym (ap (λ (ps : List Part). wanted_of w ps held) (none_wanted g.A.Answers.answers w (sym c.is_start_first.ensures ∙ c.if-not-is_start_first.true)))

pub returns : goal.returns
returns g c =
    let m = g.A.Answers.answers in
    let w = world_in (λ b. (g.dyn-1.0.entry b.vtable).1) c.args.self.now in
    let ss = seats_held (λ b. (g.dyn-1.0.entry b.vtable).1) c.args.waiting.now in
    let ps : List Part = needs_of (starts_next m w) w in
    let needs = needed_next m w in
    let first = fresh_standing g.C.Catalogue.behaviour (take (length ss) (wanted m w)) ss c.requires.first ∙ ap (take (length ss)) (sym needs) in
    c.in_ok-request.ensures
    ∙ ap (λ ids. option_map (request_for w) (next_in w.records c.unwrap_or-last.result ids)) (c.as_slice.ensures ∙ c.in_ok-ids.ensures)
    ∙ ap (option_map (request_for w)) (picked_next w (starts_next m w) c.unwrap_or-last.result (picked_next_event m w))
    ∙ ap (option_map (request_for w)) (behind_last (λ v. (g.dyn-1.0.entry v.vtable).1.meaning v.value) (1 + length w.records) c.args.waiting.now.room c.unwrap_or-last.result ps c.args.waiting.now.seats (needed_rise (starts_next m w) w) c.last.ensures.rising first
    (c.unwrap_or-last.ensures ∙ ap (λ o. unwrap_or o 0) c.last.ensures.last))
    ∙ ap (λ (qs : List Part). wanted_of w qs (standing (instances_held (λ b. (g.dyn-1.0.entry b.vtable).1) c.args.waiting.now))) needs
