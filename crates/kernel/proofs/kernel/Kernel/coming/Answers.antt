use Rattle.std.proofs.Common.{◌∙◌, map, sym}
use Rattle.kernel_boxes.specs.Seats.{instance_of}
use Rattle.kernel.specs.Kernels.{boxes_in, world_in}
use Rattle.kernel.proofs.Wanted.{coming_ended, coming_first, coming_other, first_boxed}
use Rattle.kernel.proofs.kernel.Kernel.coming.Goals as goal

pub returns-then-is_ended : goal.returns-then-is_ended
returns-then-is_ended g c = c.new.ensures ∙ sym (coming_ended g.A.Answers.answers (world_in (λ b. (g.dyn-1.0.entry b.vtable).1) c.args.self.now) (sym c.is_ended.ensures ∙ c.if-is_ended.true))

pub returns-in-First : goal.returns-in-First
returns-in-First g c =
    c.in_ok-ids-in-First.ensures
    ∙ first_boxed g.A.Answers.answers c.args.limit c.args.self.now.core (map instance_of (boxes_in (λ b. (g.dyn-1.0.entry b.vtable).1) c.args.self.now)) c.args.self.now.core.pending
    ∙ sym (coming_first g.A.Answers.answers c.args.limit (world_in (λ b. (g.dyn-1.0.entry b.vtable).1) c.args.self.now) c.in_ok-_look._look c.requires.limit (sym c.is_ended.ensures ∙ c.if-is_ended.false) (rw c.in-First.is at c.in_ok-_look.ensures.comes))

pub returns : goal.returns
returns g c = c.new-in_default.ensures ∙ sym (coming_other g.A.Answers.answers (world_in (λ b. (g.dyn-1.0.entry b.vtable).1) c.args.self.now) c.in_ok-_look._look c.in_ok-_look.next c.in_default.not-First c.in_ok-_look.ensures.arrives c.in_ok-_look.ensures.comes)
