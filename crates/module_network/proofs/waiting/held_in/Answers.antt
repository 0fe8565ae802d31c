use Rattle.std.proofs.Common.{rules, ◌≡◌, ◌++◌, ◌∷◌, []}
use Rattle.module_stock.specs.Held.{Fits, message_bytes}
use Rattle.module_stock.specs.HeldLaws.{message_bytes-some, none_left, all_fit_push}
use Rattle.module_stock.proofs.Steps.{loaded_more, loaded_none}
use Rattle.module_network.proofs.waiting.held_in.Goals as goal

pub loop-held-init : goal.loop-held-init
loop-held-init c = record { made = loaded_none c.new-held.result.items c.args.state.now c.new-held.ensures.items; fit = rw c.new-held.ensures.items tt }

pub loop-held-smaller : goal.loop-held-smaller
loop-held-smaller c =
    let front : message_bytes c.in-Some.message ++ c.in-Some.rest.now ≡ c.loop-held.left.now = search rules in
    message_bytes-some c.in-Some.message c.in-Some.rest.now c.loop-held.left.now front

pub loop-held-preserved : goal.loop-held-preserved
loop-held-preserved c =
    let front : message_bytes c.in-Some.message ++ c.in-Some.rest.now ≡ c.loop-held.left.now = search rules in
    let fits : Fits c.in-Some.message = search rules in
    let pushed : c.push_back.new.self.items ≡ c.loop-held.held.items ++ c.in-Some.message ∷ [] = search rules in
    record {
      made = loaded_more c.loop-held.held.items c.push_back.new.self.items c.in-Some.message c.loop-held.left.now c.in-Some.rest.now c.args.state.now pushed front c.loop-held.invariant.made;
      fit = rw pushed (all_fit_push c.loop-held.held.items c.in-Some.message c.loop-held.invariant.fit fits);
    }

pub returns-clause-bytes : goal.returns-clause-bytes
returns-clause-bytes c =
    none_left c.loop-held.held.items c.loop-held.left.now c.args.state.now c.loop-held.invariant.made c.loop-held.invariant.fit (search rules) c.requires
