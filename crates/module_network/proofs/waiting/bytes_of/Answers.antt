use Rattle.std.proofs.Common.{rules, ◌<◌, length, sym, subst, arith}
use Rattle.module_stock.specs.HeldLaws.{fits_at}
use Rattle.module_stock.proofs.Steps.{saved_more, saved_all}
use Rattle.module_network.proofs.waiting.bytes_of.Goals as goal

pub add_message-requires : goal.add_message-requires
add_message-requires c =
    let fits = fits_at c.args.held.now.items c.loop-i.i c.index.result.now (omega arith) c.requires in
    subst (λ m. length m.payload < 65536) (sym c.index.ensures) fits.payload

pub loop-i-preserved : goal.loop-i-preserved
loop-i-preserved c =
    saved_more c.loop-i.bytes.items c.add_message.new.bytes.items c.args.held.now.items c.loop-i.i c.index.result.now (omega arith) c.index.ensures (search rules) c.loop-i.invariant

pub returns : goal.returns
returns c = saved_all c.loop-i.bytes.items c.args.held.now.items c.loop-i.i (omega arith) c.loop-i.invariant
