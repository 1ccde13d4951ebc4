use Rattle.std.proofs.Common.{◌<◌, arith, sym, append-nil}
use Rattle.elab_const.proofs.ContextLemmas.{copies_fit}
use Rattle.elab_const.proofs.applied.repeated.Goals as goal

pub append-value-requires : goal.append-value-requires
append-value-requires c =
    let less : c.loop.counter < c.args.times = omega arith in
    rw c.loop.invariant (copies_fit c.loop.counter c.args.times c.args.part.now.bits less c.requires.within)

pub loop-init : goal.loop-init
loop-init c = sym (append-nil c.args.part.now.bits)
