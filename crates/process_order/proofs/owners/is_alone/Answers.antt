use Rattle.std.proofs.Common.{◌∙◌, length, sym, arith}
use Rattle.std.proofs.lemmas.Bool.{eqb-false, not-true}
use Rattle.process_order.proofs.Alone.{all_alone, alone_more, alone_none, other_from}
use Rattle.process_order.proofs.owners.is_alone.Goals as goal

pub loop-owner-init : goal.loop-owner-init
loop-owner-init c = alone_none c.args.process c.args.owners.now

pub loop-owner-preserved : goal.loop-owner-preserved
loop-owner-preserved c = alone_more c.args.process c.loop-owner.owner-index c.args.owners.now c.loop-owner-test.true (omega arith) c.loop-owner.invariant

pub returns-clause-alone : goal.returns-clause-alone
returns-clause-alone c = λ t.
    let some = eqb-false (length c.args.owners.now) 0 (sym c.is_empty.ensures ∙ not-true c.is_empty.result t) in
    all_alone c.args.process c.loop-owner.owner-index c.args.owners.now c.loop-owner-test.false c.loop-owner.invariant (omega (arith, some))
