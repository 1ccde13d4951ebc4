use Rattle.process_order.proofs.Past.{past_all, past_more, past_none}
use Rattle.process_order.proofs.names.past_list.Goals as goal

pub loop-number-init : goal.loop-number-init
loop-number-init c = past_none c.args.list.now c.args.least

pub loop-number-preserved : goal.loop-number-preserved
loop-number-preserved c = past_more c.args.list.now c.loop-number.number-index c.args.least c.loop-number.past c.max-past.result c.loop-number-test.true c.loop-number.invariant c.max-past.ensures

pub returns : goal.returns
returns c =
    let all = past_all c.args.list.now c.loop-number.number-index c.args.least c.loop-number.past c.loop-number-test.false c.loop-number.invariant in
    record { least = all.least_is; past = all.below }
