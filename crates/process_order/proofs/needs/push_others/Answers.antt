use Rattle.process_order.proofs.Adding.{others_all, others_none, others_step}
use Rattle.process_order.proofs.needs.push_others.Goals as goal

pub loop-driver-init : goal.loop-driver-init
loop-driver-init c = others_none c.args.process c.args.drivers.now c.args.needs.now.items

pub loop-driver-preserved : goal.loop-driver-preserved
loop-driver-preserved c =
    others_step c.args.process c.args.drivers.now c.args.needs.now.items c.loop-driver.needs.items c.push_other.new.needs.items c.loop-driver.driver-index c.loop-driver-test.true c.loop-driver.invariant c.in_ok-push_other.ensures

pub returns : goal.returns
returns c = others_all c.args.process c.args.drivers.now c.args.needs.now.items c.loop-driver.needs.items c.loop-driver.driver-index c.loop-driver-test.false c.loop-driver.invariant
