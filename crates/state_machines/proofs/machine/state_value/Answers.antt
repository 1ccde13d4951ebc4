use Rattle.std.proofs.Common.{◌<◌, length, ap, arith}
use Rattle.design_model.specs.View.{design_view}
use Rattle.state_machines.proofs.Found.{found_value, no_parameter}
use Rattle.state_machines.proofs.machine.state_value.Goals as goal

pub returns-in-Some-clause-some : goal.returns-in-Some-clause-some
returns-in-Some-clause-some c =
    let l : c.args.signal < length c.as_slice.result.now = omega (arith, c.requires.listed, ap length c.as_slice.ensures) in
    found_value (design_view c.args.design.now) c.as_slice-constants.result.now c.as_slice-constants.ensures c.as_slice.result.now c.as_slice.ensures c.args.instance c.args.signal c.args.name.now c.in-Some.place c.index-constants-place.result c.index-as_slice-signal.result c.extend.result c.in-Some.ensures.some l c.index-as_slice-signal.is c.extend.ensures

pub returns-in-None-clause-none : goal.returns-in-None-clause-none
returns-in-None-clause-none c = no_parameter (design_view c.args.design.now) c.as_slice-constants.result.now c.as_slice-constants.ensures c.args.instance c.args.name.now c.in-None.ensures.none
