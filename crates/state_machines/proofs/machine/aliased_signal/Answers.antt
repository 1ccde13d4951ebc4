use Rattle.design_model.specs.View.{design_view}
use Rattle.state_machines.proofs.Found.{alias_named}
use Rattle.state_machines.proofs.machine.aliased_signal.Goals as goal

pub returns-in-Some-clause-some : goal.returns-in-Some-clause-some
returns-in-Some-clause-some c = alias_named (design_view c.args.design.now) c.requires c.as_slice-aliases.result.now c.as_slice-aliases.ensures c.args.instance c.args.name.now c.in-Some.place c.index-aliases-place.result c.in-Some.ensures.some
