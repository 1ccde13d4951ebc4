use Rattle.design_model.specs.View.{design_view}
use Rattle.covered_cli.proofs.SignalPaths.{instance_there, path_taken}
use Rattle.covered_cli.proofs.signal_path.SignalPath.of.Goals as goal

pub take-path-requires : goal.take-path-requires
take-path-requires c = instance_there (design_view c.args.design.now) c.args.signal c.take-instance.result c.requires.signal c.take-instance.ensures c.requires.lawful

pub returns : goal.returns
returns c =
    let d = design_view c.args.design.now in
    let there = instance_there d c.args.signal c.take-instance.result c.requires.signal c.take-instance.ensures c.requires.lawful in
    path_taken d c.args.signal c.take-instance.result c.requires.signal c.take-instance.ensures c.take-path.result there c.take-path.ensures
