use Rattle.std.proofs.Common.{refl}
use Rattle.command_line.specs.PointAddresses.{addresses_of}
use Rattle.database_commands.proofs.Excluding.{HasChanged-all, HasChanged-more, HasChanged-start, stops_at}
use Rattle.database_commands.proofs.points.change_all.Goals as goal

pub loop-address-init : goal.loop-address-init
loop-address-init c = HasChanged-start c.args.change (addresses_of c.args.addresses) c.args.excluded.now

pub loop-address-preserved : goal.loop-address-preserved
loop-address-preserved c =
    HasChanged-more c.args.change (addresses_of c.args.addresses) (addresses_of c.loop-address.addresses) _ c.in-Some.address.now c.args.excluded.now c.loop-address.excluded _ c.loop-address.invariant c.in-Some.ensures.address c.in_default-change_point.ensures.changed

pub returns-in-Err-clause-fault : goal.returns-in-Err-clause-fault
returns-in-Err-clause-fault c =
    (refl, stops_at c.args.change (addresses_of c.args.addresses) (addresses_of c.loop-address.addresses) _ c.in-Some.address.now c.args.excluded.now c.loop-address.excluded c.in-Err.fault c.loop-address.invariant c.in-Some.ensures.address c.in-Err.ensures.refused)

pub returns-clause-changed : goal.returns-clause-changed
returns-clause-changed c = HasChanged-all c.args.change (addresses_of c.args.addresses) (addresses_of c.loop-address.addresses) c.args.excluded.now c.loop-address.excluded c.loop-address.invariant c.in_default.ensures.end.0
