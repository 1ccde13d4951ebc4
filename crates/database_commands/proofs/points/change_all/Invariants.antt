use Rattle.std.proofs.Common.{length}
use Rattle.command_line.specs.PointAddresses.{addresses_of}
use Rattle.database_commands.proofs.Excluding.{HasChanged}
use Rattle.database_commands.proofs.points.change_all.Given as goal

-- the points that are not left were changed
abbrev pub invariant-loop-address : goal.invariant-loop-address
invariant-loop-address l = HasChanged l.change (addresses_of l.fn.addresses) (addresses_of l.addresses) l.fn.excluded l.excluded

abbrev pub decreases-loop-address : goal.decreases-loop-address
decreases-loop-address l = length (addresses_of l.addresses)
