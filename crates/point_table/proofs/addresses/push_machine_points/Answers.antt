use Rattle.std.proofs.Common.{arith}
use Rattle.cover_points.proofs.Members.{in_at}
use Rattle.point_table.proofs.addresses.push_machine_points.Goals as goal

pub machine_point-requires : goal.machine_point-requires
machine_point-requires c = c.requires _ (in_at c.args.points.now c.loop-point.point-index _ (omega arith))
