use Rattle.std.proofs.Common.{arith}
use Rattle.cover_points.proofs.Members.{in_at}
use Rattle.point_table.proofs.addresses.push_toggles.Goals as goal

pub toggle_point-requires : goal.toggle_point-requires
toggle_point-requires c = c.requires _ (in_at c.args.points.now c.loop-point.point-index _ (omega arith))
