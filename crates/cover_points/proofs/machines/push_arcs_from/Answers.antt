use Rattle.std.proofs.Common.{◌+◌, append_assoc, zero-add}
use Rattle.std.specs.List.{flat_map, range_with_len}
use Rattle.cover_points.specs.MachinePoints.{arc_to}
use Rattle.cover_points.proofs.Ranges.{flat_map_range_more}
use Rattle.cover_points.proofs.machines.push_arcs_from.Goals as goal

pub loop-to-preserved : goal.loop-to-preserved
loop-to-preserved c =
    let f = arc_to c.args.machine c.args.from in
    let n = c.loop-to.to in
    let one_more = flat_map_range_more f 0 n in
    let last = zero-add n in
    let joined = append_assoc c.args.found.now.items (flat_map f (range_with_len 0 n)) (f (0 + n)) in
    let added = c.in_ok-push_arc.ensures in
    cc
