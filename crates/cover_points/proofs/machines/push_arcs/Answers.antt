use Rattle.std.proofs.Common.{◌+◌, append_assoc, zero-add}
use Rattle.std.specs.List.{flat_map, range_with_len}
use Rattle.cover_points.specs.MachinePoints.{arcs_from}
use Rattle.cover_points.proofs.Ranges.{flat_map_range_more}
use Rattle.cover_points.proofs.machines.push_arcs.Goals as goal

pub loop-from-preserved : goal.loop-from-preserved
loop-from-preserved c =
    let f = arcs_from c.args.machine c.args.count in
    let n = c.loop-from.from in
    let one_more = flat_map_range_more f 0 n in
    let last = zero-add n in
    let joined = append_assoc c.args.found.now.items (flat_map f (range_with_len 0 n)) (f (0 + n)) in
    let added = c.in_ok-push_arcs_from.ensures in
    cc
