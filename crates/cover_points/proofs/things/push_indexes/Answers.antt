use Rattle.std.proofs.Common.{◌+◌, append_assoc}
use Rattle.std.specs.List.{flat_map, range_with_len}
use Rattle.cover_points.specs.Things.{two_points}
use Rattle.cover_points.proofs.Ranges.{flat_map_range_more}
use Rattle.cover_points.proofs.things.push_indexes.Goals as goal

pub loop-step-preserved : goal.loop-step-preserved
loop-step-preserved c =
    let thing = c.args.thing in
    let one_more = flat_map_range_more (two_points thing) c.min-least.result c.loop-step.step in
    let joined = append_assoc c.args.found.now.items (flat_map (two_points thing) (range_with_len c.min-least.result c.loop-step.step)) (two_points thing (c.min-least.result + c.loop-step.step)) in
    let added = c.in_ok-push_two.ensures in
    cc
