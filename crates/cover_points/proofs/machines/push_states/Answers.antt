use Rattle.std.proofs.Common.{◌+◌, ◌∷◌, [], ℕ, List, append_assoc, zero-add}
use Rattle.std.specs.List.{flat_map, range_with_len}
use Rattle.cover_points.specs.declared.machine_point.MachinePoint.{MachinePoint}
use Rattle.cover_points.specs.declared.machine_point.MachinePoint.TheVariants.{State}
use Rattle.cover_points.proofs.Ranges.{flat_map_range_more}
use Rattle.cover_points.proofs.machines.push_states.Goals as goal

pub loop-state-preserved : goal.loop-state-preserved
loop-state-preserved c =
    let f : ℕ → List MachinePoint = λ (s : ℕ). State c.args.machine s ∷ [] in
    let n = c.loop-state.state in
    let one_more = flat_map_range_more f 0 n in
    let last = zero-add n in
    let joined = append_assoc c.args.found.now.items (flat_map f (range_with_len 0 n)) (f (0 + n)) in
    let added = c.in_ok-push.ensures.items in
    cc
