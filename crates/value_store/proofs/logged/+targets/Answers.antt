use Rattle.std.proofs.Common.{◌≤◌, length, map, ap, arith}
use Rattle.std.proofs.lemmas.List.{drop_all}
use Rattle.design_model.specs.View.{design_view, target_view, targets_of}
use Rattle.value_store.specs.Rooms.{all_take, log_takes}
use Rattle.value_store.proofs.Counted.{ended}
use Rattle.value_store.proofs.logged.+targets.Goals as goal

pub with_targets-returns : goal.with_targets-returns
with_targets-returns t c =
    let l : length c.args.targets.now ≤ c.loop-target.target-index = omega arith in
    ended c.loop-target.total _ _ c.loop-target.invariant.sum (ap (λ ts. all_take (log_takes (design_view c.args.design.now)) (targets_of (map target_view ts))) (drop_all c.loop-target.target-index c.args.targets.now l)) c.loop-target.invariant.small
