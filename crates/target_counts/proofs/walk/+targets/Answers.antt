use Rattle.std.proofs.Common.{◌∷◌, drop, map, sym, ap, subst, ◌+◌, ◌∙◌}
use Rattle.std.proofs.lemmas.List.{drop_all, drop_more}
use Rattle.design_model.specs.Once.{all_parts_on, parts_on}
use Rattle.design_model.specs.View.{target_view, targets_of}
use Rattle.target_counts.specs.Counts.{Counts}
use Rattle.target_counts.proofs.Counting.{counted_then, none_counted}
use Rattle.target_counts.proofs.walk.+targets.Goals as goal

pub count_targets-loop-target-preserved : goal.count_targets-loop-target-preserved
count_targets-loop-target-preserved t c = λ end h.
    let ts = c.args.targets.now in
    let i = c.loop-target.target-index in
    let y = c.target-item.result in
    let next = drop_more ts i y c.loop-target-test.true ∙ ap (λ z. z ∷ drop (i + 1) ts) (sym c.target-item.is) in
    c.loop-target.invariant end
    (subst (λ us. Counts (λ x. all_parts_on x (targets_of (map target_view us))) c.loop-target.counts end) (sym next)
    (counted_then (λ x. parts_on x (target_view y)) (λ x. all_parts_on x (targets_of (map target_view (drop (i + 1) ts)))) c.loop-target.counts c.count_target.new.counts end c.in_ok-count_target.ensures h))

pub count_targets-returns : goal.count_targets-returns
count_targets-returns t c =
    let ts = c.args.targets.now in
    c.loop-target.invariant c.loop-target.counts
    (subst (λ us. Counts (λ x. all_parts_on x (targets_of (map target_view us))) c.loop-target.counts c.loop-target.counts) (sym (drop_all c.loop-target.target-index ts c.loop-target-test.false)) (none_counted c.loop-target.counts))
