use Rattle.std.proofs.Common.{◌==◌, ◌^◌, ◌-◌, not, ap, bit_and, length, sym, ◌∙◌}
use Rattle.std.specs.List.{range_with_len}
use Rattle.bit_changes.specs.Changes.{bit_at, surely_differ, surely_same}
use Rattle.step_words.proofs.Masks.{not_all, some_below}
use Rattle.step_words.proofs.memory.change_of.Goals as goal

pub returns-clause-is_sure : goal.returns-clause-is_sure
returns-clause-is_sure c =
    let ps = c.args.old.now.bits in
    let qs = c.args.now.now.bits in
    ap (λ n. not (bit_and c.differing.result n == 0)) (c.places_below-places.ensures ∙ ap (λ w. 2 ^ w - 1) c.width.ensures.value)
    ∙ some_below c.differing.result (length ps) (λ j. surely_differ (bit_at ps j) (bit_at qs j)) c.differing.ensures

pub returns-clause-may_be : goal.returns-clause-may_be
returns-clause-may_be c =
    let ps = c.args.old.now.bits in
    let qs = c.args.now.now.bits in
    ap (λ n. not (bit_and c.unsteady.result n == 0)) (c.places_below-places.ensures ∙ ap (λ w. 2 ^ w - 1) c.width.ensures.value)
    ∙ some_below c.unsteady.result (length ps) (λ j. not (surely_same (bit_at ps j) (bit_at qs j))) c.unsteady.ensures
    ∙ sym (not_all (λ j. surely_same (bit_at ps j) (bit_at qs j)) (range_with_len 0 (length ps)))
