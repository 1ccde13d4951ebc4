use Rattle.std.proofs.Common.{◌≡◌, ◌+◌, ◌-◌, ◌^◌, ◌<◌, true, ◌&&◌, arith, rules, sym, ◌∙◌}
use Rattle.four_state.specs.Vector.{is_one, top}
use Rattle.four_state.proofs.NumberLaws.{magnitude_law, top_counts}
use Rattle.std.proofs.lemmas.Bool.{and_parts}
use Rattle.four_state.proofs.arithmetic.magnitude.Goals as goal

pub overflow_add-result : goal.overflow_add-result
overflow_add-result c =
    let negative : (c.args.a.now.signed && is_one (top c.args.a.now.bits)) ≡ true = sym c.is_negative.ensures ∙ c.if-is_negative.true in
    let some = top_counts c.args.a.now.bits (and_parts c.args.a.now.signed (is_one (top c.args.a.now.bits)) negative).1 in
    let number = c.known_ones.ensures.number in
    let below : c.low_mask.result - c.known_ones.result + 1 < 2 ^ 128 = omega (arith, some, number) in
    search (rules, below)

pub returns-then-is_negative : goal.returns-then-is_negative
returns-then-is_negative c =
    rw (c.low_mask.ensures, c.width.ensures.value, c.known_ones.ensures.number) (magnitude_law c.args.a.now.signed c.args.a.now.bits c.requires (sym c.is_negative.ensures ∙ c.if-is_negative.true))
