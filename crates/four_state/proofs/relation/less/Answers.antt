use Rattle.std.proofs.Common.{sym, ◌∙◌}
use Rattle.four_state.proofs.NumberLaws.{less_law}
use Rattle.four_state.proofs.relation.less.Goals as goal

pub returns-then-is_negative : goal.returns-then-is_negative
returns-then-is_negative c =
    let sign = c.requires.1 in
    rw (c.of.ensures, c.known_ones.ensures.number, c.known_ones-then-is_negative.ensures.number) (less_law c.args.a.now.signed c.args.a.now.bits c.args.b.now.bits (sym c.are_known.ensures ∙ c.if-not-are_known.false) c.requires.0 (rw (c.is_negative.ensures, c.is_negative-else-not-are_known.ensures, ← sign) at c.if-is_negative.true))
