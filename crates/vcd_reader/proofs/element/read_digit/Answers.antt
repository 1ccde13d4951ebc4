use Rattle.std.proofs.Common.{[], ◌∷◌}
use Rattle.vcd_reader.proofs.element.read_digit.Goals as goal

pub returns-then-code-ne1 : goal.returns-then-code-ne1
returns-then-code-ne1 c = c.read_value.ensures (c.args.digit ∷ []) c.of_one.ensures.digits
