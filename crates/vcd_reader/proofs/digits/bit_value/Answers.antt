use Rattle.std.proofs.Common.{false, List, ap, ◌∙◌}
use Rattle.four_state.specs.declared.Bit.{Bit}
use Rattle.four_state.specs.Vector.{Vector}
use Rattle.vcd_reader.specs.Values.{digit_bit}
use Rattle.vcd_reader.proofs.MaskLemmas.{one_place, one_bit}
use Rattle.vcd_reader.proofs.digits.bit_value.Goals as goal

pub make-requires-clause-ones_inside : goal.make-requires-clause-ones_inside
make-requires-clause-ones_inside c = rw c.from-ones.ensures (one_place c.writes_one_or_z.result)

pub make-requires-clause-strange_inside : goal.make-requires-clause-strange_inside
make-requires-clause-strange_inside c = rw c.from-strange.ensures (one_place c.writes_strange.result)

pub returns : goal.returns
returns c =
    c.make.ensures.value ∙ rw (c.from-ones.ensures, c.from-strange.ensures, c.writes_one_or_z.ensures, c.writes_strange.ensures)
    (ap (λ (bits : List Bit). let v : Vector = record { bits = bits; signed = false } in v) (one_bit (digit_bit c.args.digit)))
