use Rattle.std.proofs.Common.{◌<◌, ◌^◌, ap, arith, ◌∙◌}
use Rattle.four_state.specs.Parts.{index}
use Rattle.value_store.specs.Parts.{placed_bits}
use Rattle.value_store.proofs.Offsets.{placed_near}
use Rattle.value_store.proofs.offset.part_offset.Goals as goal

pub returns : goal.returns
returns c = λ qs ps a b.
    let small : c.args.range.low < 2 ^ 32 = omega arith in
    ap (placed_bits qs ps) c.offset_in.ensures ∙ placed_near c.args.range qs ps small a b (index c.args.index.now.signed c.args.index.now.bits)
