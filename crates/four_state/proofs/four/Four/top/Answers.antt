use Rattle.std.proofs.Common.{◌-◌, arith, sym, ◌∙◌}
use Rattle.four_state.specs.Vector.{X}
use Rattle.four_state.proofs.Kept.{kept_width}
use Rattle.four_state.proofs.PartLaws.{top_at}
use Rattle.std.proofs.lemmas.Option.{get_or_from_slice_get}
use Rattle.four_state.proofs.four.Four.top.Goals as goal

pub bit-requires : goal.bit-requires
bit-requires c = omega (arith, kept_width c.self.inside.width c.self.inside.ones c.self.inside.strange c.self.inside.signed c.args.self.now c.self.view_is c.self.invariant)

pub returns : goal.returns
returns c =
    let bs = c.args.self.now.bits in
    let n = c.self.inside.width - 1 in
    sym (get_or_from_slice_get bs n c.bit.result X c.bit.ensures) ∙ top_at bs n X (omega (arith, kept_width c.self.inside.width c.self.inside.ones c.self.inside.strange c.self.inside.signed c.args.self.now c.self.view_is c.self.invariant))
