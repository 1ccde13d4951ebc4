use Rattle.std.proofs.Common.{ap, ◌∙◌, arith, Some}
use Rattle.four_state.proofs.Kept.{kept_bit, kept_width}
use Rattle.four_state.proofs.four.Four.bit.Goals as goal

pub has_place-requires : goal.has_place-requires
has_place-requires c = omega (arith, kept_width c.self.inside.width c.self.inside.ones c.self.inside.strange c.self.inside.signed c.args.self.now c.self.view_is c.self.invariant)

pub has_place-requires-2 : goal.has_place-requires-2
has_place-requires-2 c = omega (arith, kept_width c.self.inside.width c.self.inside.ones c.self.inside.strange c.self.inside.signed c.args.self.now c.self.view_is c.self.invariant)

pub returns : goal.returns
returns c =
    kept_bit c.self.inside.width c.self.inside.ones c.self.inside.strange c.self.inside.signed c.args.self.now c.self.view_is c.self.invariant c.args.place c.requires ∙ ap Some (cc)
