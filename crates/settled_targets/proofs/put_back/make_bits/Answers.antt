use Rattle.std.proofs.Common.{◌≡◌, ◌∙◌, ℕ, ◌<◌, ◌^◌, None, ap, get_or, length, subst, sym}
use Rattle.known_state.specs.Partly.{Partly}
use Rattle.step_values.specs.Vectors.{StepVectors}
use Rattle.settled_targets.specs.Returned.{IsMadeOf}
use Rattle.settled_targets.proofs.Cells.{made_of, replaced_bit}
use Rattle.settled_targets.proofs.put_back.make_bits.Goals as goal

pub replaced-requires-clause-width : goal.replaced-requires-clause-width
replaced-requires-clause-width c = ap (λ (q : Partly). length q.bits) c.made-made.ensures ∙ c.requires.width

pub replaced-requires-clause-mask : goal.replaced-requires-clause-mask
replaced-requires-clause-mask c = subst (λ n. c.args.bits.now.mask < 2 ^ n) (sym (ap (λ (q : Partly). length q.bits) c.made-made.ensures ∙ c.requires.width)) c.requires.mask

pub returns : goal.returns
returns c =
    let q = c.replaced.result in
    let bits = subst (λ (x : Partly). (i : ℕ) → i < length x.bits → get_or q.bits i None ≡ replaced_bit c.args.bits.now.mask c.args.holds x.bits c.args.left.now.bits i) c.made-made.ensures c.replaced.ensures.bits in
    subst (λ (u : StepVectors). IsMadeOf c.args.bits.now c.args.left.now.bits c.args.holds c.args.values.now u) (sym c.set_made.ensures)
    (made_of c.args.values.now c.args.bits.now c.args.holds q c.args.left.now.bits c.requires.place (c.replaced.ensures.width ∙ ap (λ (x : Partly). length x.bits) c.made-made.ensures) bits)
