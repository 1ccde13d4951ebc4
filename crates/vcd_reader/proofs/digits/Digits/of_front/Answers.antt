use Rattle.std.proofs.Common.{refl, take, arith}
use Rattle.vcd_reader.proofs.DigitFronts.{front_digits, front_inside, masks_of_front}
use Rattle.vcd_reader.proofs.digits.Digits.of_front.Goals as goal

pub invariant_of-result : goal.invariant_of-result
invariant_of-result c =
    let bytes = c.args.bytes.now in
    let count = c.args.count in
    let masks = masks_of_front (take count bytes) c.digit_masks-ones.result.ones c.digit_masks-ones.result.strange c.digit_masks-ones.ensures.ones c.digit_masks-ones.ensures.strange in
    record {
      few = omega (arith, c.requires.narrow);
      ones_inside = front_inside bytes count c.digit_masks-ones.result.ones c.requires.within masks.ones_inside;
      strange_inside = front_inside bytes count c.digit_masks-ones.result.strange c.requires.within masks.strange_inside;
    }

pub returns-clause-digits : goal.returns-clause-digits
returns-clause-digits c =
    let bytes = c.args.bytes.now in
    let count = c.args.count in
    front_digits _ bytes count c.requires.some c.requires.within c.requires.narrow c.requires.digits refl refl c.begins_strange.ensures
    (masks_of_front (take count bytes) c.digit_masks-ones.result.ones c.digit_masks-ones.result.strange c.digit_masks-ones.ensures.ones c.digit_masks-ones.ensures.strange)
