use Rattle.std.proofs.Common.{◌≡◌, ◌∙◌, ◌+◌, ap, arith, drop, of_z, pos, take, to_z, w64}
use Rattle.std.proofs.lemmas.Int.{ints}
use Rattle.known_state.specs.Partly.{are_sure}
use Rattle.value_store.proofs.body_replay.Answered.{select_answer}
use Rattle.assignments.proofs.Cutting.{cut_bits, cut_sure}
use Rattle.assignments.proofs.parts.cut.Goals as goal

pub returns-clause-bits : goal.returns-clause-bits
returns-clause-bits c =
    let e = c.from.ensures in
    let fits = c.ranges.low.fits in
    let same : to_z w64 (of_z w64 c.from.result) ≡ pos c.args.low = omega (arith, ints, e, fits) in
    let sound = rw same at c.select.ensures.sound in
    let tight = rw same at c.select.ensures.tight in
    select_answer c.args.value.now c.select.result (pos c.args.low) c.args.width sound tight ∙ cut_bits c.args.value.now.bits c.args.low c.args.width c.requires.inside

pub returns-clause-whole : goal.returns-clause-whole
returns-clause-whole c = λ whole.
    let e = c.from.ensures in
    let fits = c.ranges.low.fits in
    let same : to_z w64 (of_z w64 c.from.result) ≡ pos c.args.low = omega (arith, ints, e, fits) in
    let sound = rw same at c.select.ensures.sound in
    let tight = rw same at c.select.ensures.tight in
    let bits : c.select.result.bits ≡ drop c.args.low (take (c.args.low + c.args.width) c.args.value.now.bits) = select_answer c.args.value.now c.select.result (pos c.args.low) c.args.width sound tight ∙ cut_bits c.args.value.now.bits c.args.low c.args.width c.requires.inside in
    ap are_sure bits ∙ cut_sure c.args.value.now.bits c.args.low (c.args.low + c.args.width) whole
