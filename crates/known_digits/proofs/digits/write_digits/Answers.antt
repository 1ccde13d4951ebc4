use Rattle.std.proofs.Common.{◌≡◌, ◌-◌, ◌<◌, None, ap, subst, ◌∙◌, length, take, arith, slice_index_or}
use Rattle.std.proofs.lemmas.List.{length-set, take_all}
use Rattle.known_digits.specs.Digits.{digit_of, digits_of}
use Rattle.known_digits.proofs.DigitLemmas.{count_of, one_more}
use Rattle.known_digits.proofs.digits.write_digits.Goals as goal

pub loop-place-preserved : goal.loop-place-preserved
loop-place-preserved c =
    let bits = c.args.value.now.bits in
    let within : c.loop-place.place < length bits = omega (arith, c.loop-place-test.true, c.width-count.ensures.value) in
    record {
      written = one_more bits c.loop-place.room c.loop-place.place c.digit.result within (omega (arith, c.loop-place-test.true, c.width-count.ensures.at_most, c.width-count.ensures.value, c.loop-place.invariant.room)) c.loop-place.invariant.written
          (c.digit.ensures ∙ ap (λ n. digit_of (slice_index_or bits (n - 1 - c.loop-place.place) None)) c.width-count.ensures.value);
      room = length-set c.loop-place.room c.loop-place.place c.digit.result ∙ c.loop-place.invariant.room;
    }

pub returns : goal.returns
returns c =
    let digits = digits_of c.args.value.now.bits in
    let same : c.loop-place.place ≡ c.width-count.result = omega (arith, c.loop-place-test.false, c.loop-place.auto.place-end) in
    subst (λ n. take n c.loop-place.room ≡ take n digits) same c.loop-place.invariant.written ∙ take_all c.width-count.result digits (omega (arith, count_of c.args.value.now.bits, c.width-count.ensures.value))
