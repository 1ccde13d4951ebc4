use Rattle.std.proofs.Common.{◌≡◌, ◌∙◌, ◌+◌, ◌-◌, ◌<◌, ◌++◌, ◌∷◌, [], length, take, sym, ap, subst, arith}
use Rattle.std.specs.Prelude.{slice_get, Some}
use Rattle.std.proofs.lemmas.List.{take_all, take_more}
use Rattle.state_machines.specs.Drawn.{digit_of, digits_of}
use Rattle.state_machines.proofs.Digits.{digit_at, digit_count}
use Rattle.design_machines.proofs.drawn.digits_of.Goals as goal

pub loop-place-preserved : goal.loop-place-preserved
loop-place-preserved c =
    let v = c.args.value.now in
    let k = c.loop-place.place in
    let within : k < length v.bits = omega (arith, c.loop-place-test.true, c.width-count.ensures.value) in
    let bit = subst (λ n. slice_get v.bits (n - 1 - k) ≡ Some c.bit.result) c.width-count.ensures.value c.bit.ensures in
    let digit = c.digit_of.ensures ∙ sym (digit_at v k c.bit.result within bit) in
    c.in_ok-push.ensures.items ∙ ap (λ ds. ds ++ c.digit_of.result ∷ []) c.loop-place.invariant ∙ ap (λ x. take k (digits_of v) ++ x ∷ []) digit ∙ sym (take_more (digits_of v) k 0 (omega (arith, within, digit_count v)))

pub returns : goal.returns
returns c =
    let v = c.args.value.now in
    c.from_vec.ensures ∙ c.loop-place.invariant ∙ take_all c.loop-place.place (digits_of v) (omega (arith, digit_count v, c.width-count.ensures.value, c.loop-place-test.false))
