use Rattle.std.proofs.Common.{◌≡◌, ◌<◌, arith, sym, ap, ◌∙◌}
use Rattle.std.specs.Char.{digit_value}
use Rattle.vcd_reader.proofs.TimeLemmas.{time_more}
use Rattle.vcd_reader.proofs.time_digits.TimeDigits.with_byte.Goals as goal

pub returns-in-Some : goal.returns-in-Some
returns-in-Some c = λ word time.
    let is : digit_value c.args.byte ≡ c.in-Some.digit = ap digit_value (sym c.from.ensures) ∙ sym c.in-Some.ensures.value.1 in
    let small : c.in-Some.digit < 10 = omega (arith, c.in-Some.ensures.value.0, c.in-Some.ensures.value.1) in
    time_more c.args.self word c.args.byte c.in-Some.digit _ time is small (c.with_digit.ensures (omega (arith, small)))
