use Rattle.std.proofs.Common.{◌<◌, ◌+◌, arith}
use Rattle.std.proofs.lemmas.Int.Digits.{digits_value_more, digits_more}
use Rattle.std.specs.Char.{digit_value}
use Rattle.cov_host.proofs.DecimalLemmas.{AllDigits-at, digits_value-take}
use Rattle.cov_host.proofs.decimal.read_decimal.Goals as goal

pub returns-in_default-clause-none : goal.returns-in_default-clause-none
returns-in_default-clause-none c = λ decimal.
    let digit : digit_value c.from.result < 10 = rw c.from.ensures (AllDigits-at c.args.word.now c.loop-byte.byte-index (omega arith) decimal.1) in
    grind (arith, c.in_default.ensures.succeeds digit)

pub returns-in_default-with_digit-clause-none : goal.returns-in_default-with_digit-clause-none
returns-in_default-with_digit-clause-none c = λ decimal. grind (arith, digits_value_more 10 c.args.word.now c.loop-byte.byte-index, digits_value-take c.args.word.now (c.loop-byte.byte-index + 1), c.in-Some.ensures)

pub loop-byte-preserved : goal.loop-byte-preserved
loop-byte-preserved c = record {
  digits = grind (arith, digits_more 10 c.args.word.now c.loop-byte.byte-index, c.in-Some.ensures);
  value = grind (arith, digits_value_more 10 c.args.word.now c.loop-byte.byte-index, c.in-Some.ensures, c.in-Some-with_digit.ensures);
  within = omega (arith, c.in-Some-with_digit.ensures.within);
}
