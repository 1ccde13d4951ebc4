use Rattle.std.proofs.Common.{◌∙◌, ap, ap₂, arith, subst, sym}
use Rattle.std.specs.Prelude.{◌+◌, ◌-◌, ◌%◌, ◌^◌, bit_and, bit_or, bit_xor}
use Rattle.term_replay.specs.Numbers.{IsCombined}
use Rattle.term_replay.proofs.Combined.{and_combined, difference_combined, or_combined, sum_combined, xor_combined}
use Rattle.term_replay.proofs.number_operators.combined.Goals as goal

pub returns-in-BitwiseAnd : goal.returns-in-BitwiseAnd
returns-in-BitwiseAnd c = subst (λ o. IsCombined o c.args.width c.args.one c.args.two (bit_and c.args.one c.args.two)) (sym c.in-BitwiseAnd.is) (and_combined c.args.width c.args.one c.args.two c.requires.one)

pub returns-in-BitwiseOr : goal.returns-in-BitwiseOr
returns-in-BitwiseOr c = subst (λ o. IsCombined o c.args.width c.args.one c.args.two (bit_or c.args.one c.args.two)) (sym c.in-BitwiseOr.is) (or_combined c.args.width c.args.one c.args.two c.requires.one c.requires.two)

pub returns-in-BitwiseXor : goal.returns-in-BitwiseXor
returns-in-BitwiseXor c = subst (λ o. IsCombined o c.args.width c.args.one c.args.two (bit_xor c.args.one c.args.two)) (sym c.in-BitwiseXor.is) (xor_combined c.args.width c.args.one c.args.two c.requires.one c.requires.two)

pub returns-in-Add : goal.returns-in-Add
returns-in-Add c = subst (λ o. IsCombined o c.args.width c.args.one c.args.two (c.cut.result)) (sym c.in-Add.is) (sum_combined c.args.width c.args.one c.args.two c.requires.high c.requires.one c.requires.two c.cut.result (c.cut.ensures.value ∙ ap (bit_and (2 ^ c.args.width - 1)) (ap₂ ◌+◌ c.from.ensures c.from-in-Add.ensures)) c.cut.ensures.inside)

pub returns-in-Subtract : goal.returns-in-Subtract
returns-in-Subtract c = subst (λ o. IsCombined o c.args.width c.args.one c.args.two (c.cut-in-Subtract.result)) (sym c.in-Subtract.is) (difference_combined c.args.width c.args.one c.args.two c.requires.high c.requires.one c.requires.two c.cut-in-Subtract.result (omega arith) (c.cut-in-Subtract.ensures.value ∙ ap₂ (λ x y. bit_and (2 ^ c.args.width - 1) ((x + (2 ^ 128 - y)) % 2 ^ 128)) c.from-in-Subtract.ensures c.from-in-Subtract-2.ensures) c.cut-in-Subtract.ensures.inside)
