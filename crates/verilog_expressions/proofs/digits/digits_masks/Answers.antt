use Rattle.std.proofs.Common.{◌≡◌, ℕ, Bool, true, false, Some, None, List, cond, filter, slice_index, refl, sym, ap, ◌∙◌}
use Rattle.std.specs.Option.{unwrap_or}
use Rattle.four_state.specs.declared.bit.Bit.{Bit}
use Rattle.four_state.specs.declared.bit.Bit.TheVariants.{Zero}
use Rattle.four_state.specs.Vector.{fill}
use Rattle.verilog_lexer.specs.Based.{is_strange}
use Rattle.verilog_grammar.specs.Literal.{strange_bit, filler, bits_of_digits}
use Rattle.verilog_expressions.specs.Digits.{is_digit}
use Rattle.verilog_expressions.proofs.PushedDigits.{pushed, pushed_is}
use Rattle.verilog_expressions.proofs.digits.digits_masks.Goals as goal

filled_by : (t : Bool) (b : Bit) → unwrap_or (cond t (Some b) None) Zero ≡ cond t b Zero
filled_by true b = refl
filled_by false b = refl

begun : (n : ℕ) (ds : List ℕ) (f : Bit) (bs : List Bit) → f ≡ filler ds → bs ≡ fill 128 f → bits_of_digits n 128 ds ≡ pushed n bs ds
begun n ds f bs e k = sym (ap (λ b. pushed n b ds) (k ∙ ap (fill 128) e) ∙ pushed_is n ds)

pub loop-byte-init : goal.loop-byte-init
loop-byte-init c =
    let digits = filter is_digit c.args.digits.now in
    let first = slice_index digits 0 in
    let bit = c.strange_bit.ensures ∙ ap (λ d. cond (is_strange d) (Some (strange_bit d)) None) c.first_digit.ensures in
    begun c.args.bits digits c.unwrap_or-filler.result _ (c.unwrap_or-filler.ensures ∙ ap (λ o. unwrap_or o Zero) bit ∙ filled_by (is_strange first) (strange_bit first)) c.copies-masks.ensures.value
