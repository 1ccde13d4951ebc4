use Rattle.std.proofs.Common.{◌≡◌, true, false, None, is_some, get_or, sym, ap, ◌∙◌}
use Rattle.std.specs.Prelude.{slice_get}
use Rattle.four_state.specs.Masks.{is_set}
use Rattle.bit_changes.proofs.Bits.{sure_at}
use Rattle.known_digits.proofs.DigitLemmas.{sure_bit, unsure_bit}
use Rattle.known_digits.proofs.digits.bit_at.Goals as goal

pub returns-then-has_place : goal.returns-then-has_place
returns-then-has_place c =
    let bits = c.args.value.now.bits in
    let some : is_some (get_or bits c.args.place None) ≡ true = sym (sure_at bits c.args.place c.requires.place) ∙ ap (λ m. is_set m c.args.place) (sym c.sure.ensures) ∙ sym c.has_place.ensures ∙ c.if-has_place.true in
    sure_bit bits c.args.place c.bit.result c.requires.place some (ap (λ v. slice_get v.bits c.args.place) (sym c.value.ensures.value) ∙ c.bit.ensures)

pub returns-else-has_place : goal.returns-else-has_place
returns-else-has_place c =
    let bits = c.args.value.now.bits in
    let none : is_some (get_or bits c.args.place None) ≡ false = sym (sure_at bits c.args.place c.requires.place) ∙ ap (λ m. is_set m c.args.place) (sym c.sure.ensures) ∙ sym c.has_place.ensures ∙ c.if-has_place.false in
    unsure_bit (get_or bits c.args.place None) none
