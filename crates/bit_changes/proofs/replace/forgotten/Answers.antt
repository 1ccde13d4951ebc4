use Rattle.std.proofs.Common.{◌≡◌, length, Some, ap, sym, ◌∙◌}
use Rattle.std.proofs.lemmas.List.{length-map}
use Rattle.std.proofs.lemmas.Nat.{xor_lt}
use Rattle.std.specs.Option.{unwrap_or}
use Rattle.four_state.specs.declared.bit.Bit.TheVariants.{Zero}
use Rattle.known_state.proofs.Bits.{length-joined}
use Rattle.bit_changes.proofs.Bits.{out_at}
use Rattle.bit_changes.proofs.replace.forgotten.Goals as goal

kept_width : (c : goal.After-strange) → length c.value-kept.result.bits ≡ length c.args.value.now.bits
kept_width c =
    ap (λ v. length v.bits) c.value-kept.ensures.value ∙ length-map c.args.value.now.bits (λ p. unwrap_or p Zero)

pub make-other-requires-clause-ones_inside : goal.make-other-requires-clause-ones_inside
make-other-requires-clause-ones_inside c =
    rw c.width.ensures.value (xor_lt (length c.value-kept.result.bits) c.ones.result c.args.mask c.ones.ensures.inside (rw (kept_width c) c.requires))

pub returns-clause-width : goal.returns-clause-width
returns-clause-width c =
    rw c.join.ensures.value (length-joined c.args.value.now.bits c.whole.result.bits (sym (ap (λ v. length v.bits) c.whole.ensures ∙ length-map c.make-other.result.bits Some ∙ c.make-other.ensures.width ∙ c.width.ensures.value ∙ ap (λ v. length v.bits) c.value-kept.ensures.value ∙ length-map c.args.value.now.bits (λ p. unwrap_or p Zero))))

pub returns-clause-bits : goal.returns-clause-bits
returns-clause-bits c =
    λ i l. rw (c.join.ensures.value, c.whole.ensures, c.make-other.ensures.value, c.width.ensures.value, c.ones.ensures.value, c.strange.ensures.value, c.value-kept.ensures.value, length-map) (out_at c.args.value.now.bits c.args.mask i l)
