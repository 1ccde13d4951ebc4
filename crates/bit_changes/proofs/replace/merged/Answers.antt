use Rattle.std.proofs.Common.{◌≡◌, ◌≤◌, length, Some, ap, refl, sym, ◌∙◌}
use Rattle.std.proofs.lemmas.List.{length-map}
use Rattle.std.specs.Option.{unwrap_or}
use Rattle.four_state.specs.declared.bit.Bit.TheVariants.{Zero}
use Rattle.bit_changes.proofs.Bits.{merged_at, mixed_inside}
use Rattle.bit_changes.proofs.replace.merged.Goals as goal

old_width : (c : goal.After-is_signed) → length c.value-before.result.bits ≡ length c.args.old.now.bits
old_width c =
    ap (λ v. length v.bits) c.value-before.ensures.value ∙ length-map c.args.old.now.bits (λ p. unwrap_or p Zero)

same_width : (c : goal.After-is_signed) → length c.value-before.result.bits ≡ length c.value-after.result.bits
same_width c =
    old_width c ∙ c.requires.width ∙ sym (ap (λ v. length v.bits) c.value-after.ensures.value ∙ length-map c.args.new.now.bits (λ p. unwrap_or p Zero))

pub make-whole-requires-clause-ones_inside : goal.make-whole-requires-clause-ones_inside
make-whole-requires-clause-ones_inside c =
    rw c.width.ensures.value (mixed_inside (length c.value-before.result.bits) c.ones.result c.ones-2.result c.args.mask c.ones.ensures.inside (rw (same_width c) c.ones-2.ensures.inside))

pub make-whole-requires-clause-strange_inside : goal.make-whole-requires-clause-strange_inside
make-whole-requires-clause-strange_inside c =
    rw c.width.ensures.value (mixed_inside (length c.value-before.result.bits) c.strange.result c.strange-2.result c.args.mask c.strange.ensures.inside (rw (same_width c) c.strange-2.ensures.inside))

pub returns-clause-bits : goal.returns-clause-bits
returns-clause-bits c =
    λ i l. let old : length c.value-before.result.bits ≡ length c.args.old.now.bits = ap (λ v. length v.bits) c.value-before.ensures.value ∙ length-map c.args.old.now.bits (λ p. unwrap_or p Zero) in
    let whole : length c.whole.result.bits ≡ length c.args.old.now.bits = ap (λ v. length v.bits) c.whole.ensures ∙ length-map c.make-whole.result.bits Some ∙ c.make-whole.ensures.width ∙ c.width.ensures.value ∙ old in
    let small : length c.args.old.now.bits ≤ 128 = rw (← old) c.width.ensures.within.1 in
    c.forgotten.ensures.bits i (rw whole l) ∙ rw (c.low_mask.ensures, c.width-2.ensures.value, old, c.whole.ensures, c.make-whole.ensures.value, c.width.ensures.value, old, c.ones.ensures.value, c.ones-2.ensures.value, c.strange.ensures.value, c.strange-2.ensures.value, c.sure.ensures, c.sure-2.ensures, c.value-before.ensures.value, c.value-after.ensures.value) (merged_at (length c.args.old.now.bits) c.args.old.now.bits c.args.new.now.bits c.args.mask i refl small c.ranges.mask.fits (rw (← c.sure.ensures) c.sure.type_inv) (rw (← c.sure-2.ensures) c.sure-2.type_inv) l (rw (← c.requires.width) l))
