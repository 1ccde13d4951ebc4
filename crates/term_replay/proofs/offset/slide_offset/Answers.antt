use Rattle.std.proofs.Common.{◌≡◌, ◌∙◌, ◌-ℤ◌, ap, arith, pos, Some, sym, to_z, of_z, w64}
use Rattle.std.proofs.lemmas.Bool.{lt-leb}
use Rattle.std.proofs.lemmas.Int.{ints}
use Rattle.four_state.specs.Parts.{index}
use Rattle.design_model.specs.Value.{slide_offset}
use Rattle.term_replay.proofs.Offsets.{falling_down, falling_up, near_within, rising_down, rising_up}
use Rattle.term_replay.proofs.offset.slide_offset.Goals as goal

pub returns-then-up-clause-value : goal.returns-then-up-clause-value
returns-then-up-clause-value c =
    let r = c.args.range in
    let b = c.in_ok-base.base in
    let within = near_within (index c.args.base.now.signed c.args.base.now.bits) b c.in_ok-base.ensures in
    ap Some (omega (arith, ints, within.0, within.1, c.from-low.ensures)) ∙ sym (falling_up r c.args.width b c.if-range.true) ∙ ap (λ up. slide_offset r up c.args.width (Some b)) (sym c.if-up.true) ∙ ap (slide_offset r c.args.up c.args.width) c.in_ok-base.ensures

pub returns-else-up-clause-value : goal.returns-else-up-clause-value
returns-else-up-clause-value c =
    let r = c.args.range in
    let b = c.in_ok-base.base in
    let within = near_within (index c.args.base.now.signed c.args.base.now.bits) b c.in_ok-base.ensures in
    ap Some (omega (arith, ints, within.0, within.1, c.from-low.ensures, c.from-others.ensures)) ∙ sym (falling_down r c.args.width b c.if-range.true) ∙ ap (λ up. slide_offset r up c.args.width (Some b)) (sym c.if-up.false) ∙ ap (slide_offset r c.args.up c.args.width) c.in_ok-base.ensures

pub returns-then-up-2-clause-value : goal.returns-then-up-2-clause-value
returns-then-up-2-clause-value c =
    let r = c.args.range in
    let b = c.in_ok-base.base in
    let within = near_within (index c.args.base.now.signed c.args.base.now.bits) b c.in_ok-base.ensures in
    ap Some (omega (arith, ints, within.0, within.1, c.from-low.ensures, c.from-others.ensures)) ∙ sym (rising_up r c.args.width b c.if-range.false) ∙ ap (λ up. slide_offset r up c.args.width (Some b)) (sym c.if-up-2.true) ∙ ap (slide_offset r c.args.up c.args.width) c.in_ok-base.ensures

pub returns-else-up-2-clause-value : goal.returns-else-up-2-clause-value
returns-else-up-2-clause-value c =
    let r = c.args.range in
    let b = c.in_ok-base.base in
    let within = near_within (index c.args.base.now.signed c.args.base.now.bits) b c.in_ok-base.ensures in
    let number : to_z w64 (of_z w64 (to_z w64 (of_z w64 c.from-low.result) -ℤ to_z w64 (of_z w64 b))) ≡ pos r.low -ℤ b = omega (arith, ints, within.0, within.1, c.from-low.ensures) in
    ap Some number ∙ sym (rising_down r c.args.width b (lt-leb r.low r.high c.if-range.false)) ∙ ap (λ up. slide_offset r up c.args.width (Some b)) (sym c.if-up-2.false) ∙ ap (slide_offset r c.args.up c.args.width) c.in_ok-base.ensures
