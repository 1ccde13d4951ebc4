use Rattle.std.proofs.Common.{◌≡◌, ◌∙◌, ◌+◌, ◌*◌, ◌≤◌, drop, length, map, min, sym, ap, ap₂, subst, refl, arith}
use Rattle.std.proofs.lemmas.Bool.{and_parts}
use Rattle.std.proofs.lemmas.List.{at_drop_all}
use Rattle.std.proofs.Common.{rules}
use Rattle.four_state.specs.Arithmetic.{natural}
use Rattle.four_state.specs.Operators.{takes_same_shape}
use Rattle.known_state.specs.Answers.{HaveSameShape}
use Rattle.design_model.specs.Design.{memory_at}
use Rattle.design_model.specs.Mentions.{blank}
use Rattle.design_model.specs.Shape.{are_alone, own_widths}
use Rattle.design_model.specs.Tree as tree
use Rattle.design_model.specs.Value.{head, part_width, value}
use Rattle.design_model.specs.View.{term_view, terms_of}
use Rattle.design_model.specs.declared.tree.Term.{the_lemmas}
use Rattle.body_replay.specs.Replay.{note}
use Rattle.term_replay.specs.Noted.{access_spot, all_marks, in_this, marks_of}
use Rattle.term_replay.specs.Plain.{head_in, held}
use Rattle.term_replay.specs.Stands.{Fitted, IsHead, Stands, copied, all_first_after, first_after, head_of, so_far}
use Rattle.term_replay.specs.declared.notes.Access.TheVariants.{Read}
use Rattle.term_replay.proofs.Arms.{held_same, in_head, other_mode, second_first, second_mode, second_notes, second_value, small_same, third_first, third_mode, third_notes, third_value, walked_own, walked_two}
use Rattle.term_replay.proofs.Constants.{bits_are, constant_bits, constant_whole}
use Rattle.term_replay.proofs.Contexts.{alone, in_binary, in_bit, choice_heads, in_choice, in_concat, in_part, in_repeat, in_sign, in_slide, in_unary, in_word, length-joined, length-stands, same_shapes}
use Rattle.term_replay.proofs.Joining.{GoesOn, TellsOn, concat_stands, repeat_all, room_for_all, goes_end, goes_further, goes_start, room_left, tells_end, tells_further, tells_start, terms_from}
use Rattle.term_replay.proofs.Marking.{adds_more, adds_same}
use Rattle.term_replay.proofs.Stepping.{arm_context, next_value, same_value, three_first, three_marks, two_first, two_marks}
use Rattle.term_replay.proofs.Views.{binary_view, bit_view, choice_view, concat_view, number_view, part_view, repeat_view, sign_view, signal_view, slide_view, unary_view, word_view}
use Rattle.term_replay.proofs.Walking.{noted_is, on_true, read_is, thing_is, word_stands, words_of_range, words_same}
use Rattle.term_replay.proofs.evaluation.+terms.Goals as goal

-- ---- each form of a term

pub walk-number_term-requires : goal.walk-number_term-requires
walk-number_term-requires g t c =
    let is = number_view c.args.term.now c.in-Number.value (sym c.deref.ensures ∙ c.in-Number.is) in
    record { form = is; head = in_head (g.R.Reads.scene c.args.reads.now) c.args.term.now (ap head is) c.requires }

pub walk-returns-in-Number : goal.walk-returns-in-Number
walk-returns-in-Number g t c = c.number_term.ensures (g.R.Reads.scene c.args.reads.now)

pub walk-signal_term-requires : goal.walk-signal_term-requires
walk-signal_term-requires g t c =
    let is = signal_view c.args.term.now c.in-Signal.signal (sym c.deref.ensures ∙ c.in-Signal.is) in
    record { form = is; context = c.requires }

pub walk-word_term-requires : goal.walk-word_term-requires
walk-word_term-requires g t c =
    let is = word_view c.args.term.now c.in-Word.memory c.in-Word.index (sym c.deref.ensures ∙ c.in-Word.is) in
    λ κs h. (search (rules, the_lemmas), (h.0, (h.1, (is, c.requires))))

pub walk-bit_term-requires : goal.walk-bit_term-requires
walk-bit_term-requires g t c =
    let is = bit_view c.args.term.now c.in-Bit.of c.in-Bit.index (sym c.deref.ensures ∙ c.in-Bit.is) in
    λ κs h. (search (rules, the_lemmas), (h.0, (h.1, (is, c.requires))))

pub walk-part_term-requires : goal.walk-part_term-requires
walk-part_term-requires g t c =
    let is = part_view c.args.term.now c.in-Part.of c.in-Part.high c.in-Part.low (sym c.deref.ensures ∙ c.in-Part.is) in
    λ κs h. (search (rules, the_lemmas), (h.0, (h.1, (is, c.requires))))

pub walk-slide_term-requires : goal.walk-slide_term-requires
walk-slide_term-requires g t c =
    let is = slide_view c.args.term.now c.in-Slide.of c.in-Slide.base c.in-Slide.width c.in-Slide.up (sym c.deref.ensures ∙ c.in-Slide.is) in
    λ κs h. (search (rules, the_lemmas), (h.0, (h.1, (is, c.requires))))

pub walk-unary_term-requires : goal.walk-unary_term-requires
walk-unary_term-requires g t c =
    let is = unary_view c.args.term.now c.in-Unary.op c.in-Unary.operand (sym c.deref.ensures ∙ c.in-Unary.is) in
    λ κs h. (search (rules, the_lemmas), (h.0, (h.1, (is, c.requires))))

pub walk-binary_term-requires : goal.walk-binary_term-requires
walk-binary_term-requires g t c =
    let is = binary_view c.args.term.now c.in-Binary.op c.in-Binary.left c.in-Binary.right (sym c.deref.ensures ∙ c.in-Binary.is) in
    λ κs h. (search (rules, the_lemmas), (h.0, (h.1, (is, c.requires))))

pub walk-choice_term-requires : goal.walk-choice_term-requires
walk-choice_term-requires g t c =
    let is = choice_view c.args.term.now c.in-Choice.test c.in-Choice.yes c.in-Choice.no (sym c.deref.ensures ∙ c.in-Choice.is) in
    λ κs h. (search (rules, the_lemmas), (h.0, (h.1, (is, c.requires))))

pub walk-concat_term-requires : goal.walk-concat_term-requires
walk-concat_term-requires g t c =
    let is = concat_view c.args.term.now c.in-Concat.parts (sym c.deref.ensures ∙ c.in-Concat.is) ∙ ap (λ xs. tree.concat (head_of (head_in c.args.term.now)) (terms_of (map term_view xs))) (sym c.deref-in-Concat.ensures.value) in
    λ κs h. (search (rules, the_lemmas), (h.0, (h.1, (is, c.requires))))

pub walk-repeat_term-requires : goal.walk-repeat_term-requires
walk-repeat_term-requires g t c =
    let is = repeat_view c.args.term.now c.in-Repeat.count c.in-Repeat.parts (sym c.deref.ensures ∙ c.in-Repeat.is) ∙ ap (λ xs. tree.repeat (head_of (head_in c.args.term.now)) (term_view c.in-Repeat.count) (terms_of (map term_view xs))) (sym c.deref-in-Repeat.ensures.value) in
    λ κs h. (search (rules, the_lemmas), (h.0, (h.1, (is, c.requires))))

pub walk-sign_term-requires : goal.walk-sign_term-requires
walk-sign_term-requires g t c =
    λ κs h. (search (rules, the_lemmas), (h.0, (h.1, (record { signed = _; is = sign_view c.args.term.now _ c.in-Sign.operand (sym c.deref.ensures ∙ c.in-Sign.is) }, c.requires))))

-- ---- with a place of its own

pub evaluate-walk-number-requires : goal.evaluate-walk-number-requires
evaluate-walk-number-requires g t c =
    λ κs h. (search (rules, the_lemmas), (h.0, (h.1, c.requires)))

pub evaluate-held-requires : goal.evaluate-held-requires
evaluate-held-requires g t c =
    record { head = in_head (g.R.Reads.scene c.args.reads.now) c.args.term.now c.walk-number.ensures.top c.requires; small = c.walk-number.ensures.small }

pub evaluate-returns-clause-value : goal.evaluate-returns-clause-value
evaluate-returns-clause-value g t c =
    same_value (g.R.Reads.scene c.args.reads.now) c.args.run.first (term_view c.args.term.now) _ _ c.held.ensures c.walk-number.ensures.value

pub evaluate-returns-clause-first : goal.evaluate-returns-clause-first
evaluate-returns-clause-first g t c = c.walk-number.ensures.first

pub evaluate-returns-clause-notes : goal.evaluate-returns-clause-notes
evaluate-returns-clause-notes g t c = c.walk-number.ensures.notes

-- ---- a bit, of its operands

pub bit_term-range_of-range-requires : goal.bit_term-range_of-range-requires
bit_term-range_of-range-requires g t c = (in_bit (g.R.Reads.scene c.args.reads.now).design _ _ _ (arm_context (g.R.Reads.scene c.args.reads.now).design _ (tree.bit (head_of (head_in c.args.term.now)) (term_view c.args.of.now) (term_view c.args.index.now)) c.requires.form c.requires.context)).operand

pub bit_term-evaluate-index-requires : goal.bit_term-evaluate-index-requires
bit_term-evaluate-index-requires g t c =
    λ κs h. (search (rules, the_lemmas), (h.0, (h.1, (in_bit (g.R.Reads.scene c.args.reads.now).design _ _ _ (arm_context (g.R.Reads.scene c.args.reads.now).design _ (tree.bit (head_of (head_in c.args.term.now)) (term_view c.args.of.now) (term_view c.args.index.now)) c.requires.form c.requires.context)).index)))

pub bit_term-evaluate-operand-requires : goal.bit_term-evaluate-operand-requires
bit_term-evaluate-operand-requires g t c =
    λ κs h. (search (rules, the_lemmas), (h.0, (h.1, (in_bit (g.R.Reads.scene c.args.reads.now).design _ _ _ (arm_context (g.R.Reads.scene c.args.reads.now).design _ (tree.bit (head_of (head_in c.args.term.now)) (term_view c.args.of.now) (term_view c.args.index.now)) c.requires.form c.requires.context)).operand)))

pub bit_term-bit-value-requires : goal.bit_term-bit-value-requires
bit_term-bit-value-requires g t c = subst IsHead (sym c.of.ensures) (in_head (g.R.Reads.scene c.args.reads.now) c.args.term.now (ap head c.requires.form) c.requires.context)

pub bit_term-finish-requires : goal.bit_term-finish-requires
bit_term-finish-requires g t c =
    let sb = next_value (g.R.Reads.scene c.args.reads.now) _ _ _ _ (ap (λ p. p.first) c.after.ensures ∙ c.evaluate-index.ensures.first) c.evaluate-operand.ensures.value in
    let stands : Stands (g.R.Reads.scene c.args.reads.now) c.args.run.now.first (tree.bit (head_of (head_in c.args.term.now)) (term_view c.args.of.now) (term_view c.args.index.now)) c.bit-value.result = subst (λ h. Stands (g.R.Reads.scene c.args.reads.now) c.args.run.now.first (tree.bit (head_of h) (term_view c.args.of.now) (term_view c.args.index.now)) c.bit-value.result) c.of.ensures (c.bit-value.ensures (g.R.Reads.scene c.args.reads.now) c.args.run.now.first (term_view c.args.of.now) (term_view c.args.index.now) (sym c.range_of-range.ensures) c.evaluate-index.ensures.value sb) in
    record { width = length-stands (g.R.Reads.scene c.args.reads.now) c.args.run.now.first (tree.bit (head_of (head_in c.args.term.now)) (term_view c.args.of.now) (term_view c.args.index.now)) c.bit-value.result stands; sign = stands.sign_is }

pub bit_term-returns : goal.bit_term-returns
bit_term-returns g t c =
    let sb = next_value (g.R.Reads.scene c.args.reads.now) _ _ _ _ (ap (λ p. p.first) c.after.ensures ∙ c.evaluate-index.ensures.first) c.evaluate-operand.ensures.value in
    let stands : Stands (g.R.Reads.scene c.args.reads.now) c.args.run.now.first (tree.bit (head_of (head_in c.args.term.now)) (term_view c.args.of.now) (term_view c.args.index.now)) c.bit-value.result = subst (λ h. Stands (g.R.Reads.scene c.args.reads.now) c.args.run.now.first (tree.bit (head_of h) (term_view c.args.of.now) (term_view c.args.index.now)) c.bit-value.result) c.of.ensures (c.bit-value.ensures (g.R.Reads.scene c.args.reads.now) c.args.run.now.first (term_view c.args.of.now) (term_view c.args.index.now) (sym c.range_of-range.ensures) c.evaluate-index.ensures.value sb) in
    let later = rw c.after.ensures at c.evaluate-operand.ensures.notes in
    walked_own g.N.Notes.noted (g.R.Reads.scene c.args.reads.now) c.args.term.now c.args.run.now _ _ _ _ _ _ (tree.bit (head_of (head_in c.args.term.now)) (term_view c.args.of.now) (term_view c.args.index.now)) c.bit-value.result c.requires.form refl refl stands c.finish.ensures.value c.finish.ensures.small (c.finish.ensures.first ∙ two_first (g.R.Reads.scene c.args.reads.now) c.args.run.now.first (term_view c.args.index.now) (term_view c.args.of.now) c.evaluate-index.result.first _ c.evaluate-index.ensures.first (c.evaluate-operand.ensures.first ∙ ap (λ o. first_after (g.R.Reads.scene c.args.reads.now) o (term_view c.args.of.now)) (ap (λ p. p.first) c.after.ensures))) c.finish.ensures.mode (two_marks g.N.Notes.noted (g.R.Reads.scene c.args.reads.now) c.args.run.now.mode c.args.run.now.first (term_view c.args.index.now) (term_view c.args.of.now) c.evaluate-index.result.first _ _ _ c.evaluate-index.ensures.first c.evaluate-index.ensures.notes later) c.finish.ensures.notes

-- ---- a part

pub part_term-range_of-range-requires : goal.part_term-range_of-range-requires
part_term-range_of-range-requires g t c = (in_part (g.R.Reads.scene c.args.reads.now).design _ _ _ _ (arm_context (g.R.Reads.scene c.args.reads.now).design _ (tree.part (head_of (head_in c.args.term.now)) (term_view c.args.of.now) (term_view c.args.high.now) (term_view c.args.low.now)) c.requires.form c.requires.context)).operand

pub part_term-evaluate-high-requires : goal.part_term-evaluate-high-requires
part_term-evaluate-high-requires g t c =
    λ κs h. (search (rules, the_lemmas), (h.0, (h.1, (in_part (g.R.Reads.scene c.args.reads.now).design _ _ _ _ (arm_context (g.R.Reads.scene c.args.reads.now).design _ (tree.part (head_of (head_in c.args.term.now)) (term_view c.args.of.now) (term_view c.args.high.now) (term_view c.args.low.now)) c.requires.form c.requires.context)).high)))

pub part_term-evaluate-low-requires : goal.part_term-evaluate-low-requires
part_term-evaluate-low-requires g t c =
    λ κs h. (search (rules, the_lemmas), (h.0, (h.1, (in_part (g.R.Reads.scene c.args.reads.now).design _ _ _ _ (arm_context (g.R.Reads.scene c.args.reads.now).design _ (tree.part (head_of (head_in c.args.term.now)) (term_view c.args.of.now) (term_view c.args.high.now) (term_view c.args.low.now)) c.requires.form c.requires.context)).low)))

pub part_term-evaluate-operand-requires : goal.part_term-evaluate-operand-requires
part_term-evaluate-operand-requires g t c =
    λ κs h. (search (rules, the_lemmas), (h.0, (h.1, (in_part (g.R.Reads.scene c.args.reads.now).design _ _ _ _ (arm_context (g.R.Reads.scene c.args.reads.now).design _ (tree.part (head_of (head_in c.args.term.now)) (term_view c.args.of.now) (term_view c.args.high.now) (term_view c.args.low.now)) c.requires.form c.requires.context)).operand)))

pub part_term-part-value-requires : goal.part_term-part-value-requires
part_term-part-value-requires g t c =
    let k = in_part (g.R.Reads.scene c.args.reads.now).design _ _ _ _ (arm_context (g.R.Reads.scene c.args.reads.now).design _ (tree.part (head_of (head_in c.args.term.now)) (term_view c.args.of.now) (term_view c.args.high.now) (term_view c.args.low.now)) c.requires.form c.requires.context) in
    record {
      head = subst IsHead (sym c.of-head.ensures) (in_head (g.R.Reads.scene c.args.reads.now) c.args.term.now (ap head c.requires.form) c.requires.context);
      high = constant_whole (g.R.Reads.scene c.args.reads.now) c.args.run.now.first (term_view c.args.high.now) c.evaluate-high.result.value k.high_fixed c.evaluate-high.ensures.value;
      low = constant_whole (g.R.Reads.scene c.args.reads.now) c.after.result.first (term_view c.args.low.now) c.evaluate-low.result.value k.low_fixed c.evaluate-low.ensures.value;
      count = subst (λ n. n ≤ 128) (sym (ap₂ part_width (constant_bits (g.R.Reads.scene c.args.reads.now) c.args.run.now.first (term_view c.args.high.now) c.evaluate-high.result.value k.high_fixed c.evaluate-high.ensures.value) (constant_bits (g.R.Reads.scene c.args.reads.now) c.after.result.first (term_view c.args.low.now) c.evaluate-low.result.value k.low_fixed c.evaluate-low.ensures.value))) k.count;
    }

pub part_term-finish-requires : goal.part_term-finish-requires
part_term-finish-requires g t c =
    let sb = next_value (g.R.Reads.scene c.args.reads.now) _ _ _ _ (ap (λ p. p.first) c.after.ensures ∙ c.evaluate-high.ensures.first) c.evaluate-low.ensures.value in
    let sc = next_value (g.R.Reads.scene c.args.reads.now) _ _ _ _ (ap (λ p. p.first) c.after-2.ensures ∙ two_first (g.R.Reads.scene c.args.reads.now) c.args.run.now.first (term_view c.args.high.now) (term_view c.args.low.now) c.evaluate-high.result.first _ c.evaluate-high.ensures.first (c.evaluate-low.ensures.first ∙ ap (λ o. first_after (g.R.Reads.scene c.args.reads.now) o (term_view c.args.low.now)) (ap (λ p. p.first) c.after.ensures))) c.evaluate-operand.ensures.value in
    let stands : Stands (g.R.Reads.scene c.args.reads.now) c.args.run.now.first (tree.part (head_of (head_in c.args.term.now)) (term_view c.args.of.now) (term_view c.args.high.now) (term_view c.args.low.now)) c.part-value.result = subst (λ h. Stands (g.R.Reads.scene c.args.reads.now) c.args.run.now.first (tree.part (head_of h) (term_view c.args.of.now) (term_view c.args.high.now) (term_view c.args.low.now)) c.part-value.result) c.of-head.ensures (c.part-value.ensures (g.R.Reads.scene c.args.reads.now) c.args.run.now.first (term_view c.args.of.now) (term_view c.args.high.now) (term_view c.args.low.now) (sym c.range_of-range.ensures) c.evaluate-high.ensures.value sb sc) in
    record { width = length-stands (g.R.Reads.scene c.args.reads.now) c.args.run.now.first (tree.part (head_of (head_in c.args.term.now)) (term_view c.args.of.now) (term_view c.args.high.now) (term_view c.args.low.now)) c.part-value.result stands; sign = stands.sign_is }

pub part_term-returns : goal.part_term-returns
part_term-returns g t c =
    let sb = next_value (g.R.Reads.scene c.args.reads.now) _ _ _ _ (ap (λ p. p.first) c.after.ensures ∙ c.evaluate-high.ensures.first) c.evaluate-low.ensures.value in
    let sc = next_value (g.R.Reads.scene c.args.reads.now) _ _ _ _ (ap (λ p. p.first) c.after-2.ensures ∙ two_first (g.R.Reads.scene c.args.reads.now) c.args.run.now.first (term_view c.args.high.now) (term_view c.args.low.now) c.evaluate-high.result.first _ c.evaluate-high.ensures.first (c.evaluate-low.ensures.first ∙ ap (λ o. first_after (g.R.Reads.scene c.args.reads.now) o (term_view c.args.low.now)) (ap (λ p. p.first) c.after.ensures))) c.evaluate-operand.ensures.value in
    let stands : Stands (g.R.Reads.scene c.args.reads.now) c.args.run.now.first (tree.part (head_of (head_in c.args.term.now)) (term_view c.args.of.now) (term_view c.args.high.now) (term_view c.args.low.now)) c.part-value.result = subst (λ h. Stands (g.R.Reads.scene c.args.reads.now) c.args.run.now.first (tree.part (head_of h) (term_view c.args.of.now) (term_view c.args.high.now) (term_view c.args.low.now)) c.part-value.result) c.of-head.ensures (c.part-value.ensures (g.R.Reads.scene c.args.reads.now) c.args.run.now.first (term_view c.args.of.now) (term_view c.args.high.now) (term_view c.args.low.now) (sym c.range_of-range.ensures) c.evaluate-high.ensures.value sb sc) in
    let second = rw c.after.ensures at c.evaluate-low.ensures.notes in
    let third = rw c.after-2.ensures at c.evaluate-operand.ensures.notes in
    walked_own g.N.Notes.noted (g.R.Reads.scene c.args.reads.now) c.args.term.now c.args.run.now _ _ _ _ _ _ (tree.part (head_of (head_in c.args.term.now)) (term_view c.args.of.now) (term_view c.args.high.now) (term_view c.args.low.now)) c.part-value.result c.requires.form refl refl stands c.finish.ensures.value c.finish.ensures.small (c.finish.ensures.first ∙ three_first (g.R.Reads.scene c.args.reads.now) c.args.run.now.first (term_view c.args.high.now) (term_view c.args.low.now) (term_view c.args.of.now) c.evaluate-high.result.first c.evaluate-low.result.first _ c.evaluate-high.ensures.first (c.evaluate-low.ensures.first ∙ ap (λ o. first_after (g.R.Reads.scene c.args.reads.now) o (term_view c.args.low.now)) (ap (λ p. p.first) c.after.ensures)) (c.evaluate-operand.ensures.first ∙ ap (λ o. first_after (g.R.Reads.scene c.args.reads.now) o (term_view c.args.of.now)) (ap (λ p. p.first) c.after-2.ensures))) c.finish.ensures.mode (three_marks g.N.Notes.noted (g.R.Reads.scene c.args.reads.now) c.args.run.now.mode c.args.run.now.first (term_view c.args.high.now) (term_view c.args.low.now) (term_view c.args.of.now) c.evaluate-high.result.first c.evaluate-low.result.first _ _ _ _ c.evaluate-high.ensures.first (c.evaluate-low.ensures.first ∙ ap (λ o. first_after (g.R.Reads.scene c.args.reads.now) o (term_view c.args.low.now)) (ap (λ p. p.first) c.after.ensures)) c.evaluate-high.ensures.notes second third) c.finish.ensures.notes

-- ---- a part from a base

pub slide_term-range_of-range-requires : goal.slide_term-range_of-range-requires
slide_term-range_of-range-requires g t c = (in_slide (g.R.Reads.scene c.args.reads.now).design _ _ _ _ _ (arm_context (g.R.Reads.scene c.args.reads.now).design _ (tree.slide (head_of (head_in c.args.term.now)) (term_view c.args.of.now) (term_view c.args.base.now) (term_view c.args.count.now) c.args.up) c.requires.form c.requires.context)).operand

pub slide_term-evaluate-base-requires : goal.slide_term-evaluate-base-requires
slide_term-evaluate-base-requires g t c =
    λ κs h. (search (rules, the_lemmas), (h.0, (h.1, (in_slide (g.R.Reads.scene c.args.reads.now).design _ _ _ _ _ (arm_context (g.R.Reads.scene c.args.reads.now).design _ (tree.slide (head_of (head_in c.args.term.now)) (term_view c.args.of.now) (term_view c.args.base.now) (term_view c.args.count.now) c.args.up) c.requires.form c.requires.context)).base)))

pub slide_term-evaluate-count-requires : goal.slide_term-evaluate-count-requires
slide_term-evaluate-count-requires g t c =
    λ κs h. (search (rules, the_lemmas), (h.0, (h.1, (in_slide (g.R.Reads.scene c.args.reads.now).design _ _ _ _ _ (arm_context (g.R.Reads.scene c.args.reads.now).design _ (tree.slide (head_of (head_in c.args.term.now)) (term_view c.args.of.now) (term_view c.args.base.now) (term_view c.args.count.now) c.args.up) c.requires.form c.requires.context)).size)))

pub slide_term-evaluate-operand-requires : goal.slide_term-evaluate-operand-requires
slide_term-evaluate-operand-requires g t c =
    λ κs h. (search (rules, the_lemmas), (h.0, (h.1, (in_slide (g.R.Reads.scene c.args.reads.now).design _ _ _ _ _ (arm_context (g.R.Reads.scene c.args.reads.now).design _ (tree.slide (head_of (head_in c.args.term.now)) (term_view c.args.of.now) (term_view c.args.base.now) (term_view c.args.count.now) c.args.up) c.requires.form c.requires.context)).operand)))

pub slide_term-slide-value-requires : goal.slide_term-slide-value-requires
slide_term-slide-value-requires g t c =
    let k = in_slide (g.R.Reads.scene c.args.reads.now).design _ _ _ _ _ (arm_context (g.R.Reads.scene c.args.reads.now).design _ (tree.slide (head_of (head_in c.args.term.now)) (term_view c.args.of.now) (term_view c.args.base.now) (term_view c.args.count.now) c.args.up) c.requires.form c.requires.context) in
    record {
      head = subst IsHead (sym c.of-head.ensures) (in_head (g.R.Reads.scene c.args.reads.now) c.args.term.now (ap head c.requires.form) c.requires.context);
      whole = constant_whole (g.R.Reads.scene c.args.reads.now) c.after.result.first (term_view c.args.count.now) c.evaluate-count.result.value k.fixed c.evaluate-count.ensures.value;
      count = subst (λ n. n ≤ 128) (sym (ap natural (constant_bits (g.R.Reads.scene c.args.reads.now) c.after.result.first (term_view c.args.count.now) c.evaluate-count.result.value k.fixed c.evaluate-count.ensures.value))) k.count;
    }

pub slide_term-finish-requires : goal.slide_term-finish-requires
slide_term-finish-requires g t c =
    let sb = next_value (g.R.Reads.scene c.args.reads.now) _ _ _ _ (ap (λ p. p.first) c.after.ensures ∙ c.evaluate-base.ensures.first) c.evaluate-count.ensures.value in
    let sc = next_value (g.R.Reads.scene c.args.reads.now) _ _ _ _ (ap (λ p. p.first) c.after-2.ensures ∙ two_first (g.R.Reads.scene c.args.reads.now) c.args.run.now.first (term_view c.args.base.now) (term_view c.args.count.now) c.evaluate-base.result.first _ c.evaluate-base.ensures.first (c.evaluate-count.ensures.first ∙ ap (λ o. first_after (g.R.Reads.scene c.args.reads.now) o (term_view c.args.count.now)) (ap (λ p. p.first) c.after.ensures))) c.evaluate-operand.ensures.value in
    let stands : Stands (g.R.Reads.scene c.args.reads.now) c.args.run.now.first (tree.slide (head_of (head_in c.args.term.now)) (term_view c.args.of.now) (term_view c.args.base.now) (term_view c.args.count.now) c.args.up) c.slide-value.result = subst (λ h. Stands (g.R.Reads.scene c.args.reads.now) c.args.run.now.first (tree.slide (head_of h) (term_view c.args.of.now) (term_view c.args.base.now) (term_view c.args.count.now) c.args.up) c.slide-value.result) c.of-head.ensures (c.slide-value.ensures (g.R.Reads.scene c.args.reads.now) c.args.run.now.first (term_view c.args.of.now) (term_view c.args.base.now) (term_view c.args.count.now) (sym c.range_of-range.ensures) c.evaluate-base.ensures.value sb sc) in
    record { width = length-stands (g.R.Reads.scene c.args.reads.now) c.args.run.now.first (tree.slide (head_of (head_in c.args.term.now)) (term_view c.args.of.now) (term_view c.args.base.now) (term_view c.args.count.now) c.args.up) c.slide-value.result stands; sign = stands.sign_is }

pub slide_term-returns : goal.slide_term-returns
slide_term-returns g t c =
    let sb = next_value (g.R.Reads.scene c.args.reads.now) _ _ _ _ (ap (λ p. p.first) c.after.ensures ∙ c.evaluate-base.ensures.first) c.evaluate-count.ensures.value in
    let sc = next_value (g.R.Reads.scene c.args.reads.now) _ _ _ _ (ap (λ p. p.first) c.after-2.ensures ∙ two_first (g.R.Reads.scene c.args.reads.now) c.args.run.now.first (term_view c.args.base.now) (term_view c.args.count.now) c.evaluate-base.result.first _ c.evaluate-base.ensures.first (c.evaluate-count.ensures.first ∙ ap (λ o. first_after (g.R.Reads.scene c.args.reads.now) o (term_view c.args.count.now)) (ap (λ p. p.first) c.after.ensures))) c.evaluate-operand.ensures.value in
    let stands : Stands (g.R.Reads.scene c.args.reads.now) c.args.run.now.first (tree.slide (head_of (head_in c.args.term.now)) (term_view c.args.of.now) (term_view c.args.base.now) (term_view c.args.count.now) c.args.up) c.slide-value.result = subst (λ h. Stands (g.R.Reads.scene c.args.reads.now) c.args.run.now.first (tree.slide (head_of h) (term_view c.args.of.now) (term_view c.args.base.now) (term_view c.args.count.now) c.args.up) c.slide-value.result) c.of-head.ensures (c.slide-value.ensures (g.R.Reads.scene c.args.reads.now) c.args.run.now.first (term_view c.args.of.now) (term_view c.args.base.now) (term_view c.args.count.now) (sym c.range_of-range.ensures) c.evaluate-base.ensures.value sb sc) in
    let second = rw c.after.ensures at c.evaluate-count.ensures.notes in
    let third = rw c.after-2.ensures at c.evaluate-operand.ensures.notes in
    walked_own g.N.Notes.noted (g.R.Reads.scene c.args.reads.now) c.args.term.now c.args.run.now _ _ _ _ _ _ (tree.slide (head_of (head_in c.args.term.now)) (term_view c.args.of.now) (term_view c.args.base.now) (term_view c.args.count.now) c.args.up) c.slide-value.result c.requires.form refl refl stands c.finish.ensures.value c.finish.ensures.small (c.finish.ensures.first ∙ three_first (g.R.Reads.scene c.args.reads.now) c.args.run.now.first (term_view c.args.base.now) (term_view c.args.count.now) (term_view c.args.of.now) c.evaluate-base.result.first c.evaluate-count.result.first _ c.evaluate-base.ensures.first (c.evaluate-count.ensures.first ∙ ap (λ o. first_after (g.R.Reads.scene c.args.reads.now) o (term_view c.args.count.now)) (ap (λ p. p.first) c.after.ensures)) (c.evaluate-operand.ensures.first ∙ ap (λ o. first_after (g.R.Reads.scene c.args.reads.now) o (term_view c.args.of.now)) (ap (λ p. p.first) c.after-2.ensures))) c.finish.ensures.mode (three_marks g.N.Notes.noted (g.R.Reads.scene c.args.reads.now) c.args.run.now.mode c.args.run.now.first (term_view c.args.base.now) (term_view c.args.count.now) (term_view c.args.of.now) c.evaluate-base.result.first c.evaluate-count.result.first _ _ _ _ c.evaluate-base.ensures.first (c.evaluate-count.ensures.first ∙ ap (λ o. first_after (g.R.Reads.scene c.args.reads.now) o (term_view c.args.count.now)) (ap (λ p. p.first) c.after.ensures)) c.evaluate-base.ensures.notes second third) c.finish.ensures.notes

-- ---- a word

pub word_term-words-words-requires : goal.word_term-words-words-requires
word_term-words-words-requires g t c = (in_word (g.R.Reads.scene c.args.reads.now).design _ _ _ (arm_context (g.R.Reads.scene c.args.reads.now).design _ (tree.word (head_of (head_in c.args.term.now)) c.args.memory (term_view c.args.index.now)) c.requires.form c.requires.context)).is

pub word_term-word-read-requires : goal.word_term-word-read-requires
word_term-word-read-requires g t c = (in_word (g.R.Reads.scene c.args.reads.now).design _ _ _ (arm_context (g.R.Reads.scene c.args.reads.now).design _ (tree.word (head_of (head_in c.args.term.now)) c.args.memory (term_view c.args.index.now)) c.requires.form c.requires.context)).is

pub word_term-evaluate-index-requires : goal.word_term-evaluate-index-requires
word_term-evaluate-index-requires g t c =
    λ κs h. (search (rules, the_lemmas), (h.0, (h.1, (in_word (g.R.Reads.scene c.args.reads.now).design _ _ _ (arm_context (g.R.Reads.scene c.args.reads.now).design _ (tree.word (head_of (head_in c.args.term.now)) c.args.memory (term_view c.args.index.now)) c.requires.form c.requires.context)).index)))

pub word_term-fitted-value-requires : goal.word_term-fitted-value-requires
word_term-fitted-value-requires g t c = subst IsHead (sym c.of.ensures) (in_head (g.R.Reads.scene c.args.reads.now) c.args.term.now (ap head c.requires.form) c.requires.context)

pub word_term-finish-requires : goal.word_term-finish-requires
word_term-finish-requires g t c =
    let stands : Stands (g.R.Reads.scene c.args.reads.now) c.args.run.now.first (tree.word (head_of (head_in c.args.term.now)) c.args.memory (term_view c.args.index.now)) c.fitted-value.result = word_stands (g.R.Reads.scene c.args.reads.now) c.args.run.now.first (term_view c.args.index.now) c.evaluate-index.result.value c.evaluate-index.ensures.value c.args.memory (head_in c.args.term.now) c.evaluate-index.result.first c.word-read.result c.fitted-value.result c.evaluate-index.ensures.first c.word-read.ensures.bits c.word-read.ensures.blame (subst (λ h. Fitted h c.word-read.result c.fitted-value.result) c.of.ensures c.fitted-value.ensures) in
    record { width = length-stands (g.R.Reads.scene c.args.reads.now) c.args.run.now.first (tree.word (head_of (head_in c.args.term.now)) c.args.memory (term_view c.args.index.now)) c.fitted-value.result stands; sign = stands.sign_is }

pub word_term-returns : goal.word_term-returns
word_term-returns g t c =
    let stands : Stands (g.R.Reads.scene c.args.reads.now) c.args.run.now.first (tree.word (head_of (head_in c.args.term.now)) c.args.memory (term_view c.args.index.now)) c.fitted-value.result = word_stands (g.R.Reads.scene c.args.reads.now) c.args.run.now.first (term_view c.args.index.now) c.evaluate-index.result.value c.evaluate-index.ensures.value c.args.memory (head_in c.args.term.now) c.evaluate-index.result.first c.word-read.result c.fitted-value.result c.evaluate-index.ensures.first c.word-read.ensures.bits c.word-read.ensures.blame (subst (λ h. Fitted h c.word-read.result c.fitted-value.result) c.of.ensures c.fitted-value.ensures) in
    let at = access_spot Read c.args.memory in
    let named = adds_same g.N.Notes.noted _ _ _ _ (ap (in_this c.args.run.now.mode) (words_same (g.R.Reads.scene c.args.reads.now) c.args.run.now.first (term_view c.args.index.now) c.evaluate-index.result.value c.evaluate-index.ensures.value c.args.memory at)) (c.note_words.ensures (memory_at (g.R.Reads.scene c.args.reads.now).design c.args.memory) (words_of_range c.words-words.result (memory_at (g.R.Reads.scene c.args.reads.now).design c.args.memory) c.words-words.ensures)) in
    walked_own g.N.Notes.noted (g.R.Reads.scene c.args.reads.now) c.args.term.now c.args.run.now _ _ _ _ _ _ (tree.word (head_of (head_in c.args.term.now)) c.args.memory (term_view c.args.index.now)) c.fitted-value.result c.requires.form refl refl stands c.finish.ensures.value c.finish.ensures.small (c.finish.ensures.first ∙ c.noted-first.ensures ∙ noted_is c.word-read.result _ _ c.evaluate-index.result.first (c.word-read.ensures.bits ∙ read_is (g.R.Reads.scene c.args.reads.now) c.args.run.now.first (term_view c.args.index.now) c.evaluate-index.result.value c.evaluate-index.ensures.value c.args.memory) (λ u. c.word-read.ensures.blame u ∙ thing_is (g.R.Reads.scene c.args.reads.now) c.args.run.now.first (term_view c.args.index.now) c.evaluate-index.result.value c.evaluate-index.ensures.value c.args.memory c.evaluate-index.result.first c.evaluate-index.ensures.first) ∙ ap (note _ _) c.evaluate-index.ensures.first) c.finish.ensures.mode (adds_more g.N.Notes.noted c.args.run.now.mode _ _ _ _ _ c.evaluate-index.ensures.notes named) c.finish.ensures.notes

-- ---- an operator with one operand

pub unary_term-walk-number-requires : goal.unary_term-walk-number-requires
unary_term-walk-number-requires g t c =
    λ κs h. (search (rules, the_lemmas), (h.0, (h.1, in_unary (g.R.Reads.scene c.args.reads.now).design _ _ _ (arm_context (g.R.Reads.scene c.args.reads.now).design _ (tree.unary (head_of (head_in c.args.term.now)) c.args.op (term_view c.args.operand.now)) c.requires.form c.requires.context))))

pub unary_term-after_operand-number-requires : goal.unary_term-after_operand-number-requires
unary_term-after_operand-number-requires g t c =
    record { head = in_head (g.R.Reads.scene c.args.reads.now) c.args.term.now (ap head c.requires.form) c.requires.context; operand = in_head (g.R.Reads.scene c.args.reads.now) c.args.operand.now c.walk-number.ensures.top (in_unary (g.R.Reads.scene c.args.reads.now).design _ _ _ (arm_context (g.R.Reads.scene c.args.reads.now).design _ (tree.unary (head_of (head_in c.args.term.now)) c.args.op (term_view c.args.operand.now)) c.requires.form c.requires.context)); small = c.walk-number.ensures.small }

pub unary_term-note_value-requires : goal.unary_term-note_value-requires
unary_term-note_value-requires g t c = c.after_operand-number.ensures.small

pub unary_term-returns : goal.unary_term-returns
unary_term-returns g t c =
    let w = c.walk-number.ensures in
    let own = other_mode g.N.Notes.noted (g.R.Reads.scene c.args.reads.now) _ _ _ _ _ w.mode c.note_value.ensures in
    walked_own g.N.Notes.noted (g.R.Reads.scene c.args.reads.now) c.args.term.now c.args.run.now _ _ _ _ _ _ (tree.unary (head_of (head_in c.args.term.now)) c.args.op (term_view c.args.operand.now)) _ c.requires.form refl refl (c.after_operand-number.ensures.value (g.R.Reads.scene c.args.reads.now) c.args.run.now.first (term_view c.args.operand.now) w.value) refl c.after_operand-number.ensures.small w.first w.mode w.notes own

-- ---- an operator with two operands

pub binary_term-walk-one-requires : goal.binary_term-walk-one-requires
binary_term-walk-one-requires g t c =
    λ κs h. (search (rules, the_lemmas), (h.0, (h.1, (in_binary (g.R.Reads.scene c.args.reads.now).design (head_of (head_in c.args.term.now)) c.args.op (term_view c.args.left.now) (term_view c.args.right.now) (arm_context (g.R.Reads.scene c.args.reads.now).design _ (tree.binary (head_of (head_in c.args.term.now)) c.args.op (term_view c.args.left.now) (term_view c.args.right.now)) c.requires.form c.requires.context)).left)))

pub binary_term-walk-two-requires : goal.binary_term-walk-two-requires
binary_term-walk-two-requires g t c =
    λ κs h. (search (rules, the_lemmas), (h.0, (h.1, (in_binary (g.R.Reads.scene c.args.reads.now).design (head_of (head_in c.args.term.now)) c.args.op (term_view c.args.left.now) (term_view c.args.right.now) (arm_context (g.R.Reads.scene c.args.reads.now).design _ (tree.binary (head_of (head_in c.args.term.now)) c.args.op (term_view c.args.left.now) (term_view c.args.right.now)) c.requires.form c.requires.context)).right)))

pub binary_term-after_both-requires : goal.binary_term-after_both-requires
binary_term-after_both-requires g t c =
    let k = in_binary (g.R.Reads.scene c.args.reads.now).design (head_of (head_in c.args.term.now)) c.args.op (term_view c.args.left.now) (term_view c.args.right.now) (arm_context (g.R.Reads.scene c.args.reads.now).design _ (tree.binary (head_of (head_in c.args.term.now)) c.args.op (term_view c.args.left.now) (term_view c.args.right.now)) c.requires.form c.requires.context) in
    record {
      head = in_head (g.R.Reads.scene c.args.reads.now) c.args.term.now (ap head c.requires.form) c.requires.context;
      left = in_head (g.R.Reads.scene c.args.reads.now) c.args.left.now c.walk-one.ensures.top k.left;
      right = in_head (g.R.Reads.scene c.args.reads.now) c.args.right.now c.walk-two.ensures.top k.right;
      one = c.walk-one.ensures.small;
      two = c.walk-two.ensures.small;
      operands = on_true (takes_same_shape c.args.op) (λ e. same_shapes (g.R.Reads.scene c.args.reads.now).design (g.R.Reads.scene c.args.reads.now) _ _ (term_view c.args.left.now) (term_view c.args.right.now) _ _ k.left k.right (k.one_shape e).0 (k.one_shape e).1 c.walk-one.ensures.value c.walk-two.ensures.value);
    }

pub binary_term-returns : goal.binary_term-returns
binary_term-returns g t c =
    let w = c.walk-one.ensures in
    let z = c.walk-two.ensures in
    let later = second_value g.N.Notes.noted (g.R.Reads.scene c.args.reads.now) c.args.left.now c.args.right.now c.args.run.now _ _ _ _ _ _ _ _ _ w z in
    let mode = second_mode g.N.Notes.noted (g.R.Reads.scene c.args.reads.now) c.args.left.now c.args.right.now c.args.run.now _ _ _ _ _ _ _ _ _ w z in
    let own = other_mode g.N.Notes.noted (g.R.Reads.scene c.args.reads.now) _ _ _ _ _ mode c.after_both.ensures.notes in
    walked_two g.N.Notes.noted (g.R.Reads.scene c.args.reads.now) c.args.term.now c.args.run.now _ _ _ _ _ _ c.args.op (term_view c.args.left.now) (term_view c.args.right.now) _ _ c.requires.form w.value later (c.after_both.ensures.value (g.R.Reads.scene c.args.reads.now) c.args.run.now.first (term_view c.args.left.now) (term_view c.args.right.now) w.value later) c.after_both.ensures.small (second_first g.N.Notes.noted (g.R.Reads.scene c.args.reads.now) c.args.left.now c.args.right.now c.args.run.now _ _ _ _ _ _ _ _ _ w z) mode (second_notes g.N.Notes.noted (g.R.Reads.scene c.args.reads.now) c.args.left.now c.args.right.now c.args.run.now _ _ _ _ _ _ _ _ _ w z) own

-- ---- a choice

pub choice_term-walk-by-requires : goal.choice_term-walk-by-requires
choice_term-walk-by-requires g t c =
    λ κs h. (search (rules, the_lemmas), (h.0, (h.1, (in_choice (g.R.Reads.scene c.args.reads.now).design _ _ _ _ (arm_context (g.R.Reads.scene c.args.reads.now).design _ (tree.choice (head_of (head_in c.args.term.now)) (term_view c.args.test.now) (term_view c.args.yes.now) (term_view c.args.no.now)) c.requires.form c.requires.context)).0)))

pub choice_term-walk-one-requires : goal.choice_term-walk-one-requires
choice_term-walk-one-requires g t c =
    λ κs h. (search (rules, the_lemmas), (h.0, (h.1, (in_choice (g.R.Reads.scene c.args.reads.now).design _ _ _ _ (arm_context (g.R.Reads.scene c.args.reads.now).design _ (tree.choice (head_of (head_in c.args.term.now)) (term_view c.args.test.now) (term_view c.args.yes.now) (term_view c.args.no.now)) c.requires.form c.requires.context)).1.left)))

pub choice_term-walk-two-requires : goal.choice_term-walk-two-requires
choice_term-walk-two-requires g t c =
    λ κs h. (search (rules, the_lemmas), (h.0, (h.1, (in_choice (g.R.Reads.scene c.args.reads.now).design _ _ _ _ (arm_context (g.R.Reads.scene c.args.reads.now).design _ (tree.choice (head_of (head_in c.args.term.now)) (term_view c.args.test.now) (term_view c.args.yes.now) (term_view c.args.no.now)) c.requires.form c.requires.context)).1.right)))

pub choice_term-after_sides-number-requires : goal.choice_term-after_sides-number-requires
choice_term-after_sides-number-requires g t c =
    let k = in_choice (g.R.Reads.scene c.args.reads.now).design _ _ _ _ (arm_context (g.R.Reads.scene c.args.reads.now).design _ (tree.choice (head_of (head_in c.args.term.now)) (term_view c.args.test.now) (term_view c.args.yes.now) (term_view c.args.no.now)) c.requires.form c.requires.context) in
    let heads = choice_heads (g.R.Reads.scene c.args.reads.now).design _ _ _ _ (arm_context (g.R.Reads.scene c.args.reads.now).design _ (tree.choice (head_of (head_in c.args.term.now)) (term_view c.args.test.now) (term_view c.args.yes.now) (term_view c.args.no.now)) c.requires.form c.requires.context) in
    let wide = sym (ap (λ h. h.width) c.walk-one.ensures.top) ∙ heads.0.width in
    let sign = sym (ap (λ h. h.signed) c.walk-one.ensures.top) ∙ heads.0.sign_is in
    let wide_no = sym (ap (λ h. h.width) c.walk-two.ensures.top) ∙ heads.1.width in
    let sign_no = sym (ap (λ h. h.signed) c.walk-two.ensures.top) ∙ heads.1.sign_is in
    let one = held_same (head_in c.args.yes.now) (head_in c.args.term.now) c.walk-one.result c.walk-one.new.place wide sign in
    let two = held_same (head_in c.args.no.now) (head_in c.args.term.now) c.walk-two.result c.walk-two.new.place wide_no sign_no in
    record {
      head = in_head (g.R.Reads.scene c.args.reads.now) c.args.term.now (ap head c.requires.form) c.requires.context;
      test = in_head (g.R.Reads.scene c.args.reads.now) c.args.test.now c.walk-by.ensures.top k.0;
      by = c.walk-by.ensures.small;
      one = small_same (head_in c.args.yes.now) (head_in c.args.term.now) c.walk-one.result wide c.walk-one.ensures.small;
      two = small_same (head_in c.args.no.now) (head_in c.args.term.now) c.walk-two.result wide_no c.walk-two.ensures.small;
      sides = subst (λ p. HaveSameShape p (held (head_in c.args.term.now) c.walk-two.result c.walk-two.new.place)) one (subst (λ q. HaveSameShape (held (head_in c.args.yes.now) c.walk-one.result c.walk-one.new.place) q) two (same_shapes (g.R.Reads.scene c.args.reads.now).design (g.R.Reads.scene c.args.reads.now) _ _ (term_view c.args.yes.now) (term_view c.args.no.now) _ _ k.1.left k.1.right (k.1.one_shape refl).0 (k.1.one_shape refl).1 c.walk-one.ensures.value c.walk-two.ensures.value));
    }

pub choice_term-note_value-requires : goal.choice_term-note_value-requires
choice_term-note_value-requires g t c = c.after_sides-number.ensures.small

pub choice_term-returns : goal.choice_term-returns
choice_term-returns g t c =
    let b = c.walk-by.ensures in
    let w = c.walk-one.ensures in
    let z = c.walk-two.ensures in
    let mode = third_mode g.N.Notes.noted (g.R.Reads.scene c.args.reads.now) c.args.test.now c.args.yes.now c.args.run.now _ _ _ _ _ _ _ _ _ b w c.args.no.now _ _ _ _ z in
    let heads = choice_heads (g.R.Reads.scene c.args.reads.now).design _ _ _ _ (arm_context (g.R.Reads.scene c.args.reads.now).design _ (tree.choice (head_of (head_in c.args.term.now)) (term_view c.args.test.now) (term_view c.args.yes.now) (term_view c.args.no.now)) c.requires.form c.requires.context) in
    let wide = sym (ap (λ h. h.width) c.walk-one.ensures.top) ∙ heads.0.width in
    let sign = sym (ap (λ h. h.signed) c.walk-one.ensures.top) ∙ heads.0.sign_is in
    let wide_no = sym (ap (λ h. h.width) c.walk-two.ensures.top) ∙ heads.1.width in
    let sign_no = sym (ap (λ h. h.signed) c.walk-two.ensures.top) ∙ heads.1.sign_is in
    let one = held_same (head_in c.args.yes.now) (head_in c.args.term.now) c.walk-one.result c.walk-one.new.place wide sign in
    let two = held_same (head_in c.args.no.now) (head_in c.args.term.now) c.walk-two.result c.walk-two.new.place wide_no sign_no in
    let own = other_mode g.N.Notes.noted (g.R.Reads.scene c.args.reads.now) _ _ _ _ _ mode c.note_value.ensures in
    let yes = subst (Stands (g.R.Reads.scene c.args.reads.now) _ (term_view c.args.yes.now)) one (second_value g.N.Notes.noted (g.R.Reads.scene c.args.reads.now) c.args.test.now c.args.yes.now c.args.run.now _ _ _ _ _ _ _ _ _ b w) in
    let no = subst (Stands (g.R.Reads.scene c.args.reads.now) _ (term_view c.args.no.now)) two (third_value g.N.Notes.noted (g.R.Reads.scene c.args.reads.now) c.args.test.now c.args.yes.now c.args.run.now _ _ _ _ _ _ _ _ _ b w c.args.no.now _ _ _ _ z) in
    walked_own g.N.Notes.noted (g.R.Reads.scene c.args.reads.now) c.args.term.now c.args.run.now _ _ _ _ _ _ (tree.choice (head_of (head_in c.args.term.now)) (term_view c.args.test.now) (term_view c.args.yes.now) (term_view c.args.no.now)) _ c.requires.form refl refl (c.after_sides-number.ensures.value (g.R.Reads.scene c.args.reads.now) c.args.run.now.first (term_view c.args.test.now) (term_view c.args.yes.now) (term_view c.args.no.now) b.value yes no) refl c.after_sides-number.ensures.small (third_first g.N.Notes.noted (g.R.Reads.scene c.args.reads.now) c.args.test.now c.args.yes.now c.args.run.now _ _ _ _ _ _ _ _ _ b w c.args.no.now _ _ _ _ z) mode (third_notes g.N.Notes.noted (g.R.Reads.scene c.args.reads.now) c.args.test.now c.args.yes.now c.args.run.now _ _ _ _ _ _ _ _ _ b w c.args.no.now _ _ _ _ z) own

-- ---- a sign

pub sign_term-evaluate-operand-requires : goal.sign_term-evaluate-operand-requires
sign_term-evaluate-operand-requires g t c =
    λ κs h. (search (rules, the_lemmas), (h.0, (h.1, in_sign (g.R.Reads.scene c.args.reads.now).design _ _ _ (arm_context (g.R.Reads.scene c.args.reads.now).design _ (tree.sign (head_of (head_in c.args.term.now)) c.requires.form.signed (term_view c.args.operand.now)) c.requires.form.is c.requires.context))))

pub sign_term-sign-value-requires : goal.sign_term-sign-value-requires
sign_term-sign-value-requires g t c = subst IsHead (sym c.of.ensures) (in_head (g.R.Reads.scene c.args.reads.now) c.args.term.now (ap head c.requires.form.is) c.requires.context)

pub sign_term-finish-requires : goal.sign_term-finish-requires
sign_term-finish-requires g t c =
    let stands : Stands (g.R.Reads.scene c.args.reads.now) c.args.run.now.first (tree.sign (head_of (head_in c.args.term.now)) c.requires.form.signed (term_view c.args.operand.now)) c.sign-value.result = subst (λ h. Stands (g.R.Reads.scene c.args.reads.now) c.args.run.now.first (tree.sign (head_of h) c.requires.form.signed (term_view c.args.operand.now)) c.sign-value.result) c.of.ensures (c.sign-value.ensures (g.R.Reads.scene c.args.reads.now) c.args.run.now.first (term_view c.args.operand.now) c.requires.form.signed c.evaluate-operand.ensures.value) in
    record { width = length-stands (g.R.Reads.scene c.args.reads.now) c.args.run.now.first (tree.sign (head_of (head_in c.args.term.now)) c.requires.form.signed (term_view c.args.operand.now)) c.sign-value.result stands; sign = stands.sign_is }

pub sign_term-returns : goal.sign_term-returns
sign_term-returns g t c =
    let stands : Stands (g.R.Reads.scene c.args.reads.now) c.args.run.now.first (tree.sign (head_of (head_in c.args.term.now)) c.requires.form.signed (term_view c.args.operand.now)) c.sign-value.result = subst (λ h. Stands (g.R.Reads.scene c.args.reads.now) c.args.run.now.first (tree.sign (head_of h) c.requires.form.signed (term_view c.args.operand.now)) c.sign-value.result) c.of.ensures (c.sign-value.ensures (g.R.Reads.scene c.args.reads.now) c.args.run.now.first (term_view c.args.operand.now) c.requires.form.signed c.evaluate-operand.ensures.value) in
    walked_own g.N.Notes.noted (g.R.Reads.scene c.args.reads.now) c.args.term.now c.args.run.now _ _ _ _ _ _ (tree.sign (head_of (head_in c.args.term.now)) c.requires.form.signed (term_view c.args.operand.now)) c.sign-value.result c.requires.form.is refl refl stands c.finish.ensures.value c.finish.ensures.small (c.finish.ensures.first ∙ c.evaluate-operand.ensures.first) c.finish.ensures.mode c.evaluate-operand.ensures.notes c.finish.ensures.notes

-- ---- concatenations

pub concat_term-join_all-all-requires : goal.concat_term-join_all-all-requires
concat_term-join_all-all-requires g t c =
    let side = in_concat (g.R.Reads.scene c.args.reads.now).design (head_of (head_in c.args.term.now)) (terms_of (map term_view c.args.parts.now)) (arm_context (g.R.Reads.scene c.args.reads.now).design _ (tree.concat (head_of (head_in c.args.term.now)) (terms_of (map term_view c.args.parts.now))) c.requires.form c.requires.context) in
    λ κs h. (search (rules, the_lemmas), (h.0, (h.1, side.alone)))

pub concat_term-concat-value-requires : goal.concat_term-concat-value-requires
concat_term-concat-value-requires g t c =
    let side = in_concat (g.R.Reads.scene c.args.reads.now).design (head_of (head_in c.args.term.now)) (terms_of (map term_view c.args.parts.now)) (arm_context (g.R.Reads.scene c.args.reads.now).design _ (tree.concat (head_of (head_in c.args.term.now)) (terms_of (map term_view c.args.parts.now))) c.requires.form c.requires.context) in
    let joined = c.join_all-all.ensures.value side.narrow in
    let size : length (so_far c.join_all-all.result.value).bits ≡ own_widths (g.R.Reads.scene c.args.reads.now).design (terms_of (map term_view c.args.parts.now)) = ap length joined.bits ∙ length-joined (g.R.Reads.scene c.args.reads.now).design (g.R.Reads.scene c.args.reads.now).kept (terms_of (map term_view c.args.parts.now)) side.alone in
    record { head = subst IsHead (sym c.of.ensures) (in_head (g.R.Reads.scene c.args.reads.now) c.args.term.now (ap head c.requires.form) c.requires.context); room = omega (arith, size, side.narrow) }

pub concat_term-finish-requires : goal.concat_term-finish-requires
concat_term-finish-requires g t c =
    let side = in_concat (g.R.Reads.scene c.args.reads.now).design (head_of (head_in c.args.term.now)) (terms_of (map term_view c.args.parts.now)) (arm_context (g.R.Reads.scene c.args.reads.now).design _ (tree.concat (head_of (head_in c.args.term.now)) (terms_of (map term_view c.args.parts.now))) c.requires.form c.requires.context) in
    let stands : Stands (g.R.Reads.scene c.args.reads.now) c.args.run.now.first (tree.concat (head_of (head_in c.args.term.now)) (terms_of (map term_view c.args.parts.now))) c.concat-value.result = concat_stands (g.R.Reads.scene c.args.reads.now) c.args.run.now.first (head_in c.args.term.now) (terms_of (map term_view c.args.parts.now)) (so_far c.join_all-all.result.value) c.concat-value.result (c.join_all-all.ensures.value side.narrow) (subst (λ h. Fitted h (copied 1 (so_far c.join_all-all.result.value)) c.concat-value.result) c.of.ensures c.concat-value.ensures) in
    record { width = length-stands (g.R.Reads.scene c.args.reads.now) c.args.run.now.first (tree.concat (head_of (head_in c.args.term.now)) (terms_of (map term_view c.args.parts.now))) c.concat-value.result stands; sign = stands.sign_is }

pub concat_term-returns : goal.concat_term-returns
concat_term-returns g t c =
    let side = in_concat (g.R.Reads.scene c.args.reads.now).design (head_of (head_in c.args.term.now)) (terms_of (map term_view c.args.parts.now)) (arm_context (g.R.Reads.scene c.args.reads.now).design _ (tree.concat (head_of (head_in c.args.term.now)) (terms_of (map term_view c.args.parts.now))) c.requires.form c.requires.context) in
    let stands : Stands (g.R.Reads.scene c.args.reads.now) c.args.run.now.first (tree.concat (head_of (head_in c.args.term.now)) (terms_of (map term_view c.args.parts.now))) c.concat-value.result = concat_stands (g.R.Reads.scene c.args.reads.now) c.args.run.now.first (head_in c.args.term.now) (terms_of (map term_view c.args.parts.now)) (so_far c.join_all-all.result.value) c.concat-value.result (c.join_all-all.ensures.value side.narrow) (subst (λ h. Fitted h (copied 1 (so_far c.join_all-all.result.value)) c.concat-value.result) c.of.ensures c.concat-value.ensures) in
    walked_own g.N.Notes.noted (g.R.Reads.scene c.args.reads.now) c.args.term.now c.args.run.now _ _ _ _ _ _ (tree.concat (head_of (head_in c.args.term.now)) (terms_of (map term_view c.args.parts.now))) c.concat-value.result c.requires.form refl refl stands c.finish.ensures.value c.finish.ensures.small (c.finish.ensures.first ∙ c.join_all-all.ensures.first) c.finish.ensures.mode c.join_all-all.ensures.notes c.finish.ensures.notes

pub repeat_term-evaluate-count-requires : goal.repeat_term-evaluate-count-requires
repeat_term-evaluate-count-requires g t c =
    let k = in_repeat (g.R.Reads.scene c.args.reads.now).design (head_of (head_in c.args.term.now)) (term_view c.args.count.now) (terms_of (map term_view c.args.parts.now)) (arm_context (g.R.Reads.scene c.args.reads.now).design _ (tree.repeat (head_of (head_in c.args.term.now)) (term_view c.args.count.now) (terms_of (map term_view c.args.parts.now))) c.requires.form c.requires.context) in
    λ κs h. (search (rules, the_lemmas), (h.0, (h.1, k.count)))

pub repeat_term-join_all-all-requires : goal.repeat_term-join_all-all-requires
repeat_term-join_all-all-requires g t c =
    let k = in_repeat (g.R.Reads.scene c.args.reads.now).design (head_of (head_in c.args.term.now)) (term_view c.args.count.now) (terms_of (map term_view c.args.parts.now)) (arm_context (g.R.Reads.scene c.args.reads.now).design _ (tree.repeat (head_of (head_in c.args.term.now)) (term_view c.args.count.now) (terms_of (map term_view c.args.parts.now))) c.requires.form c.requires.context) in
    λ κs h. (search (rules, the_lemmas), (h.0, (h.1, k.parts)))

pub repeat_term-concat-value-requires : goal.repeat_term-concat-value-requires
repeat_term-concat-value-requires g t c =
    let k = in_repeat (g.R.Reads.scene c.args.reads.now).design (head_of (head_in c.args.term.now)) (term_view c.args.count.now) (terms_of (map term_view c.args.parts.now)) (arm_context (g.R.Reads.scene c.args.reads.now).design _ (tree.repeat (head_of (head_in c.args.term.now)) (term_view c.args.count.now) (terms_of (map term_view c.args.parts.now))) c.requires.form c.requires.context) in
    let all = rw (c.after.ensures, c.evaluate-count.ensures.first) at c.join_all-all.ensures.value in
    let times : c.whole_count-times.result ≡ min (natural (value (g.R.Reads.scene c.args.reads.now).design blank (term_view c.args.count.now))) 128 = c.whole_count-times.ensures ∙ ap (λ bs. min (natural bs) 128) (constant_bits (g.R.Reads.scene c.args.reads.now) c.args.run.now.first (term_view c.args.count.now) c.evaluate-count.result.value k.fixed c.evaluate-count.ensures.value) in
    record { head = subst IsHead (sym c.of.ensures) (in_head (g.R.Reads.scene c.args.reads.now) c.args.term.now (ap head c.requires.form) c.requires.context); room = subst (λ m. length (so_far c.join_all-all.result.value).bits * m ≤ 128) (sym times) (room_for_all (g.R.Reads.scene c.args.reads.now) _ (terms_of (map term_view c.args.parts.now)) (natural (value (g.R.Reads.scene c.args.reads.now).design blank (term_view c.args.count.now))) (so_far c.join_all-all.result.value) k.parts k.room all) }

pub repeat_term-finish-requires : goal.repeat_term-finish-requires
repeat_term-finish-requires g t c =
    let k = in_repeat (g.R.Reads.scene c.args.reads.now).design (head_of (head_in c.args.term.now)) (term_view c.args.count.now) (terms_of (map term_view c.args.parts.now)) (arm_context (g.R.Reads.scene c.args.reads.now).design _ (tree.repeat (head_of (head_in c.args.term.now)) (term_view c.args.count.now) (terms_of (map term_view c.args.parts.now))) c.requires.form c.requires.context) in
    let all = rw (c.after.ensures, c.evaluate-count.ensures.first) at c.join_all-all.ensures.value in
    let times : c.whole_count-times.result ≡ min (natural (value (g.R.Reads.scene c.args.reads.now).design blank (term_view c.args.count.now))) 128 = c.whole_count-times.ensures ∙ ap (λ bs. min (natural bs) 128) (constant_bits (g.R.Reads.scene c.args.reads.now) c.args.run.now.first (term_view c.args.count.now) c.evaluate-count.result.value k.fixed c.evaluate-count.ensures.value) in
    let stands : Stands (g.R.Reads.scene c.args.reads.now) c.args.run.now.first (tree.repeat (head_of (head_in c.args.term.now)) (term_view c.args.count.now) (terms_of (map term_view c.args.parts.now))) c.concat-value.result = repeat_all (g.R.Reads.scene c.args.reads.now) c.args.run.now.first (head_in c.args.term.now) (term_view c.args.count.now) (terms_of (map term_view c.args.parts.now)) (value (g.R.Reads.scene c.args.reads.now).design blank (term_view c.args.count.now)) c.evaluate-count.result.value (so_far c.join_all-all.result.value) c.concat-value.result c.evaluate-count.ensures.value (bits_are (g.R.Reads.scene c.args.reads.now) c.args.run.now.first (term_view c.args.count.now) c.evaluate-count.result.value k.fixed c.evaluate-count.ensures.value) k.parts k.room all (subst (λ m. Fitted (head_in c.args.term.now) (copied m (so_far c.join_all-all.result.value)) c.concat-value.result) times (subst (λ h. Fitted h (copied c.whole_count-times.result (so_far c.join_all-all.result.value)) c.concat-value.result) c.of.ensures c.concat-value.ensures)) in
    record { width = length-stands (g.R.Reads.scene c.args.reads.now) c.args.run.now.first (tree.repeat (head_of (head_in c.args.term.now)) (term_view c.args.count.now) (terms_of (map term_view c.args.parts.now))) c.concat-value.result stands; sign = stands.sign_is }

pub repeat_term-returns : goal.repeat_term-returns
repeat_term-returns g t c =
    let k = in_repeat (g.R.Reads.scene c.args.reads.now).design (head_of (head_in c.args.term.now)) (term_view c.args.count.now) (terms_of (map term_view c.args.parts.now)) (arm_context (g.R.Reads.scene c.args.reads.now).design _ (tree.repeat (head_of (head_in c.args.term.now)) (term_view c.args.count.now) (terms_of (map term_view c.args.parts.now))) c.requires.form c.requires.context) in
    let all = rw (c.after.ensures, c.evaluate-count.ensures.first) at c.join_all-all.ensures.value in
    let times : c.whole_count-times.result ≡ min (natural (value (g.R.Reads.scene c.args.reads.now).design blank (term_view c.args.count.now))) 128 = c.whole_count-times.ensures ∙ ap (λ bs. min (natural bs) 128) (constant_bits (g.R.Reads.scene c.args.reads.now) c.args.run.now.first (term_view c.args.count.now) c.evaluate-count.result.value k.fixed c.evaluate-count.ensures.value) in
    let stands : Stands (g.R.Reads.scene c.args.reads.now) c.args.run.now.first (tree.repeat (head_of (head_in c.args.term.now)) (term_view c.args.count.now) (terms_of (map term_view c.args.parts.now))) c.concat-value.result = repeat_all (g.R.Reads.scene c.args.reads.now) c.args.run.now.first (head_in c.args.term.now) (term_view c.args.count.now) (terms_of (map term_view c.args.parts.now)) (value (g.R.Reads.scene c.args.reads.now).design blank (term_view c.args.count.now)) c.evaluate-count.result.value (so_far c.join_all-all.result.value) c.concat-value.result c.evaluate-count.ensures.value (bits_are (g.R.Reads.scene c.args.reads.now) c.args.run.now.first (term_view c.args.count.now) c.evaluate-count.result.value k.fixed c.evaluate-count.ensures.value) k.parts k.room all (subst (λ m. Fitted (head_in c.args.term.now) (copied m (so_far c.join_all-all.result.value)) c.concat-value.result) times (subst (λ h. Fitted h (copied c.whole_count-times.result (so_far c.join_all-all.result.value)) c.concat-value.result) c.of.ensures c.concat-value.ensures)) in
    let first = rw (c.after.ensures, c.evaluate-count.ensures.first) at c.join_all-all.ensures.first in
    let notes = rw (c.after.ensures, c.evaluate-count.ensures.first) at c.join_all-all.ensures.notes in
    walked_own g.N.Notes.noted (g.R.Reads.scene c.args.reads.now) c.args.term.now c.args.run.now _ _ _ _ _ _ (tree.repeat (head_of (head_in c.args.term.now)) (term_view c.args.count.now) (terms_of (map term_view c.args.parts.now))) c.concat-value.result c.requires.form refl refl stands c.finish.ensures.value c.finish.ensures.small (c.finish.ensures.first ∙ first) c.finish.ensures.mode (adds_more g.N.Notes.noted c.args.run.now.mode _ _ _ _ _ c.evaluate-count.ensures.notes notes) c.finish.ensures.notes

-- ---- terms side by side

pub join_all-loop-part-init : goal.join_all-loop-part-init
join_all-loop-part-init g t c =
    record { alone = c.requires; value = λ narrow. goes_start (g.R.Reads.scene c.args.reads.now) c.args.run.first (terms_of (map term_view c.args.parts.now)); first = refl; notes = tells_start g.N.Notes.noted c.args.run.mode c.args.notes.now (all_marks (g.R.Reads.scene c.args.reads.now) c.args.run.first (terms_of (map term_view c.args.parts.now))) }

pub join_all-evaluate-part-requires : goal.join_all-evaluate-part-requires
join_all-evaluate-part-requires g t c =
    let x = c.part-item.result in
    let next = terms_from c.args.parts.now c.loop-part.part-index x c.loop-part-test.true c.part-item.is in
    let both = and_parts _ _ (ap (are_alone (g.R.Reads.scene c.args.reads.now).design) (sym next) ∙ c.loop-part.invariant.alone) in
    λ κs h. (search (rules, the_lemmas), (h.0, (h.1, alone (g.R.Reads.scene c.args.reads.now).design (term_view x) both.0)))

pub join_all-loop-part-preserved : goal.join_all-loop-part-preserved
join_all-loop-part-preserved g t c =
    let v = (g.R.Reads.scene c.args.reads.now) in
    let h = c.loop-part.invariant in
    let x = c.part-item.result in
    let next = terms_from c.args.parts.now c.loop-part.part-index x c.loop-part-test.true c.part-item.is in
    let whole = rw c.after.ensures at c.evaluate-part.ensures.value in
    let first = rw c.after.ensures at c.evaluate-part.ensures.first in
    let notes = rw c.after.ensures at c.evaluate-part.ensures.notes in
    record {
      alone = (and_parts _ _ (ap (are_alone v.design) (sym next) ∙ h.alone)).1;
      value = λ narrow.
          let g0 = subst (λ ts. GoesOn v c.args.run.first (terms_of (map term_view c.args.parts.now)) c.loop-part.all.first ts (so_far c.loop-part.all.value)) next (h.value narrow) in
          let room = room_left v c.args.run.first (terms_of (map term_view c.args.parts.now)) c.loop-part.all.first (term_view x) (terms_of (map term_view (drop (c.loop-part.part-index + 1) c.args.parts.now))) c.evaluate-part.result.value (so_far c.loop-part.all.value) c.requires narrow g0 whole in
          goes_further v c.args.run.first (terms_of (map term_view c.args.parts.now)) c.loop-part.all.first c.evaluate-part.result.first (term_view x) (terms_of (map term_view (drop (c.loop-part.part-index + 1) c.args.parts.now))) c.evaluate-part.result.value (so_far c.loop-part.all.value) c.followed_by.result g0 whole first (c.followed_by.ensures.bits room) (c.followed_by.ensures.blame room);
      first = h.first ∙ ap (all_first_after v c.loop-part.all.first) next ∙ ap (λ o. all_first_after v o (terms_of (map term_view (drop (c.loop-part.part-index + 1) c.args.parts.now)))) (sym first);
      notes = subst (λ o. TellsOn g.N.Notes.noted c.args.run.mode c.args.notes.now (all_marks v c.args.run.first (terms_of (map term_view c.args.parts.now))) c.evaluate-part.new.notes (all_marks v o (terms_of (map term_view (drop (c.loop-part.part-index + 1) c.args.parts.now))))) (sym first)
          (tells_further g.N.Notes.noted c.args.run.mode c.args.notes.now (all_marks v c.args.run.first (terms_of (map term_view c.args.parts.now))) c.loop-part.notes c.evaluate-part.new.notes (marks_of v c.loop-part.all.first (term_view x)) (all_marks v (first_after v c.loop-part.all.first (term_view x)) (terms_of (map term_view (drop (c.loop-part.part-index + 1) c.args.parts.now))))
          (subst (λ ts. TellsOn g.N.Notes.noted c.args.run.mode c.args.notes.now (all_marks v c.args.run.first (terms_of (map term_view c.args.parts.now))) c.loop-part.notes (all_marks v c.loop-part.all.first ts)) next h.notes) notes);
    }

pub join_all-returns-clause-value : goal.join_all-returns-clause-value
join_all-returns-clause-value g t c = λ narrow.
    let end : terms_of (map term_view (drop c.loop-part.part-index c.args.parts.now)) ≡ tree.no_terms = at_drop_all (λ ys. terms_of (map term_view ys)) c.args.parts.now c.loop-part.part-index (omega arith) in
    goes_end (g.R.Reads.scene c.args.reads.now) c.args.run.first (terms_of (map term_view c.args.parts.now)) c.loop-part.all.first (so_far c.loop-part.all.value) (subst (λ ts. GoesOn (g.R.Reads.scene c.args.reads.now) c.args.run.first (terms_of (map term_view c.args.parts.now)) c.loop-part.all.first ts (so_far c.loop-part.all.value)) end (c.loop-part.invariant.value narrow))

pub join_all-returns-clause-first : goal.join_all-returns-clause-first
join_all-returns-clause-first g t c =
    let end : terms_of (map term_view (drop c.loop-part.part-index c.args.parts.now)) ≡ tree.no_terms = at_drop_all (λ ys. terms_of (map term_view ys)) c.args.parts.now c.loop-part.part-index (omega arith) in
    sym (c.loop-part.invariant.first ∙ ap (all_first_after (g.R.Reads.scene c.args.reads.now) c.loop-part.all.first) end)

pub join_all-returns-clause-notes : goal.join_all-returns-clause-notes
join_all-returns-clause-notes g t c =
    let end : terms_of (map term_view (drop c.loop-part.part-index c.args.parts.now)) ≡ tree.no_terms = at_drop_all (λ ys. terms_of (map term_view ys)) c.args.parts.now c.loop-part.part-index (omega arith) in
    tells_end g.N.Notes.noted c.args.run.mode c.args.notes.now (all_marks (g.R.Reads.scene c.args.reads.now) c.args.run.first (terms_of (map term_view c.args.parts.now))) c.loop-part.notes (subst (λ ts. TellsOn g.N.Notes.noted c.args.run.mode c.args.notes.now (all_marks (g.R.Reads.scene c.args.reads.now) c.args.run.first (terms_of (map term_view c.args.parts.now))) c.loop-part.notes (all_marks (g.R.Reads.scene c.args.reads.now) c.loop-part.all.first ts)) end c.loop-part.invariant.notes)
