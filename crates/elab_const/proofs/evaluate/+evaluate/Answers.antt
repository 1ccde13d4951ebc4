use Rattle.std.proofs.Common.{◌≡◌, ◌<◌, ◌+◌, ◌*◌, ◌++◌, ◌∷◌, ◌∙◌, length, sym, ap, subst, false, None, [], drop, refl, arith}
use Rattle.std.specs.Prelude.{IfOk}
use Rattle.std.specs.Bool.{OnTrue}
use Rattle.four_state.specs.Operators.{takes_same_shape, SameShape, unary_value, choice_value}
use Rattle.four_state.specs.Vector.{truth}
use Rattle.four_state.specs.declared.bit.Bit.TheVariants.{X}
use Rattle.verilog_tree.specs.Tree.{exprs_of}
use Rattle.verilog_tree.specs.View.{expr_view, exprs_view}
use Rattle.elab_const.specs.Scope.{look_up, earlier, fault_if, unless, NotConstant}
use Rattle.elab_const.specs.Meaning.{meaning, shape, shape_as, within, bits_within, pair_within, operands_within, select_shape, unary_shape, binary_shape, common_shape, part_width, number_of, number_in, count_of, parts_of, pair_bits, constant, bits_before}
use Rattle.elab_const.specs.Faults.{shape_answer, evaluated_answer, fault_of, bound_fault, width_fault, count_fault, first_fault, size_fault, is_no_number}
use Rattle.elab_const.proofs.AnswerLemmas.{of_both, of_made, of_made_or, bound_is, size_is, count_is, number_is, found, is_fault, repeat_is}
use Rattle.elab_const.proofs.PartLemmas.{next_part_is, part_found, part_failed, width_with, bits_with}
use Rattle.elab_const.proofs.ContextLemmas.{length_alone}
use Rattle.elab_const.proofs.ValueLemmas.{fit_answer, fit_sides, unary_is, pair_is, shape_of, value_of}
use Rattle.verilog_tree.proofs.ExprViews.{bit_view, part_view, slide_view, unary_view, binary_view, choice_view, concatenation_view, repeat_view, sign_view, place_is}
use Rattle.elab_const.proofs.evaluate.+evaluate.Goals.{joined_parts-in-Ok, joined_parts-in-Err}
use Rattle.elab_const.proofs.evaluate.+evaluate.Goals as goal

pub measure-returns-in-Sign-clause-answer : goal.measure-returns-in-Sign-clause-answer
measure-returns-in-Sign-clause-answer t c =
    let g = look_up c.args.names.now in
    let a = expr_view c.in-Sign.a in
    let found = c.measure-in-Sign.ensures.answer in
    c.signed_shape.ensures.value ∙ of_made (fault_of g a) (shape g a) (λ x. shape_as x.width c.in-Sign.signed) c.measure-in-Sign.result found ∙ sym (ap (shape_answer g) (sign_view c.args.expr.now c.in-Sign.signed c.in-Sign.a (sym c.deref.ensures ∙ c.in-Sign.is)))

pub measure-returns-in-Unary-clause-answer : goal.measure-returns-in-Unary-clause-answer
measure-returns-in-Unary-clause-answer t c =
    let g = look_up c.args.names.now in
    let a = expr_view c.in-Unary.a in
    let found = c.measure-in-Unary.ensures.answer in
    c.operand_shape.ensures.value ∙ of_made (fault_of g a) (shape g a) (unary_shape c.in-Unary.op) c.measure-in-Unary.result found ∙ sym (ap (shape_answer g) (unary_view c.args.expr.now c.in-Unary.op c.in-Unary.a (sym c.deref.ensures ∙ c.in-Unary.is)))

pub measure-returns-in-Choice-clause-answer : goal.measure-returns-in-Choice-clause-answer
measure-returns-in-Choice-clause-answer t c =
    let g = look_up c.args.names.now in
    let x = expr_view c.in-Choice.test in
    let a = expr_view c.in-Choice.yes in
    let b = expr_view c.in-Choice.no in
    let yes = c.measure-in-Choice.ensures.answer in
    let no = c.measure-in-Choice-2.ensures.answer in
    let test = c.measure-in-Choice-3.ensures.answer in
    let sides = of_both (fault_of g a) (fault_of g b) (shape g a) (shape g b) c.measure-in-Choice.result c.measure-in-Choice-2.result c.both-sides.result yes no c.both-sides.ensures in
    let all = of_both (fault_of g x) (earlier (fault_of g a) (fault_of g b)) (shape g x) (shape g a, shape g b) c.measure-in-Choice-3.result c.both-sides.result c.both-in-Choice.result test sides c.both-in-Choice.ensures in
    c.choice_shape.ensures.value ∙ of_made (earlier (fault_of g x) (earlier (fault_of g a) (fault_of g b))) (shape g x, (shape g a, shape g b)) (λ r. common_shape r.1.0 r.1.1) c.both-in-Choice.result all ∙ sym (ap (shape_answer g) (choice_view c.args.expr.now c.in-Choice.test c.in-Choice.yes c.in-Choice.no (sym c.deref.ensures ∙ c.in-Choice.is)))

pub measure-returns-in-Binary-clause-answer : goal.measure-returns-in-Binary-clause-answer
measure-returns-in-Binary-clause-answer t c =
    let g = look_up c.args.names.now in
    let a = expr_view c.in-Binary.a in
    let b = expr_view c.in-Binary.b in
    let left = c.measure-in-Binary.ensures.answer in
    let right = c.measure-in-Binary-2.ensures.answer in
    let both = of_both (fault_of g a) (fault_of g b) (shape g a) (shape g b) c.measure-in-Binary.result c.measure-in-Binary-2.result c.both.result left right c.both.ensures in
    c.joint_shape.ensures.value ∙ of_made (earlier (fault_of g a) (fault_of g b)) (shape g a, shape g b) (λ x. binary_shape c.in-Binary.op x.0 x.1) c.both.result both ∙ sym (ap (shape_answer g) (binary_view c.args.expr.now c.in-Binary.op c.in-Binary.a c.in-Binary.b (sym c.deref.ensures ∙ c.in-Binary.is)))

pub measure-returns-in-Bit-clause-answer : goal.measure-returns-in-Bit-clause-answer
measure-returns-in-Bit-clause-answer t c =
    let g = look_up c.args.names.now in
    let a = expr_view c.in-Bit.of in
    let b = expr_view c.in-Bit.index in
    let left = c.measure.ensures.answer in
    let right = c.measure-in-Bit.ensures.answer in
    let both = of_both (fault_of g a) (fault_of g b) (shape g a) (shape g b) c.measure.result c.measure-in-Bit.result c.both-parts.result left right c.both-parts.ensures in
    let of_is = c.select_shape.ensures.value in
    c.bit_shape.ensures.value ∙ of_made (earlier (fault_of g a) (fault_of g b)) (shape g a, shape g b) (λ x. c.select_shape.result) c.both-parts.result both ∙ rw of_is (sym (ap (shape_answer g) (bit_view c.args.expr.now c.in-Bit.of c.in-Bit.index (sym c.deref.ensures ∙ c.in-Bit.is))))

pub measure-returns-in-Part-clause-answer : goal.measure-returns-in-Part-clause-answer
measure-returns-in-Part-clause-answer t c =
    let g = look_up c.args.names.now in
    c.measure_part.ensures.answer ∙ sym (ap (shape_answer g) (part_view c.args.expr.now c.in-Part.of c.in-Part.high c.in-Part.low c.in-Part.bracket (sym c.deref.ensures ∙ c.in-Part.is)))

pub measure-returns-in-Slide-clause-answer : goal.measure-returns-in-Slide-clause-answer
measure-returns-in-Slide-clause-answer t c =
    let g = look_up c.args.names.now in
    c.measure_slide.ensures.answer ∙ sym (ap (shape_answer g) (slide_view c.args.expr.now c.in-Slide.of c.in-Slide.base c.in-Slide.width _ c.in-Slide.bracket (sym c.deref.ensures ∙ c.in-Slide.is)))

pub measure-returns-in-Concat-clause-answer : goal.measure-returns-in-Concat-clause-answer
measure-returns-in-Concat-clause-answer t c =
    let g = look_up c.args.names.now in
    let p = c.args.expr.now.place in
    let es = exprs_of (exprs_view c.in-Concat.parts.items) in
    let width = rw c.deref-in-Concat.ensures.value at c.total_width.ensures in
    c.total_shape.ensures.value ∙ of_made_or (first_fault g None es) (parts_of g es).width (λ w. size_fault w p) (λ w. shape_as w false) c.total_width.result width ∙ sym (ap (shape_answer g) (concatenation_view c.args.expr.now c.in-Concat.parts (sym c.deref.ensures ∙ c.in-Concat.is)))

pub measure-returns-in-Repeat-clause-answer : goal.measure-returns-in-Repeat-clause-answer
measure-returns-in-Repeat-clause-answer t c =
    let g = look_up c.args.names.now in
    let p = c.args.expr.now.place in
    let n = expr_view c.in-Repeat.count in
    let es = exprs_of (exprs_view c.in-Repeat.parts.items) in
    let times = count_is g p n c.number.result c.count_in-times.result c.number.ensures c.count_in-times.ensures in
    let width = rw c.deref-in-Repeat.ensures.value at c.total_width-in-Repeat.ensures in
    let fn = count_fault g p n (fault_of g n) in
    let fs = first_fault g None es in
    let both = of_both fn fs (count_of (number_of g n)) (parts_of g es).width c.count_in-times.result c.total_width-in-Repeat.result c.both-in-Repeat.result times width c.both-in-Repeat.ensures in
    c.repeated_shape.ensures.value ∙ of_made_or (earlier fn fs) (count_of (number_of g n), (parts_of g es).width) (λ r. size_fault (r.0 * r.1) p) (λ r. shape_as (r.0 * r.1) false) c.both-in-Repeat.result both ∙ sym (ap (shape_answer g) (repeat_view c.args.expr.now c.in-Repeat.count c.in-Repeat.parts (sym c.deref.ensures ∙ c.in-Repeat.is)))

pub measure_part-returns-clause-answer : goal.measure_part-returns-clause-answer
measure_part-returns-clause-answer t c =
    let g = look_up c.args.names.now in
    let p = c.args.bracket in
    let x = expr_view c.args.of.now in
    let h = expr_view c.args.high.now in
    let l = expr_view c.args.low.now in
    let high = bound_is g p h c.number.result c.bound_in.result c.number.ensures c.bound_in.ensures in
    let low = bound_is g p l c.number-2.result c.bound_in-2.result c.number-2.ensures c.bound_in-2.ensures in
    let fh = bound_fault g p h (fault_of g h) in
    let fl = bound_fault g p l (fault_of g l) in
    let bounds = of_both fh fl (count_of (number_of g h)) (count_of (number_of g l)) c.bound_in.result c.bound_in-2.result c.both-bounds.result high low c.both-bounds.ensures in
    let all = of_both (fault_of g x) (earlier fh fl) (shape g x) (count_of (number_of g h), count_of (number_of g l)) c.measure.result c.both-bounds.result c.both.result c.measure.ensures.answer bounds c.both.ensures in
    rw c.falls.ensures at (c.part_shape.ensures.value ∙ of_made_or (earlier (fault_of g x) (earlier fh fl)) (shape g x, (count_of (number_of g h), count_of (number_of g l))) (λ r. size_fault (part_width c.falls.result r.1.0 r.1.1) p) (λ r. shape_as (part_width c.falls.result r.1.0 r.1.1) false) c.both.result all)

pub measure_slide-returns-clause-answer : goal.measure_slide-returns-clause-answer
measure_slide-returns-clause-answer t c =
    let g = look_up c.args.names.now in
    let p = c.args.bracket in
    let x = expr_view c.args.of.now in
    let k = expr_view c.args.base.now in
    let w = expr_view c.args.width.now in
    let size = size_is g p w c.number.result c.size_in-size.result c.number.ensures c.size_in-size.ensures.value in
    let fw = width_fault g p w (fault_of g w) in
    let sizes = of_both (fault_of g k) fw (shape g k) (count_of (number_of g w)) c.measure-2.result c.size_in-size.result c.both.result c.measure-2.ensures.answer size c.both.ensures in
    let all = of_both (fault_of g x) (earlier (fault_of g k) fw) (shape g x) (shape g k, count_of (number_of g w)) c.measure.result c.both.result c.both-parts.result c.measure.ensures.answer sizes c.both-parts.ensures in
    c.slide_shape.ensures.value ∙ of_made (earlier (fault_of g x) (earlier (fault_of g k) fw)) (shape g x, (shape g k, count_of (number_of g w))) (λ r. shape_as r.1.1 false) c.both-parts.result all

pub number-returns : goal.number-returns
number-returns t c =
    let g = look_up c.args.names.now in
    let e = expr_view c.args.expr.now in
    let p = c.args.expr.now.place in
    let value = c.value_in.ensures ∙ value_of (fault_of g e) (within (meaning g e) None) c.evaluate.result c.evaluate.ensures.answer in
    c.number_in.ensures ∙ of_made_or (fault_of g e) (constant g e) (λ v. fault_if (is_no_number (number_in v)) NotConstant p) (λ v. number_in v) c.value_in.result value ∙ number_is g e p (sym c.is_constant.ensures ∙ c.if-not-is_constant.false) (place_is c.args.expr.now)

pub evaluate-returns-in-Bit-clause-answer : goal.evaluate-returns-in-Bit-clause-answer
evaluate-returns-in-Bit-clause-answer t c =
    let g = look_up c.args.names.now in
    let e = expr_view c.args.expr.now in
    let r = c.args.around in
    let is = bit_view c.args.expr.now c.in-Bit.of c.in-Bit.index (sym c.deref.ensures ∙ c.in-Bit.is) in
    let unread = subst (λ x. bits_within (shape g x) (X ∷ []) r ≡ within (meaning g x) r) (sym is) refl in
    c.unread.ensures.value ∙ of_made (fault_of g e) (shape g e) (λ s. bits_within s (X ∷ []) r) c.measure.result c.measure.ensures.answer ∙ ap (λ v. unless (fault_of g e) v) unread

pub evaluate-returns-in-Part-clause-answer : goal.evaluate-returns-in-Part-clause-answer
evaluate-returns-in-Part-clause-answer t c =
    let g = look_up c.args.names.now in
    let e = expr_view c.args.expr.now in
    let r = c.args.around in
    let is = part_view c.args.expr.now c.in-Part.of c.in-Part.high c.in-Part.low c.in-Part.bracket (sym c.deref.ensures ∙ c.in-Part.is) in
    let unread = subst (λ x. bits_within (shape g x) (X ∷ []) r ≡ within (meaning g x) r) (sym is) refl in
    c.unread-in-Part.ensures.value ∙ of_made (fault_of g e) (shape g e) (λ s. bits_within s (X ∷ []) r) c.measure-in-Part.result c.measure-in-Part.ensures.answer ∙ ap (λ v. unless (fault_of g e) v) unread

pub evaluate-returns-in-Slide-clause-answer : goal.evaluate-returns-in-Slide-clause-answer
evaluate-returns-in-Slide-clause-answer t c =
    let g = look_up c.args.names.now in
    let e = expr_view c.args.expr.now in
    let r = c.args.around in
    let is = slide_view c.args.expr.now c.in-Slide.of c.in-Slide.base c.in-Slide.width _ c.in-Slide.bracket (sym c.deref.ensures ∙ c.in-Slide.is) in
    let unread = subst (λ x. bits_within (shape g x) (X ∷ []) r ≡ within (meaning g x) r) (sym is) refl in
    c.unread-in-Slide.ensures.value ∙ of_made (fault_of g e) (shape g e) (λ s. bits_within s (X ∷ []) r) c.measure-in-Slide.result c.measure-in-Slide.ensures.answer ∙ ap (λ v. unless (fault_of g e) v) unread

pub evaluate-returns-in-Unary-clause-answer : goal.evaluate-returns-in-Unary-clause-answer
evaluate-returns-in-Unary-clause-answer t c =
    let g = look_up c.args.names.now in
    let a = expr_view c.in-Unary.a in
    let op = c.in-Unary.op in
    let r = c.args.around in
    let answer = rw c.around_operand.ensures.value at c.evaluate-a.ensures.answer in
    let made = of_made (fault_of g a) _ (λ x. bits_within (unary_shape op x.shape) (unary_value op x.value.bits) r) c.evaluate-a.result answer in
    c.unary.ensures.value ∙ made ∙ ap (λ v. unless (fault_of g a) v) (unary_is op r (meaning g a)) ∙ sym (ap (λ x. evaluated_answer g x r) (unary_view c.args.expr.now op c.in-Unary.a (sym c.deref.ensures ∙ c.in-Unary.is)))

pub evaluate-binary-requires-clause-fit : goal.evaluate-binary-requires-clause-fit
evaluate-binary-requires-clause-fit t c =
    let g = look_up c.args.names.now in
    let a = expr_view c.in-Binary.a in
    let b = expr_view c.in-Binary.b in
    let op = c.in-Binary.op in
    let answer = c.operands.ensures.answer in
    subst (λ r. IfOk r (λ p. OnTrue (takes_same_shape op) (SameShape p.0.value p.1.value))) (sym answer) (fit_answer (earlier (fault_of g a) (fault_of g b)) op (meaning g a) (meaning g b) c.args.around)

pub evaluate-returns-in-Binary-clause-answer : goal.evaluate-returns-in-Binary-clause-answer
evaluate-returns-in-Binary-clause-answer t c =
    let g = look_up c.args.names.now in
    let a = expr_view c.in-Binary.a in
    let b = expr_view c.in-Binary.b in
    let op = c.in-Binary.op in
    let r = c.args.around in
    let answer = c.operands.ensures.answer in
    let made = of_made (earlier (fault_of g a) (fault_of g b)) (operands_within op (meaning g a) (meaning g b) r) (λ p. bits_within (binary_shape op p.0.shape p.1.shape) (pair_bits op (p.0.value, p.1.value)) r) c.operands.result answer in
    c.binary.ensures.value ∙ made ∙ sym (ap (λ x. evaluated_answer g x r) (binary_view c.args.expr.now op c.in-Binary.a c.in-Binary.b (sym c.deref.ensures ∙ c.in-Binary.is)))

pub evaluate-choice-requires-clause-fit : goal.evaluate-choice-requires-clause-fit
evaluate-choice-requires-clause-fit t c =
    let g = look_up c.args.names.now in
    let x = expr_view c.in-Choice.test in
    let a = expr_view c.in-Choice.yes in
    let b = expr_view c.in-Choice.no in
    let r = c.args.around in
    let sides = c.pair-sides.ensures.answer in
    let test = c.evaluate.ensures.answer in
    let all = of_both (fault_of g x) (earlier (fault_of g a) (fault_of g b)) (within (meaning g x) None) (pair_within (meaning g a) (meaning g b) r) c.evaluate.result c.pair-sides.result c.both.result test sides c.both.ensures in
    subst (λ r. IfOk r (λ p. SameShape p.1.0.value p.1.1.value)) (sym all) (fit_sides (earlier (fault_of g x) (earlier (fault_of g a) (fault_of g b))) (within (meaning g x) None) (meaning g a) (meaning g b) r)

pub evaluate-returns-in-Choice-clause-answer : goal.evaluate-returns-in-Choice-clause-answer
evaluate-returns-in-Choice-clause-answer t c =
    let g = look_up c.args.names.now in
    let x = expr_view c.in-Choice.test in
    let a = expr_view c.in-Choice.yes in
    let b = expr_view c.in-Choice.no in
    let r = c.args.around in
    let sides = c.pair-sides.ensures.answer in
    let test = c.evaluate.ensures.answer in
    let all = of_both (fault_of g x) (earlier (fault_of g a) (fault_of g b)) (within (meaning g x) None) (pair_within (meaning g a) (meaning g b) r) c.evaluate.result c.pair-sides.result c.both.result test sides c.both.ensures in
    let made = of_made (earlier (fault_of g x) (earlier (fault_of g a) (fault_of g b))) (within (meaning g x) None, pair_within (meaning g a) (meaning g b) r) (λ p. bits_within (common_shape p.1.0.shape p.1.1.shape) (choice_value (truth p.0.value.bits) p.1.0.value.bits p.1.1.value.bits) r) c.both.result all in
    c.choice.ensures.value ∙ made ∙ sym (ap (λ e. evaluated_answer g e r) (choice_view c.args.expr.now c.in-Choice.test c.in-Choice.yes c.in-Choice.no (sym c.deref.ensures ∙ c.in-Choice.is)))

pub evaluate-returns-in-Repeat-clause-answer : goal.evaluate-returns-in-Repeat-clause-answer
evaluate-returns-in-Repeat-clause-answer t c =
    let g = look_up c.args.names.now in
    let p = c.args.expr.now.place in
    let n = expr_view c.in-Repeat.count in
    let es = exprs_of (exprs_view c.in-Repeat.parts.items) in
    let r = c.args.around in
    let times = count_is g p n c.number.result c.count_in-times.result c.number.ensures c.count_in-times.ensures in
    let width = rw c.deref-in-Repeat.ensures.value at c.joined_parts-in-Repeat.ensures.width in
    let bits = rw c.deref-in-Repeat.ensures.value at c.joined_parts-in-Repeat.ensures.bits in
    repeat_is p r (count_fault g p n (fault_of g n)) (first_fault g None es) (count_of (number_of g n)) (parts_of g es).width (parts_of g es).bits c.count_in-times.result c.joined_parts-in-Repeat.result c.both-in-Repeat.result c.repeat.result times width bits c.both-in-Repeat.ensures c.repeat.ensures.value ∙ sym (ap (λ x. evaluated_answer g x r) (repeat_view c.args.expr.now c.in-Repeat.count c.in-Repeat.parts (sym c.deref.ensures ∙ c.in-Repeat.is)))

pub evaluate-returns-in-Sign-clause-answer : goal.evaluate-returns-in-Sign-clause-answer
evaluate-returns-in-Sign-clause-answer t c =
    let g = look_up c.args.names.now in
    let a = expr_view c.in-Sign.a in
    let signed = c.in-Sign.signed in
    let r = c.args.around in
    let answer = c.evaluate-in-Sign.ensures.answer in
    let made = of_made (fault_of g a) (within (meaning g a) None) (λ x. bits_within (shape_as x.shape.width signed) x.value.bits r) c.evaluate-in-Sign.result answer in
    c.sign.ensures.value ∙ made ∙ sym (ap (λ x. evaluated_answer g x r) (sign_view c.args.expr.now signed c.in-Sign.a (sym c.deref.ensures ∙ c.in-Sign.is)))

pub pair-returns-then-repeats-clause-answer : goal.pair-returns-then-repeats-clause-answer
pair-returns-then-repeats-clause-answer t c =
    let g = look_up c.args.names.now in
    let a = expr_view c.args.a.now in
    let b = expr_view c.args.b.now in
    let last = rw c.beside.ensures.value at c.evaluate-last.ensures.answer in
    let shape = c.shape_in.ensures.value ∙ shape_of (fault_of g b) _ c.evaluate-last.result c.evaluate-last.ensures.answer in
    let first = rw c.beside-then-repeats.ensures.value at c.evaluate-first.ensures.answer in
    c.both.ensures ∙ pair_is c.args.around (fault_of g a) (fault_of g b) (meaning g a) (meaning g b) c.shape_in.result c.measure.result c.evaluate-first.result c.evaluate-last.result shape c.measure.ensures.answer first last

pub pair-returns-else-repeats-clause-answer : goal.pair-returns-else-repeats-clause-answer
pair-returns-else-repeats-clause-answer t c =
    let g = look_up c.args.names.now in
    let a = expr_view c.args.a.now in
    let b = expr_view c.args.b.now in
    let first = rw c.beside-else-repeats.ensures.value at c.evaluate-first-else-repeats.ensures.answer in
    let shape = c.shape_in-else-repeats.ensures.value ∙ shape_of (fault_of g a) _ c.evaluate-first-else-repeats.result c.evaluate-first-else-repeats.ensures.answer in
    let last = rw c.beside-else-repeats-2.ensures.value at c.evaluate-last-else-repeats.ensures.answer in
    c.both-else-repeats.ensures ∙ pair_is c.args.around (fault_of g a) (fault_of g b) (meaning g a) (meaning g b) c.measure-else-repeats.result c.shape_in-else-repeats.result c.evaluate-first-else-repeats.result c.evaluate-last-else-repeats.result c.measure-else-repeats.ensures.answer shape first last

pub joined_parts-loop-part-preserved : goal.joined_parts-loop-part-preserved
joined_parts-loop-part-preserved t c =
    let g = look_up c.args.names.now in
    let e = expr_view c.part-item.result in
    let inv = c.loop-part.invariant in
    let less : c.loop-part.part-index < length c.args.parts.now = omega arith in
    let next = next_part_is c.args.parts.now c.loop-part.part-index _ c.part-item.result less c.part-item.is in
    let rest = exprs_of (exprs_view (drop (c.loop-part.part-index + 1) c.args.parts.now)) in
    let first = rw next at inv.first in
    elim c.match-evaluate.branch [
      | joined_parts-in-Ok w ↦
          (let value = found (fault_of g e) (within (meaning g e) None) w.in-Ok.part (sym c.evaluate.ensures.answer ∙ w.in-Ok.is) in
          let long : length w.in-Ok.part.value.bits ≡ (meaning g e).shape.width = ap (λ v. length v.value.bits) (sym value.1) ∙ length_alone (meaning g e) in
          let shape_is : (meaning g e).shape.width ≡ w.in-Ok.part.shape.width = ap (λ v. v.shape.width) value.1 in
          let within = rw w.in-Ok.is at c.evaluate.ensures.within in
          rw (w.found-is, w.joined-is) (record {
            first = sym (part_found g c.loop-part.found e rest value.0) ∙ first;
            width = λ none. width_with g e rest _ _ _ _ (rw next at (inv.width none)) long w.with-joined.ensures.width;
            bits = λ none small. bits_with g e rest _ _ _ (rw next at (inv.bits none (omega (arith, w.with-joined.ensures.width)))) (w.with-joined.ensures.bits small ∙ ap (λ v. v.value.bits ++ bits_before c.loop-part.joined.value) (sym value.1));
            small = omega (arith, w.with-joined.ensures.width, inv.small, within.1);
            whole = w.with-joined.ensures.whole;
          }))
      | joined_parts-in-Err w ↦
          (let fault = is_fault (fault_of g e) (within (meaning g e) None) w.in-Err.fault (sym c.evaluate.ensures.answer ∙ w.in-Err.is) in
          rw (w.found-is, w.joined-is) (record {
            first = part_failed g c.loop-part.found e rest w.in-Err.fault _ fault w.first_found.ensures ∙ first;
            width = λ none. absurd cc;
            bits = λ none small. absurd cc;
            small = omega (arith, inv.small);
            whole = inv.whole;
          }))
    ]
