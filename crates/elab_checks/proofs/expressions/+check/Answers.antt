use Rattle.std.proofs.Common.{◌≡◌, true, not, ◌&&◌, if◌then◌else◌, [], ◌∷◌, ◌+◌, ◌++◌, ◌∙◌, sym, ap, drop}
use Rattle.verilog_tree.proofs.ExprViews.{bit_view, part_view, slide_view, binary_view, choice_view, concatenation_view, repeat_view, place_is}
use Rattle.elab_const.specs.Calls.{told}
use Rattle.elab_const.specs.Faults.{bound_from, size_from, is_no_number}
use Rattle.elab_const.specs.Meaning.{number_of, parts_of}
use Rattle.elab_const.specs.declared.fault.ConstKind.TheVariants.{NotConstant}
use Rattle.flat_design.specs.Expressions as spec
use Rattle.flat_design.specs.Expressions.{Selected, faults, all_faults, constant_faults, number_faults, bound_faults, width_faults, select_faults, selected, index_faults, part_range_faults, slide_faults, is_sound_constant, is_sound_number}
use Rattle.flat_design.specs.Fault.{answer_faults, fault_if, none, of_constant}
use Rattle.flat_design.specs.Scope.{binding_of, names, names_constants, names_faulty, natural_number}
use Rattle.verilog_tree.specs.Tree.{concatenation, exprs_of, place_of}
use Rattle.verilog_tree.specs.View.{expr_view, exprs_view}
use Rattle.elab_scope.specs.Tally.{after_faults}
use Rattle.elab_scope.specs.View.{name_view}
use Rattle.elab_checks.proofs.CheckLemmas.{left_false, right_false, one_goes_on, met_three, met_five, none_five, four_stop, five_go_on, slid_not, slid_by_base, width_known, word_is, bit_is}
use Rattle.elab_checks.proofs.ConstantLemmas.{goes_on, stops, sound_is, constant_faults_are}
use Rattle.elab_checks.proofs.ExpressionLemmas.{met_then, none_then_both, none_three, number_known, met_next, none_next, next_is}
use Rattle.flat_design.proofs.NoConstFaults.{both_true, true_both}
use Rattle.elab_checks.proofs.expressions.+check.Goals as goal
use Rattle.elab_checks.proofs.expressions.+check.Goals.{check_bound-then-not-sound-via-then-not-sound, check_bound-then-not-sound-via-else-not-sound+then-not-names_constants, check_width-then-not-sound-via-then-not-sound, check_width-then-not-sound-via-else-not-sound+then-not-names_constants, check_number-then-not-sound-via-then-not-sound, check_number-then-not-sound-via-else-not-sound+then-not-names_constants, check_slide-then-not-known-via-then-not-known, check_slide-then-not-known-via-else-not-known+then-not-names_constants}

pub check-returns-in-Bit-clause-met : goal.check-returns-in-Bit-clause-met
check-returns-in-Bit-clause-met t c =
    c.check_bit.ensures.met ∙ sym (ap (λ e. after_faults c.args.tally.now (faults (binding_of c.args.scope.now) e)) (bit_view c.args.expr.now c.in-Bit.of c.in-Bit.index (sym c.deref.ensures ∙ c.in-Bit.is)))

pub check-returns-in-Bit-clause-sound : goal.check-returns-in-Bit-clause-sound
check-returns-in-Bit-clause-sound t c =
    c.check_bit.ensures.sound ∙ sym (ap (λ e. none (faults (binding_of c.args.scope.now) e)) (bit_view c.args.expr.now c.in-Bit.of c.in-Bit.index (sym c.deref.ensures ∙ c.in-Bit.is)))

pub check-returns-in-Part-clause-met : goal.check-returns-in-Part-clause-met
check-returns-in-Part-clause-met t c =
    c.check_part.ensures.met ∙ sym (ap (λ e. after_faults c.args.tally.now (faults (binding_of c.args.scope.now) e)) (part_view c.args.expr.now c.in-Part.of c.in-Part.high c.in-Part.low c.in-Part.bracket (sym c.deref.ensures ∙ c.in-Part.is)))

pub check-returns-in-Part-clause-sound : goal.check-returns-in-Part-clause-sound
check-returns-in-Part-clause-sound t c =
    c.check_part.ensures.sound ∙ sym (ap (λ e. none (faults (binding_of c.args.scope.now) e)) (part_view c.args.expr.now c.in-Part.of c.in-Part.high c.in-Part.low c.in-Part.bracket (sym c.deref.ensures ∙ c.in-Part.is)))

pub check-returns-in-Slide-clause-met : goal.check-returns-in-Slide-clause-met
check-returns-in-Slide-clause-met t c =
    c.check_slide.ensures.met ∙ sym (ap (λ e. after_faults c.args.tally.now (faults (binding_of c.args.scope.now) e)) (slide_view c.args.expr.now c.in-Slide.of c.in-Slide.base c.in-Slide.width c.in-Slide.up c.in-Slide.bracket (sym c.deref.ensures ∙ c.in-Slide.is)))

pub check-returns-in-Slide-clause-sound : goal.check-returns-in-Slide-clause-sound
check-returns-in-Slide-clause-sound t c =
    c.check_slide.ensures.sound ∙ sym (ap (λ e. none (faults (binding_of c.args.scope.now) e)) (slide_view c.args.expr.now c.in-Slide.of c.in-Slide.base c.in-Slide.width c.in-Slide.up c.in-Slide.bracket (sym c.deref.ensures ∙ c.in-Slide.is)))

pub check-returns-in-Binary-clause-met : goal.check-returns-in-Binary-clause-met
check-returns-in-Binary-clause-met t c =
    met_then c.args.tally.now c.check.new.tally c.check-in-Binary.new.tally (faults (binding_of c.args.scope.now) (expr_view c.in-Binary.a)) (faults (binding_of c.args.scope.now) (expr_view c.in-Binary.b)) c.check.ensures.met c.check-in-Binary.ensures.met ∙ sym (ap (λ e. after_faults c.args.tally.now (faults (binding_of c.args.scope.now) e)) (binary_view c.args.expr.now c.in-Binary.field-0 c.in-Binary.a c.in-Binary.b (sym c.deref.ensures ∙ c.in-Binary.is)))

pub check-returns-in-Choice-clause-met : goal.check-returns-in-Choice-clause-met
check-returns-in-Choice-clause-met t c =
    met_then c.args.tally.now c.check-in-Choice-2.new.tally c.check-in-Choice-3.new.tally ((faults (binding_of c.args.scope.now) (expr_view c.in-Choice.test)) ++ (faults (binding_of c.args.scope.now) (expr_view c.in-Choice.yes))) (faults (binding_of c.args.scope.now) (expr_view c.in-Choice.no)) (met_then c.args.tally.now c.check-in-Choice.new.tally c.check-in-Choice-2.new.tally (faults (binding_of c.args.scope.now) (expr_view c.in-Choice.test)) (faults (binding_of c.args.scope.now) (expr_view c.in-Choice.yes)) c.check-in-Choice.ensures.met c.check-in-Choice-2.ensures.met) c.check-in-Choice-3.ensures.met ∙ sym (ap (λ e. after_faults c.args.tally.now (faults (binding_of c.args.scope.now) e)) (choice_view c.args.expr.now c.in-Choice.test c.in-Choice.yes c.in-Choice.no (sym c.deref.ensures ∙ c.in-Choice.is)))

pub check-returns-in-Binary-clause-sound : goal.check-returns-in-Binary-clause-sound
check-returns-in-Binary-clause-sound t c =
    none_then_both c.check.result c.check-in-Binary.result (faults (binding_of c.args.scope.now) (expr_view c.in-Binary.a)) (faults (binding_of c.args.scope.now) (expr_view c.in-Binary.b)) c.check.ensures.sound c.check-in-Binary.ensures.sound ∙ sym (ap (λ e. none (faults (binding_of c.args.scope.now) e)) (binary_view c.args.expr.now c.in-Binary.field-0 c.in-Binary.a c.in-Binary.b (sym c.deref.ensures ∙ c.in-Binary.is)))

pub check-returns-in-Choice-clause-sound : goal.check-returns-in-Choice-clause-sound
check-returns-in-Choice-clause-sound t c =
    none_then_both _ c.check-in-Choice-3.result ((faults (binding_of c.args.scope.now) (expr_view c.in-Choice.test)) ++ (faults (binding_of c.args.scope.now) (expr_view c.in-Choice.yes))) (faults (binding_of c.args.scope.now) (expr_view c.in-Choice.no)) (none_then_both c.check-in-Choice.result c.check-in-Choice-2.result (faults (binding_of c.args.scope.now) (expr_view c.in-Choice.test)) (faults (binding_of c.args.scope.now) (expr_view c.in-Choice.yes)) c.check-in-Choice.ensures.sound c.check-in-Choice-2.ensures.sound) c.check-in-Choice-3.ensures.sound ∙ sym (ap (λ e. none (faults (binding_of c.args.scope.now) e)) (choice_view c.args.expr.now c.in-Choice.test c.in-Choice.yes c.in-Choice.no (sym c.deref.ensures ∙ c.in-Choice.is)))

pub check_all-loop-expr-preserved : goal.check_all-loop-expr-preserved
check_all-loop-expr-preserved t c =
    let g = binding_of c.args.scope.now in
    let e = expr_view c.expr-item.result in
    let others = exprs_of (exprs_view (drop (c.loop-expr.expr-index + 1) c.args.exprs.now)) in
    let next = ap (all_faults g) (next_is c.args.exprs.now c.loop-expr.expr-index c.expr-item.result c.loop-expr-test.true c.expr-item.is) in
    record {
      met = met_next c.loop-expr.tally c.check-sound.new.tally _ (faults g e) (all_faults g others) _ next c.loop-expr.invariant.met c.check-sound.ensures.met;
      sound = none_next c.loop-expr.sound c.check-sound.result _ (faults g e) (all_faults g others) _ next c.loop-expr.invariant.sound c.check-sound.ensures.sound;
    }

pub check-returns-in-Concat-clause-met : goal.check-returns-in-Concat-clause-met
check-returns-in-Concat-clause-met t c =
    let g = binding_of c.args.scope.now in
    let place = c.args.expr.now.place in
    let es = exprs_of (exprs_view c.in-Concat.parts.items) in
    let joined = spec.joined_faults (none (all_faults g es) && not (names_faulty g (concatenation place es))) (parts_of (names g) es).width place in
    met_then c.args.tally.now c.check_all-known.new.tally c.check_joined.new.tally (all_faults g es) joined (rw c.deref-in-Concat.ensures.value at c.check_all-known.ensures.met) (rw c.deref-in-Concat-2.ensures.value at c.check_joined.ensures.met) ∙ sym (ap (λ e. after_faults c.args.tally.now (faults g e)) (concatenation_view c.args.expr.now c.in-Concat.parts (sym c.deref.ensures ∙ c.in-Concat.is)))

pub check-returns-in-Concat-clause-sound : goal.check-returns-in-Concat-clause-sound
check-returns-in-Concat-clause-sound t c =
    let g = binding_of c.args.scope.now in
    let place = c.args.expr.now.place in
    let es = exprs_of (exprs_view c.in-Concat.parts.items) in
    let joined = spec.joined_faults (none (all_faults g es) && not (names_faulty g (concatenation place es))) (parts_of (names g) es).width place in
    none_then_both c.check_all-known.result c.check_joined.result (all_faults g es) joined (rw c.deref-in-Concat.ensures.value at c.check_all-known.ensures.sound) (rw c.deref-in-Concat-2.ensures.value at c.check_joined.ensures.sound) ∙ sym (ap (λ e. none (faults g e)) (concatenation_view c.args.expr.now c.in-Concat.parts (sym c.deref.ensures ∙ c.in-Concat.is)))

pub check-returns-in-Repeat-clause-met : goal.check-returns-in-Repeat-clause-met
check-returns-in-Repeat-clause-met t c =
    let g = binding_of c.args.scope.now in
    let place = c.args.expr.now.place in
    let n = expr_view c.in-Repeat.count in
    let es = exprs_of (exprs_view c.in-Repeat.parts.items) in
    let counts = number_faults g n (faults g n) in
    let copies = if is_sound_number g n (faults g n) then spec.count_faults g place n (none (all_faults g es) && not (names_faulty g (concatenation place es))) (parts_of (names g) es).width else [] in
    met_three c.args.tally.now c.check_all-known-in-Repeat.new.tally c.check_number-sound.new.tally c.check_count.new.tally (all_faults g es) counts copies (rw c.deref-in-Repeat.ensures.value at c.check_all-known-in-Repeat.ensures.met) c.check_number-sound.ensures.met (rw c.deref-in-Repeat-2.ensures.value at c.check_count.ensures.met) ∙ sym (ap (λ e. after_faults c.args.tally.now (faults g e)) (repeat_view c.args.expr.now c.in-Repeat.count c.in-Repeat.parts (sym c.deref.ensures ∙ c.in-Repeat.is)))

pub check-returns-in-Repeat-clause-sound : goal.check-returns-in-Repeat-clause-sound
check-returns-in-Repeat-clause-sound t c =
    let g = binding_of c.args.scope.now in
    let place = c.args.expr.now.place in
    let n = expr_view c.in-Repeat.count in
    let es = exprs_of (exprs_view c.in-Repeat.parts.items) in
    let counts = number_faults g n (faults g n) in
    let copies = if is_sound_number g n (faults g n) then spec.count_faults g place n (none (all_faults g es) && not (names_faulty g (concatenation place es))) (parts_of (names g) es).width else [] in
    none_three c.check_all-known-in-Repeat.result c.check_number-sound.result c.check_count.result (all_faults g es) counts copies (rw c.deref-in-Repeat.ensures.value at c.check_all-known-in-Repeat.ensures.sound) c.check_number-sound.ensures.sound (rw c.deref-in-Repeat-2.ensures.value at c.check_count.ensures.sound) ∙ sym (ap (λ e. none (faults g e)) (repeat_view c.args.expr.now c.in-Repeat.count c.in-Repeat.parts (sym c.deref.ensures ∙ c.in-Repeat.is)))

pub check-check_count-requires-clause-count : goal.check-check_count-requires-clause-count
check-check_count-requires-clause-count t c =
    c.check_number-sound.ensures.sound

pub check-check_count-requires-clause-parts : goal.check-check_count-requires-clause-parts
check-check_count-requires-clause-parts t c =
    rw (c.deref-in-Repeat.ensures.value, ← c.deref-in-Repeat-2.ensures.value) at c.check_all-known-in-Repeat.ensures.sound

pub check_bit-returns-in-Some-clause-met : goal.check_bit-returns-in-Some-clause-met
check_bit-returns-in-Some-clause-met t c =
    let g = binding_of c.args.scope.now in
    let of = expr_view c.args.of.now in
    let i = expr_view c.args.index.now in
    let words = c.in-Some.memory.words in
    let bits = Selected.bits_in words (name_view c.base_name.result) in
    let name = ap (λ x. after_faults c.args.tally.now (faults g i ++ index_faults g (Selected.bits_in words x) i (faults g i))) c.base_name.ensures in
    met_then c.args.tally.now c.check-known.new.tally c.check_index.new.tally (faults g i) (index_faults g bits i (faults g i)) c.check-known.ensures.met c.check_index.ensures.met ∙ name ∙ sym (ap (after_faults c.args.tally.now) (word_is g of (faults g of) i (faults g i) c.in-Some.memory c.in-Some.ensures.0 c.in-Some.ensures.1))

pub check_bit-returns-in-Some-clause-sound : goal.check_bit-returns-in-Some-clause-sound
check_bit-returns-in-Some-clause-sound t c =
    let g = binding_of c.args.scope.now in
    let of = expr_view c.args.of.now in
    let i = expr_view c.args.index.now in
    let words = c.in-Some.memory.words in
    let bits = Selected.bits_in words (name_view c.base_name.result) in
    let name = ap (λ x. none (faults g i ++ index_faults g (Selected.bits_in words x) i (faults g i))) c.base_name.ensures in
    none_then_both c.check-known.result c.check_index.result (faults g i) (index_faults g bits i (faults g i)) c.check-known.ensures.sound c.check_index.ensures.sound ∙ name ∙ sym (ap (none) (word_is g of (faults g of) i (faults g i) c.in-Some.memory c.in-Some.ensures.0 c.in-Some.ensures.1))

pub check_bit-returns-clause-met : goal.check_bit-returns-clause-met
check_bit-returns-clause-met t c =
    let g = binding_of c.args.scope.now in
    let of = expr_view c.args.of.now in
    let i = expr_view c.args.index.now in
    let bits = selected g of in
    let uses = rw c.selection-bits.ensures at c.check-2.ensures.met in
    let index = rw c.selection-bits.ensures at c.check_index-2.ensures.met in
    let two = met_then c.args.tally.now c.check.new.tally c.check-2.new.tally (faults g of) (select_faults bits) c.check.ensures.met uses in
    let three = met_then c.args.tally.now c.check-2.new.tally c.check-known-2.new.tally (faults g of ++ select_faults bits) (faults g i) two c.check-known-2.ensures.met in
    met_then c.args.tally.now c.check-known-2.new.tally c.check_index-2.new.tally (faults g of ++ select_faults bits ++ faults g i) (index_faults g bits i (faults g i)) three index ∙ sym (ap (after_faults c.args.tally.now) (bit_is g of (faults g of) i (faults g i) c.in_default.ensures))

pub check_bit-returns-clause-sound : goal.check_bit-returns-clause-sound
check_bit-returns-clause-sound t c =
    let g = binding_of c.args.scope.now in
    let of = expr_view c.args.of.now in
    let i = expr_view c.args.index.now in
    let bits = selected g of in
    let uses = rw c.selection-bits.ensures at c.check-2.ensures.sound in
    let index = rw c.selection-bits.ensures at c.check_index-2.ensures.sound in
    let two = none_then_both c.check.result c.check-2.result (faults g of) (select_faults bits) c.check.ensures.sound uses in
    let three = none_then_both _ c.check-known-2.result (faults g of ++ select_faults bits) (faults g i) two c.check-known-2.ensures.sound in
    none_then_both _ c.check_index-2.result (faults g of ++ select_faults bits ++ faults g i) (index_faults g bits i (faults g i)) three index ∙ sym (ap none (bit_is g of (faults g of) i (faults g i) c.in_default.ensures))

pub check_bound-returns-then-not-sound-clause-met : goal.check_bound-returns-then-not-sound-clause-met
check_bound-returns-then-not-sound-clause-met t c =
    let g = binding_of c.args.scope.now in
    let e = expr_view c.args.expr.now in
    let stop = stops c.args.tally.now c.check_number-sound.new.tally c.check_number-sound.result (number_faults g e (faults g e)) (answer_faults (told (bound_from c.args.bracket (number_of (names g) e)))) (is_sound_number g e (faults g e)) c.check_number-sound.ensures.met c.check_number-sound.ensures.sound in
    elim c.then-not-sound.branch [ check_bound-then-not-sound-via-then-not-sound w ↦ (stop (right_false (names_constants g e) _ (sym c.check_number-sound.ensures.sound ∙ w.if-not-sound.true))).0 | check_bound-then-not-sound-via-else-not-sound+then-not-names_constants w ↦ (stop (left_false _ (none (number_faults g e (faults g e))) (sym w.names_constants.ensures ∙ w.if-not-names_constants.true))).0 ]

pub check_bound-returns-then-not-sound-clause-sound : goal.check_bound-returns-then-not-sound-clause-sound
check_bound-returns-then-not-sound-clause-sound t c =
    let g = binding_of c.args.scope.now in
    let e = expr_view c.args.expr.now in
    let stop = stops c.args.tally.now c.check_number-sound.new.tally c.check_number-sound.result (number_faults g e (faults g e)) (answer_faults (told (bound_from c.args.bracket (number_of (names g) e)))) (is_sound_number g e (faults g e)) c.check_number-sound.ensures.met c.check_number-sound.ensures.sound in
    elim c.then-not-sound.branch [ check_bound-then-not-sound-via-then-not-sound w ↦ (stop (right_false (names_constants g e) _ (sym c.check_number-sound.ensures.sound ∙ w.if-not-sound.true))).1 | check_bound-then-not-sound-via-else-not-sound+then-not-names_constants w ↦ (stop (left_false _ (none (number_faults g e (faults g e))) (sym w.names_constants.ensures ∙ w.if-not-names_constants.true))).1 ]

pub check_bound-number-requires-clause-sound : goal.check_bound-number-requires-clause-sound
check_bound-number-requires-clause-sound t c =
    let g = binding_of c.args.scope.now in
    let e = expr_view c.args.expr.now in
    let constant : names_constants g e ≡ true = cc in
    let sound = sym c.check_number-sound.ensures.sound ∙ c.if-not-sound.false in
    number_known g e constant sound

pub check_bound-returns-clause-met : goal.check_bound-returns-clause-met
check_bound-returns-clause-met t c =
    let g = binding_of c.args.scope.now in
    let e = expr_view c.args.expr.now in
    let constant : names_constants g e ≡ true = cc in
    let sound = sym c.check_number-sound.ensures.sound ∙ c.if-not-sound.false in
    (goes_on c.args.tally.now c.check_number-sound.new.tally c.check_bound_number.new.tally c.check_number-sound.result c.check_bound_number.result (number_faults g e (faults g e)) (answer_faults (told (bound_from c.args.bracket (number_of (names g) e)))) _ c.check_number-sound.ensures.met c.check_number-sound.ensures.sound c.if-not-sound.false (rw c.number.ensures at c.check_bound_number.ensures.met) (rw c.number.ensures at c.check_bound_number.ensures.sound) (true_both _ _ constant sound)).0

pub check_bound-returns-clause-sound : goal.check_bound-returns-clause-sound
check_bound-returns-clause-sound t c =
    let g = binding_of c.args.scope.now in
    let e = expr_view c.args.expr.now in
    let constant : names_constants g e ≡ true = cc in
    let sound = sym c.check_number-sound.ensures.sound ∙ c.if-not-sound.false in
    (goes_on c.args.tally.now c.check_number-sound.new.tally c.check_bound_number.new.tally c.check_number-sound.result c.check_bound_number.result (number_faults g e (faults g e)) (answer_faults (told (bound_from c.args.bracket (number_of (names g) e)))) _ c.check_number-sound.ensures.met c.check_number-sound.ensures.sound c.if-not-sound.false (rw c.number.ensures at c.check_bound_number.ensures.met) (rw c.number.ensures at c.check_bound_number.ensures.sound) (true_both _ _ constant sound)).1

pub check_constant-returns-clause-met : goal.check_constant-returns-clause-met
check_constant-returns-clause-met t c =
    let g = binding_of c.args.scope.now in
    let e = expr_view c.args.expr.now in
    let other = fault_if (spec.names_no_constant g e) (of_constant NotConstant (place_of e)) in
    let met = met_then c.args.tally.now c.check_declared.new.tally c.check_constancy.new.tally (spec.undeclared g e) other c.check_declared.ensures.met c.check_constancy.ensures.met in
    met_then c.args.tally.now c.check_constancy.new.tally c.check.new.tally (spec.undeclared g e ++ other) (faults g e) met c.check.ensures.met

pub check_constant-returns-clause-sound : goal.check_constant-returns-clause-sound
check_constant-returns-clause-sound t c =
    let g = binding_of c.args.scope.now in
    let e = expr_view c.args.expr.now in
    let other = fault_if (spec.names_no_constant g e) (of_constant NotConstant (place_of e)) in
    let sound = none_then_both c.check_declared.result c.check_constancy.result (spec.undeclared g e) other c.check_declared.ensures.sound c.check_constancy.ensures.sound in
    none_then_both _ c.check.result (spec.undeclared g e ++ other) (faults g e) sound c.check.ensures.sound

pub check_number-returns-then-not-sound-clause-met : goal.check_number-returns-then-not-sound-clause-met
check_number-returns-then-not-sound-clause-met t c =
    let g = binding_of c.args.scope.now in
    let e = expr_view c.args.expr.now in
    let stop = stops c.args.tally.now c.check_constant-sound.new.tally c.check_constant-sound.result (constant_faults g e (faults g e)) (of_constant NotConstant (place_of e) ∷ []) (is_sound_constant g e (faults g e) && is_no_number (number_of (names g) e)) c.check_constant-sound.ensures.met c.check_constant-sound.ensures.sound in
    elim c.then-not-sound.branch [ check_number-then-not-sound-via-then-not-sound w ↦ (stop (left_false _ _ (sound_is g e (faults g e) ∙ left_false _ (names_constants g e) (sym c.check_constant-sound.ensures.sound ∙ w.if-not-sound.true)))).0 | check_number-then-not-sound-via-else-not-sound+then-not-names_constants w ↦ (stop (left_false _ _ (left_false _ _ (sym w.names_constants.ensures ∙ w.if-not-names_constants.true)))).0 ]

pub check_number-returns-then-not-sound-clause-sound : goal.check_number-returns-then-not-sound-clause-sound
check_number-returns-then-not-sound-clause-sound t c =
    let g = binding_of c.args.scope.now in
    let e = expr_view c.args.expr.now in
    let stop = stops c.args.tally.now c.check_constant-sound.new.tally c.check_constant-sound.result (constant_faults g e (faults g e)) (of_constant NotConstant (place_of e) ∷ []) (is_sound_constant g e (faults g e) && is_no_number (number_of (names g) e)) c.check_constant-sound.ensures.met c.check_constant-sound.ensures.sound in
    elim c.then-not-sound.branch [ check_number-then-not-sound-via-then-not-sound w ↦ (stop (left_false _ _ (sound_is g e (faults g e) ∙ left_false _ (names_constants g e) (sym c.check_constant-sound.ensures.sound ∙ w.if-not-sound.true)))).1 | check_number-then-not-sound-via-else-not-sound+then-not-names_constants w ↦ (stop (left_false _ _ (left_false _ _ (sym w.names_constants.ensures ∙ w.if-not-names_constants.true)))).1 ]

pub check_number-number-requires-clause-sound : goal.check_number-number-requires-clause-sound
check_number-number-requires-clause-sound t c =
    let g = binding_of c.args.scope.now in
    let e = expr_view c.args.expr.now in
    let constant : names_constants g e ≡ true = cc in
    rw (constant_faults_are g e (faults g e) constant) at (sym c.check_constant-sound.ensures.sound ∙ c.if-not-sound.false)

pub check_number-returns-clause-met : goal.check_number-returns-clause-met
check_number-returns-clause-met t c =
    let g = binding_of c.args.scope.now in
    let e = expr_view c.args.expr.now in
    let bad = is_no_number (number_of (names g) e) in
    let place = sym (place_is c.args.expr.now) in
    let met = rw c.number.ensures at c.check_known.ensures.met ∙ ap (λ p. after_faults c.check_constant-sound.new.tally (fault_if bad (of_constant NotConstant p))) place in
    let clean = rw c.number.ensures at c.check_known.ensures.sound ∙ ap (λ p. none (fault_if bad (of_constant NotConstant p))) place in
    let sound = sym c.check_constant-sound.ensures.sound ∙ c.if-not-sound.false in
    let constant = sym c.names_constants.ensures ∙ c.if-not-names_constants.false in
    let known = sound_is g e (faults g e) ∙ true_both _ _ sound constant in
    (one_goes_on c.args.tally.now c.check_constant-sound.new.tally c.check_known.new.tally c.check_constant-sound.result c.check_known.result (constant_faults g e (faults g e)) (of_constant NotConstant (place_of e)) (is_sound_constant g e (faults g e)) bad c.check_constant-sound.ensures.met c.check_constant-sound.ensures.sound c.if-not-sound.false met clean known).0

pub check_number-returns-clause-sound : goal.check_number-returns-clause-sound
check_number-returns-clause-sound t c =
    let g = binding_of c.args.scope.now in
    let e = expr_view c.args.expr.now in
    let bad = is_no_number (number_of (names g) e) in
    let place = sym (place_is c.args.expr.now) in
    let met = rw c.number.ensures at c.check_known.ensures.met ∙ ap (λ p. after_faults c.check_constant-sound.new.tally (fault_if bad (of_constant NotConstant p))) place in
    let clean = rw c.number.ensures at c.check_known.ensures.sound ∙ ap (λ p. none (fault_if bad (of_constant NotConstant p))) place in
    let sound = sym c.check_constant-sound.ensures.sound ∙ c.if-not-sound.false in
    let constant = sym c.names_constants.ensures ∙ c.if-not-names_constants.false in
    let known = sound_is g e (faults g e) ∙ true_both _ _ sound constant in
    (one_goes_on c.args.tally.now c.check_constant-sound.new.tally c.check_known.new.tally c.check_constant-sound.result c.check_known.result (constant_faults g e (faults g e)) (of_constant NotConstant (place_of e)) (is_sound_constant g e (faults g e)) bad c.check_constant-sound.ensures.met c.check_constant-sound.ensures.sound c.if-not-sound.false met clean known).1

pub check_part-returns-clause-met : goal.check_part-returns-clause-met
check_part-returns-clause-met t c =
    let g = binding_of c.args.scope.now in
    let of = expr_view c.args.of.now in
    let h = expr_view c.args.high.now in
    let l = expr_view c.args.low.now in
    let bits = selected g of in
    let highs = bound_faults g c.args.bracket h (faults g h) in
    let lows = bound_faults g c.args.bracket l (faults g l) in
    let inside = if names_constants g h && names_constants g l && none (highs ++ lows) then part_range_faults bits c.args.bracket (natural_number g h) (natural_number g l) else [] in
    met_five c.args.tally.now c.check.new.tally c.check-2.new.tally c.check_bound.new.tally c.check_bound-2.new.tally c.check_bounds.new.tally (faults g of) (select_faults bits) highs lows inside c.check.ensures.met (rw c.selection-bits.ensures at c.check-2.ensures.met) c.check_bound.ensures.met c.check_bound-2.ensures.met (rw c.selection-bits.ensures at c.check_bounds.ensures.met)

pub check_part-returns-clause-sound : goal.check_part-returns-clause-sound
check_part-returns-clause-sound t c =
    let g = binding_of c.args.scope.now in
    let of = expr_view c.args.of.now in
    let h = expr_view c.args.high.now in
    let l = expr_view c.args.low.now in
    let bits = selected g of in
    let highs = bound_faults g c.args.bracket h (faults g h) in
    let lows = bound_faults g c.args.bracket l (faults g l) in
    let inside = if names_constants g h && names_constants g l && none (highs ++ lows) then part_range_faults bits c.args.bracket (natural_number g h) (natural_number g l) else [] in
    none_five c.check.result c.check-2.result c.check_bound.result c.check_bound-2.result c.check_bounds.result (faults g of) (select_faults bits) highs lows inside c.check.ensures.sound (rw c.selection-bits.ensures at c.check-2.ensures.sound) c.check_bound.ensures.sound c.check_bound-2.ensures.sound (rw c.selection-bits.ensures at c.check_bounds.ensures.sound)

pub check_slide-returns-then-not-known-clause-met : goal.check_slide-returns-then-not-known-clause-met
check_slide-returns-then-not-known-clause-met t c =
    let g = binding_of c.args.scope.now in
    let of = expr_view c.args.of.now in
    let b = expr_view c.args.base.now in
    let w = expr_view c.args.width.now in
    let bits = selected g of in
    let widths = width_faults g c.args.bracket w (faults g w) in
    let slid = slide_faults g bits b (natural_number g w) c.args.up in
    let test = is_sound_constant g b (faults g b) && names_constants g w && none widths in
    let stop = four_stop c.args.tally.now c.check.new.tally c.check-2.new.tally c.check-3.new.tally c.check_width.new.tally c.check.result c.check-2.result c.check-3.result c.check_width.result (faults g of) (select_faults bits) (faults g b) widths slid test c.check.ensures.met (rw c.selection-bits.ensures at c.check-2.ensures.met) c.check-3.ensures.met c.check_width.ensures.met c.check.ensures.sound (rw c.selection-bits.ensures at c.check-2.ensures.sound) c.check-3.ensures.sound c.check_width.ensures.sound in
    elim c.then-not-known.branch [ check_slide-then-not-known-via-then-not-known x ↦ (stop (slid_not (names_constants g b) (names_constants g w) (none (faults g b)) (none widths) (rw (c.check-3.ensures.sound, c.check_width.ensures.sound) at x.if-not-known.true))).0 | check_slide-then-not-known-via-else-not-known+then-not-names_constants x ↦ (stop (left_false _ (none widths) (right_false (is_sound_constant g b (faults g b)) _ (sym x.names_constants.ensures ∙ x.if-not-names_constants.true)))).0 ]

pub check_slide-returns-then-not-known-clause-sound : goal.check_slide-returns-then-not-known-clause-sound
check_slide-returns-then-not-known-clause-sound t c =
    let g = binding_of c.args.scope.now in
    let of = expr_view c.args.of.now in
    let b = expr_view c.args.base.now in
    let w = expr_view c.args.width.now in
    let bits = selected g of in
    let widths = width_faults g c.args.bracket w (faults g w) in
    let slid = slide_faults g bits b (natural_number g w) c.args.up in
    let test = is_sound_constant g b (faults g b) && names_constants g w && none widths in
    let stop = four_stop c.args.tally.now c.check.new.tally c.check-2.new.tally c.check-3.new.tally c.check_width.new.tally c.check.result c.check-2.result c.check-3.result c.check_width.result (faults g of) (select_faults bits) (faults g b) widths slid test c.check.ensures.met (rw c.selection-bits.ensures at c.check-2.ensures.met) c.check-3.ensures.met c.check_width.ensures.met c.check.ensures.sound (rw c.selection-bits.ensures at c.check-2.ensures.sound) c.check-3.ensures.sound c.check_width.ensures.sound in
    elim c.then-not-known.branch [ check_slide-then-not-known-via-then-not-known x ↦ (stop (slid_not (names_constants g b) (names_constants g w) (none (faults g b)) (none widths) (rw (c.check-3.ensures.sound, c.check_width.ensures.sound) at x.if-not-known.true))).1 | check_slide-then-not-known-via-else-not-known+then-not-names_constants x ↦ (stop (left_false _ (none widths) (right_false (is_sound_constant g b (faults g b)) _ (sym x.names_constants.ensures ∙ x.if-not-names_constants.true)))).1 ]

pub check_slide-check_slid-requires-clause-base : goal.check_slide-check_slid-requires-clause-base
check_slide-check_slid-requires-clause-base t c =
    sym c.check-3.ensures.sound ∙ (both_true c.check-3.result c.check_width.result c.if-not-known.false).0

pub check_slide-check_slid-requires-clause-width : goal.check_slide-check_slid-requires-clause-width
check_slide-check_slid-requires-clause-width t c =
    let known = both_true c.check-3.result c.check_width.result c.if-not-known.false in
    let constant = sym c.names_constants.ensures ∙ c.if-not-names_constants.false in
    (width_known (binding_of c.args.scope.now) c.args.bracket (expr_view c.args.width.now) constant (sym c.check_width.ensures.sound ∙ known.1)).0

pub check_slide-check_slid-requires-clause-within : goal.check_slide-check_slid-requires-clause-within
check_slide-check_slid-requires-clause-within t c =
    let known = both_true c.check-3.result c.check_width.result c.if-not-known.false in
    let constant = sym c.names_constants.ensures ∙ c.if-not-names_constants.false in
    (width_known (binding_of c.args.scope.now) c.args.bracket (expr_view c.args.width.now) constant (sym c.check_width.ensures.sound ∙ known.1)).1

pub check_slide-returns-clause-met : goal.check_slide-returns-clause-met
check_slide-returns-clause-met t c =
    let g = binding_of c.args.scope.now in
    let of = expr_view c.args.of.now in
    let b = expr_view c.args.base.now in
    let w = expr_view c.args.width.now in
    let bits = selected g of in
    let widths = width_faults g c.args.bracket w (faults g w) in
    let slid = slide_faults g bits b (natural_number g w) c.args.up in
    let test = is_sound_constant g b (faults g b) && names_constants g w && none widths in
    let known = both_true c.check-3.result c.check_width.result c.if-not-known.false in
    let constant = sym c.names_constants.ensures ∙ c.if-not-names_constants.false in
    let counts = slid_by_base (names_constants g b) (names_constants g w) (none (faults g b)) (none widths) constant (sym c.check-3.ensures.sound ∙ known.0) (sym c.check_width.ensures.sound ∙ known.1) in
    (five_go_on c.args.tally.now c.check.new.tally c.check-2.new.tally c.check-3.new.tally c.check_width.new.tally c.check_slid.new.tally c.check.result c.check-2.result c.check-3.result c.check_width.result c.check_slid.result (faults g of) (select_faults bits) (faults g b) widths (if names_constants g b then slid else []) c.check.ensures.met (rw c.selection-bits.ensures at c.check-2.ensures.met) c.check-3.ensures.met c.check_width.ensures.met c.check.ensures.sound (rw c.selection-bits.ensures at c.check-2.ensures.sound) c.check-3.ensures.sound c.check_width.ensures.sound c.if-not-known.false (rw c.selection-bits.ensures at c.check_slid.ensures.met) (rw c.selection-bits.ensures at c.check_slid.ensures.sound)).0 ∙ sym (ap (λ k. after_faults c.args.tally.now (faults g of ++ (select_faults bits ++ faults g b ++ widths ++ (if k then slid else [])))) counts)

pub check_slide-returns-clause-sound : goal.check_slide-returns-clause-sound
check_slide-returns-clause-sound t c =
    let g = binding_of c.args.scope.now in
    let of = expr_view c.args.of.now in
    let b = expr_view c.args.base.now in
    let w = expr_view c.args.width.now in
    let bits = selected g of in
    let widths = width_faults g c.args.bracket w (faults g w) in
    let slid = slide_faults g bits b (natural_number g w) c.args.up in
    let test = is_sound_constant g b (faults g b) && names_constants g w && none widths in
    let known = both_true c.check-3.result c.check_width.result c.if-not-known.false in
    let constant = sym c.names_constants.ensures ∙ c.if-not-names_constants.false in
    let counts = slid_by_base (names_constants g b) (names_constants g w) (none (faults g b)) (none widths) constant (sym c.check-3.ensures.sound ∙ known.0) (sym c.check_width.ensures.sound ∙ known.1) in
    (five_go_on c.args.tally.now c.check.new.tally c.check-2.new.tally c.check-3.new.tally c.check_width.new.tally c.check_slid.new.tally c.check.result c.check-2.result c.check-3.result c.check_width.result c.check_slid.result (faults g of) (select_faults bits) (faults g b) widths (if names_constants g b then slid else []) c.check.ensures.met (rw c.selection-bits.ensures at c.check-2.ensures.met) c.check-3.ensures.met c.check_width.ensures.met c.check.ensures.sound (rw c.selection-bits.ensures at c.check-2.ensures.sound) c.check-3.ensures.sound c.check_width.ensures.sound c.if-not-known.false (rw c.selection-bits.ensures at c.check_slid.ensures.met) (rw c.selection-bits.ensures at c.check_slid.ensures.sound)).1 ∙ sym (ap (λ k. none (faults g of ++ (select_faults bits ++ faults g b ++ widths ++ (if k then slid else [])))) counts)

pub check_width-returns-then-not-sound-clause-met : goal.check_width-returns-then-not-sound-clause-met
check_width-returns-then-not-sound-clause-met t c =
    let g = binding_of c.args.scope.now in
    let e = expr_view c.args.expr.now in
    let stop = stops c.args.tally.now c.check_number-sound.new.tally c.check_number-sound.result (number_faults g e (faults g e)) (answer_faults (told (size_from c.args.bracket (number_of (names g) e)))) (is_sound_number g e (faults g e)) c.check_number-sound.ensures.met c.check_number-sound.ensures.sound in
    elim c.then-not-sound.branch [ check_width-then-not-sound-via-then-not-sound w ↦ (stop (right_false (names_constants g e) _ (sym c.check_number-sound.ensures.sound ∙ w.if-not-sound.true))).0 | check_width-then-not-sound-via-else-not-sound+then-not-names_constants w ↦ (stop (left_false _ (none (number_faults g e (faults g e))) (sym w.names_constants.ensures ∙ w.if-not-names_constants.true))).0 ]

pub check_width-returns-then-not-sound-clause-sound : goal.check_width-returns-then-not-sound-clause-sound
check_width-returns-then-not-sound-clause-sound t c =
    let g = binding_of c.args.scope.now in
    let e = expr_view c.args.expr.now in
    let stop = stops c.args.tally.now c.check_number-sound.new.tally c.check_number-sound.result (number_faults g e (faults g e)) (answer_faults (told (size_from c.args.bracket (number_of (names g) e)))) (is_sound_number g e (faults g e)) c.check_number-sound.ensures.met c.check_number-sound.ensures.sound in
    elim c.then-not-sound.branch [ check_width-then-not-sound-via-then-not-sound w ↦ (stop (right_false (names_constants g e) _ (sym c.check_number-sound.ensures.sound ∙ w.if-not-sound.true))).1 | check_width-then-not-sound-via-else-not-sound+then-not-names_constants w ↦ (stop (left_false _ (none (number_faults g e (faults g e))) (sym w.names_constants.ensures ∙ w.if-not-names_constants.true))).1 ]

pub check_width-number-requires-clause-sound : goal.check_width-number-requires-clause-sound
check_width-number-requires-clause-sound t c =
    let g = binding_of c.args.scope.now in
    let e = expr_view c.args.expr.now in
    let constant : names_constants g e ≡ true = cc in
    let sound = sym c.check_number-sound.ensures.sound ∙ c.if-not-sound.false in
    number_known g e constant sound

pub check_width-returns-clause-met : goal.check_width-returns-clause-met
check_width-returns-clause-met t c =
    let g = binding_of c.args.scope.now in
    let e = expr_view c.args.expr.now in
    let constant : names_constants g e ≡ true = cc in
    let sound = sym c.check_number-sound.ensures.sound ∙ c.if-not-sound.false in
    (goes_on c.args.tally.now c.check_number-sound.new.tally c.check_width_number.new.tally c.check_number-sound.result c.check_width_number.result (number_faults g e (faults g e)) (answer_faults (told (size_from c.args.bracket (number_of (names g) e)))) _ c.check_number-sound.ensures.met c.check_number-sound.ensures.sound c.if-not-sound.false (rw c.number.ensures at c.check_width_number.ensures.met) (rw c.number.ensures at c.check_width_number.ensures.sound) (true_both _ _ constant sound)).0

pub check_width-returns-clause-sound : goal.check_width-returns-clause-sound
check_width-returns-clause-sound t c =
    let g = binding_of c.args.scope.now in
    let e = expr_view c.args.expr.now in
    let constant : names_constants g e ≡ true = cc in
    let sound = sym c.check_number-sound.ensures.sound ∙ c.if-not-sound.false in
    (goes_on c.args.tally.now c.check_number-sound.new.tally c.check_width_number.new.tally c.check_number-sound.result c.check_width_number.result (number_faults g e (faults g e)) (answer_faults (told (size_from c.args.bracket (number_of (names g) e)))) _ c.check_number-sound.ensures.met c.check_number-sound.ensures.sound c.if-not-sound.false (rw c.number.ensures at c.check_width_number.ensures.met) (rw c.number.ensures at c.check_width_number.ensures.sound) (true_both _ _ constant sound)).1

pub check_part-check_bounds-requires : goal.check_part-check_bounds-requires
check_part-check_bounds-requires t c =
    let g = binding_of c.args.scope.now in
    let h = expr_view c.args.high.now in
    let l = expr_view c.args.low.now in
    none_then_both c.check_bound.result c.check_bound-2.result (bound_faults g c.args.bracket h (faults g h)) (bound_faults g c.args.bracket l (faults g l)) c.check_bound.ensures.sound c.check_bound-2.ensures.sound
