use Rattle.std.proofs.Common.{◌∙◌, sym, ap, Some, pos}
use Rattle.design_model.specs.Value.{offset}
use Rattle.verilog_tree.proofs.ExprViews.{bit_view, part_view, slide_view}
use Rattle.flat_design.specs.Expressions.{faults, is_inside}
use Rattle.flat_design.specs.Fault.{none}
use Rattle.flat_design.specs.Identifiers.{base_name}
use Rattle.flat_design.specs.Scope.{binding_of, look_up, names_faulty, natural_number, range_or, shape}
use Rattle.verilog_tree.specs.View.{expr_view}
use Rattle.elab_checks.proofs.OffsetLemmas.{sound_bit, sound_part, sound_slide}
use Rattle.elab_checks.proofs.offsets.bits_of.Goals as goal

pub bit-requires-clause-sound : goal.bit-requires-clause-sound
bit-requires-clause-sound c =
    let g = binding_of c.args.scope.now in
    let view = bit_view c.args.expr.now c.in-Bit.of c.in-Bit.index (sym c.deref.ensures ∙ c.in-Bit.is) in
    let base = sym (ap (λ e. look_up g (base_name e).name) view) ∙ c.requires.base in
    let sound = sym (ap (λ e. none (faults g e)) view) ∙ c.requires.sound in
    let bit = sound_bit g c.args.signal c.args.expr.now.place (expr_view c.in-Bit.of) (expr_view c.in-Bit.index) base sound in
    bit.0

pub bit-requires-clause-inside : goal.bit-requires-clause-inside
bit-requires-clause-inside c =
    let g = binding_of c.args.scope.now in
    let r = range_or c.args.signal.range in
    let view = bit_view c.args.expr.now c.in-Bit.of c.in-Bit.index (sym c.deref.ensures ∙ c.in-Bit.is) in
    let base = sym (ap (λ e. look_up g (base_name e).name) view) ∙ c.requires.base in
    let sound = sym (ap (λ e. none (faults g e)) view) ∙ c.requires.sound in
    let bit = sound_bit g c.args.signal c.args.expr.now.place (expr_view c.in-Bit.of) (expr_view c.in-Bit.index) base sound in
    bit.1

pub part-requires-clause-constant : goal.part-requires-clause-constant
part-requires-clause-constant c =
    let g = binding_of c.args.scope.now in
    let view = part_view c.args.expr.now c.in-Part.of c.in-Part.high c.in-Part.low c.in-Part.bracket (sym c.deref.ensures ∙ c.in-Part.is) in
    let base = sym (ap (λ e. look_up g (base_name e).name) view) ∙ c.requires.base in
    let sound = sym (ap (λ e. none (faults g e)) view) ∙ c.requires.sound in
    let known = sym (ap (names_faulty g) view) ∙ c.requires.known in
    let part = sound_part g c.args.signal c.args.expr.now.place (expr_view c.in-Part.of) (expr_view c.in-Part.high) (expr_view c.in-Part.low) c.in-Part.bracket base sound known in
    part.constant

pub part-requires-clause-sound : goal.part-requires-clause-sound
part-requires-clause-sound c =
    let g = binding_of c.args.scope.now in
    let view = part_view c.args.expr.now c.in-Part.of c.in-Part.high c.in-Part.low c.in-Part.bracket (sym c.deref.ensures ∙ c.in-Part.is) in
    let base = sym (ap (λ e. look_up g (base_name e).name) view) ∙ c.requires.base in
    let sound = sym (ap (λ e. none (faults g e)) view) ∙ c.requires.sound in
    let known = sym (ap (names_faulty g) view) ∙ c.requires.known in
    let part = sound_part g c.args.signal c.args.expr.now.place (expr_view c.in-Part.of) (expr_view c.in-Part.high) (expr_view c.in-Part.low) c.in-Part.bracket base sound known in
    part.sound

pub part-requires-clause-number : goal.part-requires-clause-number
part-requires-clause-number c =
    let g = binding_of c.args.scope.now in
    let view = part_view c.args.expr.now c.in-Part.of c.in-Part.high c.in-Part.low c.in-Part.bracket (sym c.deref.ensures ∙ c.in-Part.is) in
    let base = sym (ap (λ e. look_up g (base_name e).name) view) ∙ c.requires.base in
    let sound = sym (ap (λ e. none (faults g e)) view) ∙ c.requires.sound in
    let known = sym (ap (names_faulty g) view) ∙ c.requires.known in
    let part = sound_part g c.args.signal c.args.expr.now.place (expr_view c.in-Part.of) (expr_view c.in-Part.high) (expr_view c.in-Part.low) c.in-Part.bracket base sound known in
    part.number

pub part-requires-clause-first : goal.part-requires-clause-first
part-requires-clause-first c =
    let g = binding_of c.args.scope.now in
    let view = part_view c.args.expr.now c.in-Part.of c.in-Part.high c.in-Part.low c.in-Part.bracket (sym c.deref.ensures ∙ c.in-Part.is) in
    let base = sym (ap (λ e. look_up g (base_name e).name) view) ∙ c.requires.base in
    let sound = sym (ap (λ e. none (faults g e)) view) ∙ c.requires.sound in
    let known = sym (ap (names_faulty g) view) ∙ c.requires.known in
    let part = sound_part g c.args.signal c.args.expr.now.place (expr_view c.in-Part.of) (expr_view c.in-Part.high) (expr_view c.in-Part.low) c.in-Part.bracket base sound known in
    part.first

pub part-requires-clause-inside : goal.part-requires-clause-inside
part-requires-clause-inside c =
    let g = binding_of c.args.scope.now in
    let view = part_view c.args.expr.now c.in-Part.of c.in-Part.high c.in-Part.low c.in-Part.bracket (sym c.deref.ensures ∙ c.in-Part.is) in
    let base = sym (ap (λ e. look_up g (base_name e).name) view) ∙ c.requires.base in
    let sound = sym (ap (λ e. none (faults g e)) view) ∙ c.requires.sound in
    let known = sym (ap (names_faulty g) view) ∙ c.requires.known in
    let part = sound_part g c.args.signal c.args.expr.now.place (expr_view c.in-Part.of) (expr_view c.in-Part.high) (expr_view c.in-Part.low) c.in-Part.bracket base sound known in
    let r = range_or c.args.signal.range in
    let width = ap (λ s. s.width) (c.shape.ensures.value ∙ ap (shape g) view) in
    ap (is_inside r (Some (offset r (pos (natural_number g (expr_view c.in-Part.low)))))) width ∙ part.inside

pub slide-requires-clause-base : goal.slide-requires-clause-base
slide-requires-clause-base c =
    let g = binding_of c.args.scope.now in
    let view = slide_view c.args.expr.now c.in-Slide.of c.in-Slide.base c.in-Slide.width c.in-Slide.up c.in-Slide.bracket (sym c.deref.ensures ∙ c.in-Slide.is) in
    let base = sym (ap (λ e. look_up g (base_name e).name) view) ∙ c.requires.base in
    let sound = sym (ap (λ e. none (faults g e)) view) ∙ c.requires.sound in
    let known = sym (ap (names_faulty g) view) ∙ c.requires.known in
    let slide = sound_slide g c.args.signal c.args.expr.now.place (expr_view c.in-Slide.of) (expr_view c.in-Slide.base) (expr_view c.in-Slide.width) c.in-Slide.up c.in-Slide.bracket base sound known in
    slide.base

pub slide-requires-clause-constant : goal.slide-requires-clause-constant
slide-requires-clause-constant c =
    let g = binding_of c.args.scope.now in
    let view = slide_view c.args.expr.now c.in-Slide.of c.in-Slide.base c.in-Slide.width c.in-Slide.up c.in-Slide.bracket (sym c.deref.ensures ∙ c.in-Slide.is) in
    let base = sym (ap (λ e. look_up g (base_name e).name) view) ∙ c.requires.base in
    let sound = sym (ap (λ e. none (faults g e)) view) ∙ c.requires.sound in
    let known = sym (ap (names_faulty g) view) ∙ c.requires.known in
    let slide = sound_slide g c.args.signal c.args.expr.now.place (expr_view c.in-Slide.of) (expr_view c.in-Slide.base) (expr_view c.in-Slide.width) c.in-Slide.up c.in-Slide.bracket base sound known in
    slide.constant

pub slide-requires-clause-width : goal.slide-requires-clause-width
slide-requires-clause-width c =
    let g = binding_of c.args.scope.now in
    let view = slide_view c.args.expr.now c.in-Slide.of c.in-Slide.base c.in-Slide.width c.in-Slide.up c.in-Slide.bracket (sym c.deref.ensures ∙ c.in-Slide.is) in
    let base = sym (ap (λ e. look_up g (base_name e).name) view) ∙ c.requires.base in
    let sound = sym (ap (λ e. none (faults g e)) view) ∙ c.requires.sound in
    let known = sym (ap (names_faulty g) view) ∙ c.requires.known in
    let slide = sound_slide g c.args.signal c.args.expr.now.place (expr_view c.in-Slide.of) (expr_view c.in-Slide.base) (expr_view c.in-Slide.width) c.in-Slide.up c.in-Slide.bracket base sound known in
    slide.width

pub slide-requires-clause-some : goal.slide-requires-clause-some
slide-requires-clause-some c =
    let g = binding_of c.args.scope.now in
    let view = slide_view c.args.expr.now c.in-Slide.of c.in-Slide.base c.in-Slide.width c.in-Slide.up c.in-Slide.bracket (sym c.deref.ensures ∙ c.in-Slide.is) in
    let base = sym (ap (λ e. look_up g (base_name e).name) view) ∙ c.requires.base in
    let sound = sym (ap (λ e. none (faults g e)) view) ∙ c.requires.sound in
    let known = sym (ap (names_faulty g) view) ∙ c.requires.known in
    let slide = sound_slide g c.args.signal c.args.expr.now.place (expr_view c.in-Slide.of) (expr_view c.in-Slide.base) (expr_view c.in-Slide.width) c.in-Slide.up c.in-Slide.bracket base sound known in
    slide.some

pub slide-requires-clause-inside : goal.slide-requires-clause-inside
slide-requires-clause-inside c =
    let g = binding_of c.args.scope.now in
    let view = slide_view c.args.expr.now c.in-Slide.of c.in-Slide.base c.in-Slide.width c.in-Slide.up c.in-Slide.bracket (sym c.deref.ensures ∙ c.in-Slide.is) in
    let base = sym (ap (λ e. look_up g (base_name e).name) view) ∙ c.requires.base in
    let sound = sym (ap (λ e. none (faults g e)) view) ∙ c.requires.sound in
    let known = sym (ap (names_faulty g) view) ∙ c.requires.known in
    let slide = sound_slide g c.args.signal c.args.expr.now.place (expr_view c.in-Slide.of) (expr_view c.in-Slide.base) (expr_view c.in-Slide.width) c.in-Slide.up c.in-Slide.bracket base sound known in
    let r = range_or c.args.signal.range in
    slide.inside
