use Rattle.std.proofs.Common.{◌≡◌, true, sym, ap, ◌∙◌, arith}
use Rattle.std.specs.List.{range_with_len}
use Rattle.design_model.specs.Value.{slide_offset}
use Rattle.flat_design.specs.Scope.{binding_of, names_constants, natural_number, range_or, whole_number}
use Rattle.verilog_tree.specs.View.{expr_view}
use Rattle.elab_checks.proofs.OffsetLemmas.{offsets_when, slide_known, slide_nowhere, slide_value}
use Rattle.elab_checks.proofs.offsets.slide.Goals as goal

pub slide_offset-requires-clause-within : goal.slide_offset-requires-clause-within
slide_offset-requires-clause-within c =
    let g = binding_of c.args.scope.now in
    let b = expr_view c.args.base.now in
    let constant : names_constants g b ≡ true = sym c.names_constants.ensures ∙ c.if-not-names_constants.false in
    slide_known (range_or c.args.signal.range) c.range_or.result c.args.up (natural_number g (expr_view c.args.width.now)) c.size-width.result (whole_number g b) c.in-At.number
    c.range_or.ensures c.size-width.ensures c.requires.some.0 (sym c.number.ensures ∙ c.in-At.is) (c.requires.inside constant)

pub returns-in-At-clause-value : goal.returns-in-At-clause-value
returns-in-At-clause-value c =
    let g = binding_of c.args.scope.now in
    let b = expr_view c.args.base.now in
    let w = natural_number g (expr_view c.args.width.now) in
    let r = range_or c.args.signal.range in
    let constant : names_constants g b ≡ true = sym c.names_constants.ensures ∙ c.if-not-names_constants.false in
    let value = slide_value r c.range_or.result c.args.up w c.size-width.result (whole_number g b) c.in-At.number c.slide_offset.result
    c.range_or.ensures c.size-width.ensures (sym c.number.ensures ∙ c.in-At.is) c.slide_offset.ensures (c.requires.inside constant) in
    ap (range_with_len c.slide_offset.result) (c.from.ensures ∙ c.size-width.ensures) ∙ value ∙ offsets_when (names_constants g b) c.args.signal w (slide_offset r c.args.up w (whole_number g b)) constant

pub returns-in_default : goal.returns-in_default
returns-in_default c =
    let g = binding_of c.args.scope.now in
    let b = expr_view c.args.base.now in
    let w = natural_number g (expr_view c.args.width.now) in
    let r = range_or c.args.signal.range in
    let constant : names_constants g b ≡ true = sym c.names_constants.ensures ∙ c.if-not-names_constants.false in
    let value = slide_nowhere r c.args.up w (whole_number g b) c.requires.some.0 (λ n e. c.in_default.not-At n (c.number.ensures ∙ e)) (c.requires.inside constant) in
    record {
      value = value ∙ offsets_when (names_constants g b) c.args.signal w (slide_offset r c.args.up w (whole_number g b)) constant;
      within = omega arith;
    }
