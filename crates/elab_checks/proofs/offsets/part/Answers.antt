use Rattle.std.proofs.Common.{◌≡◌, pos, ap, ◌∙◌}
use Rattle.std.specs.List.{range_with_len}
use Rattle.design_model.specs.Value.{offset}
use Rattle.flat_design.specs.Scope.{binding_of, natural_number, range_or, whole_number}
use Rattle.verilog_tree.specs.View.{expr_view}
use Rattle.elab_checks.proofs.OffsetLemmas.{part_value}
use Rattle.elab_checks.proofs.offsets.part.Goals as goal

pub returns-clause-value : goal.returns-clause-value
returns-clause-value c =
    let g = binding_of c.args.scope.now in
    let r = range_or c.args.signal.range in
    let l = expr_view c.args.low.now in
    let at : pos c.offset.result ≡ offset r (pos (natural_number g l)) =
    c.offset.ensures ∙ ap (λ x. offset x (pos c.from.result)) c.range_or.ensures ∙ ap (λ n. offset r (pos n)) (c.from.ensures ∙ c.bound.ensures) in
    ap (range_with_len c.offset.result) c.from-2.ensures ∙ part_value r (whole_number g l) c.offset.result c.args.width c.requires.number at c.requires.inside
