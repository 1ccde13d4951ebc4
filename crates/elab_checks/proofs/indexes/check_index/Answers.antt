use Rattle.std.proofs.Common.{◌≡◌, ◌∙◌, sym, ap, true}
use Rattle.flat_design.specs.Expressions.{faults}
use Rattle.flat_design.specs.Fault.{none}
use Rattle.flat_design.specs.Scope.{binding_of, names_constants}
use Rattle.verilog_tree.specs.View.{expr_view}
use Rattle.elab_checks.specs.Selected.{selected_view}
use Rattle.elab_scope.specs.Tally.{after_faults}
use Rattle.elab_checks.proofs.ExpressionLemmas.{index_is}
use Rattle.elab_checks.proofs.indexes.check_index.Goals as goal

pub returns-clause-met : goal.returns-clause-met
returns-clause-met c =
    let g = binding_of c.args.scope.now in
    let i = expr_view c.args.index.now in
    let constant : names_constants g i ≡ true = cc in
    let sound : none (faults g i) ≡ true = cc in
    rw c.number.ensures at c.check_bit.ensures.met ∙ sym (ap (after_faults c.args.tally.now) (index_is g (selected_view c.args.bits) i (faults g i) constant sound))

pub returns-clause-sound : goal.returns-clause-sound
returns-clause-sound c =
    let g = binding_of c.args.scope.now in
    let i = expr_view c.args.index.now in
    let constant : names_constants g i ≡ true = cc in
    let sound : none (faults g i) ≡ true = cc in
    rw c.number.ensures at c.check_bit.ensures.sound ∙ sym (ap none (index_is g (selected_view c.args.bits) i (faults g i) constant sound))
