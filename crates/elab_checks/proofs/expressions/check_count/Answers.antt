use Rattle.std.proofs.Common.{◌≡◌, true}
use Rattle.flat_design.specs.Expressions.{faults, number_faults}
use Rattle.flat_design.specs.Fault.{none}
use Rattle.flat_design.specs.Scope.{binding_of, names_constants}
use Rattle.verilog_tree.specs.View.{expr_view}
use Rattle.elab_checks.proofs.ExpressionLemmas.{number_known}
use Rattle.elab_checks.proofs.expressions.check_count.Goals as goal

pub number-requires-clause-sound : goal.number-requires-clause-sound
number-requires-clause-sound c =
    let g = binding_of c.args.scope.now in
    let e = expr_view c.args.count.now in
    let constant : names_constants g e ≡ true = cc in
    let sound : none (number_faults g e (faults g e)) ≡ true = cc in
    number_known g e constant sound
