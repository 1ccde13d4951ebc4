use Rattle.verilog_tree.specs.View.{expr_view}
use Rattle.elab_const.specs.declared.fault.ConstKind.TheVariants.{LoopNotConstant}
use Rattle.flat_design.specs.Expressions.{faults, undeclared, names_no_constant}
use Rattle.flat_design.specs.Fault.{fault_if, of_constant}
use Rattle.flat_design.specs.Scope.{binding_of}
use Rattle.elab_checks.proofs.MetLemmas.{after_two}
use Rattle.elab_checks.proofs.loops.check_named.Goals as goal
use Rattle.std.proofs.Common.{◌++◌}

pub returns-clause-met : goal.returns-clause-met
returns-clause-met c =
    let g = binding_of c.args.scope.now in
    let e = expr_view c.args.expr.now in
    let told = fault_if (names_no_constant g e) (of_constant LoopNotConstant c.args.place) in
    let constant = rw c.names_no_constant-other.ensures at c.tell_if-constant.ensures.met in
    after_two c.args.tally.now (undeclared g e ++ told) (faults g e) (after_two c.args.tally.now (undeclared g e) told c.check_declared-declared.ensures.met constant) c.check-sound.ensures.met
