use Rattle.std.proofs.Common.{true}
use Rattle.verilog_tree.specs.View.{expr_view}
use Rattle.flat_design.specs.Bodies.{met_process, met_writings}
use Rattle.flat_design.specs.Expressions.{faults}
use Rattle.flat_design.specs.Processes.{self_faults}
use Rattle.flat_design.specs.Scope.{binding_of}
use Rattle.flat_design.specs.Targets.{target_faults}
use Rattle.flat_design.specs.declared.entry.Mode.TheVariants.{Continuous}
use Rattle.elab_checks.proofs.ExpressionLemmas.{none_then_both}
use Rattle.elab_processes.proofs.MetLemmas.{assignment_met}
use Rattle.elab_processes.proofs.continuous.check_continuous.Goals as goal

pub check_self_assign-requires : goal.check_self_assign-requires
check_self_assign-requires c =
    let g = binding_of c.args.scope.now in
    record {
      sound = none_then_both c.check_target-sound.result c.check-known.result (target_faults g Continuous (expr_view c.args.target.now)) (faults g (expr_view c.args.value.now)) c.check_target-sound.ensures.sound c.check-known.ensures.sound;
    }

pub returns : goal.returns
returns c =
    let g = binding_of c.args.scope.now in
    let x = expr_view c.args.target.now in
    let v = expr_view c.args.value.now in
    assignment_met c.check_self_assign.result c.args.tally.now c.process.new.self c.check_target-sound.new.tally c.check-known.new.tally c.push_writings.new.tally c.check_self_assign.new.tally
    (met_process c.args.place) (target_faults g Continuous x) (faults g v) (self_faults g x v) (met_writings g Continuous true true c.args.process x)
    c.process.ensures c.check_target-sound.ensures.met c.check-known.ensures.met c.in_ok-push_writings.ensures c.check_self_assign.ensures
