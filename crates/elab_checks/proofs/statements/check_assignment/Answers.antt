use Rattle.std.proofs.Common.{◌++◌, sym, ap, ◌∙◌}
use Rattle.verilog_tree.specs.View.{expr_view}
use Rattle.flat_design.specs.Bodies.{met_faults, met_writings}
use Rattle.flat_design.specs.Expressions.{faults}
use Rattle.flat_design.specs.Scope.{binding_of}
use Rattle.flat_design.specs.Targets.{target_faults}
use Rattle.elab_scope.specs.Tally.{after_all}
use Rattle.elab_scope.proofs.TallyLemmas.{after_all-faults}
use Rattle.elab_checks.proofs.MetLemmas.{after_two}
use Rattle.elab_checks.proofs.StatementLemmas.{ok_along}
use Rattle.elab_checks.proofs.statements.check_assignment.Goals as goal

pub returns : goal.returns
returns c =
    let g = binding_of c.args.scope.now in
    let t = c.args.tally.now in
    let w = c.args.writer in
    let fs = target_faults g c.args.mode (expr_view c.args.target.now) in
    let gs = faults g (expr_view c.args.value.now) in
    let ws = met_writings g c.args.mode w.blocking w.continuous w.process (expr_view c.args.target.now) in
    let told = after_two t fs gs c.check_target-sound.ensures.met c.check.ensures.met in
    ok_along c.push_writings.result c.push_writings.new.tally (after_all c.check.new.tally ws) (after_all t (met_faults (fs ++ gs) ++ ws)) (ap (λ u. after_all u ws) told ∙ sym (after_all-faults t (fs ++ gs) ws)) c.push_writings.ensures
