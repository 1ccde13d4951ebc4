use Rattle.verilog_tree.specs.View.{expr_view}
use Rattle.verilog_tree.specs.declared.statement.For.{out-For}
use Rattle.flat_design.specs.Loops.{named_faults}
use Rattle.flat_design.specs.Scope.{binding_of}
use Rattle.elab_checks.proofs.MetLemmas.{after_two, sound_two}
use Rattle.verilog_tree.proofs.StatementViews.{header_view}
use Rattle.elab_checks.proofs.loops.check_inside.Goals as goal

pub returns-clause-met : goal.returns-clause-met
returns-clause-met c =
    let g = binding_of c.args.scope.now in
    let h = out-For c.args.header.now in
    rw (header_view c.args.header.now) (after_two c.args.tally.now (named_faults g h.place (expr_view h.test)) (named_faults g h.place (expr_view h.step)) c.check_named-test.ensures.met c.check_named-step.ensures.met)

pub returns-clause-sound : goal.returns-clause-sound
returns-clause-sound c =
    let g = binding_of c.args.scope.now in
    let h = out-For c.args.header.now in
    rw (header_view c.args.header.now) (sound_two (named_faults g h.place (expr_view h.test)) (named_faults g h.place (expr_view h.step)) c.check_named-test.ensures.sound c.check_named-step.ensures.sound c.names_faulty.ensures c.names_faulty-2.ensures)
