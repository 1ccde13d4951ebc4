use Rattle.verilog_tree.specs.Tree.{Header}
use Rattle.verilog_tree.specs.View.{expr_view}
use Rattle.verilog_tree.specs.declared.statement.For.{out-For}
use Rattle.flat_design.specs.Loops.{named_faults, over_faults}
use Rattle.flat_design.specs.Scope.{binding_of}
use Rattle.elab_checks.proofs.MetLemmas.{sound_two}
use Rattle.verilog_tree.proofs.StatementViews.{header_view}
use Rattle.elab_checks.proofs.loops.check_outside.Goals as goal

pub returns-clause-sound : goal.returns-clause-sound
returns-clause-sound c =
    let g = binding_of c.args.scope.now in
    let h = out-For c.args.header.now in
    let header : Header = record { place = h.place; name = expr_view h.name; first = expr_view h.first; test = expr_view h.test; target = expr_view h.target; step = expr_view h.step } in
    let over = rw (header_view c.args.header.now) at c.check_over-over.ensures.sound in
    rw (header_view c.args.header.now) (sound_two (over_faults g header) (named_faults g h.place (expr_view h.first)) over c.check_named-first.ensures.sound c.names_faulty.ensures c.names_faulty-2.ensures)
