use Rattle.std.proofs.Common.{◌++◌, append_assoc, ap, ◌∙◌}
use Rattle.verilog_tree.proofs.StatementViews.{header_view}
use Rattle.flat_design.specs.Bodies.{header_reads}
use Rattle.flat_design.specs.Identifiers.{identifiers}
use Rattle.flat_design.specs.Scope.{binding_of}
use Rattle.flat_design.specs.Targets.{target_reads}
use Rattle.verilog_tree.specs.View.{expr_view}
use Rattle.verilog_tree.specs.declared.statement.For.{out-For}
use Rattle.elab_bodies.proofs.ReadLists.{signals_both, signals_then}
use Rattle.elab_bodies.proofs.reads.add_header.Goals as goal

pub returns : goal.returns
returns c =
    let h = out-For c.args.header.now in
    let g = binding_of c.args.scope.now in
    let start = target_reads (expr_view h.name) ++ identifiers (expr_view h.first) in
    let test = identifiers (expr_view h.test) in
    let target = target_reads (expr_view h.target) in
    let step = identifiers (expr_view h.step) in
    let front = signals_both g c.args.signals.now c.add_set.new.signals c.add_expr.new.signals start test c.in_ok-add_set.ensures c.in_ok-add_expr.ensures in
    signals_then c.add_set-2.result g c.args.signals.now c.add_expr.new.signals c.add_set-2.new.signals (start ++ test) (target ++ step) _ (ap header_reads (header_view c.args.header.now) ∙ append_assoc (start ++ test) target step) front c.add_set-2.ensures
