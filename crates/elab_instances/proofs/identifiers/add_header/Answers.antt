use Rattle.std.proofs.Common.{◌++◌, append_assoc, ap, ◌∙◌}
use Rattle.verilog_tree.proofs.StatementViews.{header_view}
use Rattle.flat_design.specs.Identifiers.{header_identifiers, identifiers}
use Rattle.verilog_tree.specs.View.{expr_view}
use Rattle.verilog_tree.specs.declared.statement.For.{out-For}
use Rattle.elab_scope.specs.NameSet.{has}
use Rattle.elab_instances.proofs.NamesLemmas.{names_both, names_then}
use Rattle.elab_instances.proofs.identifiers.add_header.Goals as goal

pub returns : goal.returns
returns c =
    let h = out-For c.args.header.now in
    let start = identifiers (expr_view h.name) ++ identifiers (expr_view h.first) in
    let test = identifiers (expr_view h.test) in
    let target = identifiers (expr_view h.target) in
    let step = identifiers (expr_view h.step) in
    let front = names_both (has c.args.names.now) (has c.add_two.new.names) (has c.add_expr.new.names) start test c.in_ok-add_two.ensures c.in_ok-add_expr.ensures in
    names_then c.add_two-2.result (has c.args.names.now) (has c.add_expr.new.names) (has c.add_two-2.new.names) (start ++ test) (target ++ step) _ (ap header_identifiers (header_view c.args.header.now) ∙ append_assoc (start ++ test) target step) front c.add_two-2.ensures
