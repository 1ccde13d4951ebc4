use Rattle.std.proofs.Common.{refl}
use Rattle.flat_design.specs.Identifiers.{identifiers}
use Rattle.flat_design.specs.Scope.{binding_of}
use Rattle.flat_design.specs.Targets.{target_reads}
use Rattle.verilog_tree.specs.View.{expr_view}
use Rattle.elab_bodies.proofs.ReadLists.{signals_then}
use Rattle.elab_bodies.proofs.reads.add_set.Goals as goal

pub returns : goal.returns
returns c =
    signals_then c.add_expr.result (binding_of c.args.scope.now) c.args.signals.now c.add_target.new.signals c.add_expr.new.signals (target_reads (expr_view c.args.target.now)) (identifiers (expr_view c.args.value.now)) _ refl c.in_ok-add_target.ensures c.add_expr.ensures
