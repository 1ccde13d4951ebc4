use Rattle.verilog_tree.specs.View.{expr_view}
use Rattle.flat_design.specs.Scope.{binding_of}
use Rattle.elab_checks.proofs.WritingLemmas.{single_target}
use Rattle.elab_checks.proofs.writings.add_writing.Goals as goal

pub written_by-requires-clause-sound : goal.written_by-requires-clause-sound
written_by-requires-clause-sound c = single_target (binding_of c.args.scope.now) (expr_view c.args.expr.now) c.requires.single c.requires.target
