use Rattle.std.proofs.Common.{not, ap, ◌∙◌}
use Rattle.verilog_tree.specs.View.{expr_view}
use Rattle.flat_design.specs.Identifiers.{identifiers}
use Rattle.flat_design.specs.Scope.{binding_of, is_constant_entry}
use Rattle.elab_scope.proofs.NameLemmas.{none_fails}
use Rattle.elab_scope.proofs.names.names_constants.Goals as goal

pub returns : goal.returns
returns c = ap not c.names_some.ensures ∙ none_fails (λ x. is_constant_entry (binding_of c.args.scope.now x.name)) (identifiers (expr_view c.args.expr.now))
