use Rattle.std.proofs.Common.{◌≡◌, drop}
use Rattle.verilog_tree.specs.Tree.{exprs_of}
use Rattle.verilog_tree.specs.View.{exprs_view}
use Rattle.flat_design.specs.Identifiers.{all_identifiers}
use Rattle.flat_design.specs.Scope.{binding_of}
use Rattle.elab_scope.specs.NameTests.{pass_some}
use Rattle.elab_scope.proofs.names.+names_some.Given as goal

-- whether a name of the rest passes decides
abbrev pub invariant-any_names_some-loop-expr : goal.invariant-any_names_some-loop-expr
invariant-any_names_some-loop-expr l =
    pass_some l.test (binding_of l.scope) (all_identifiers (exprs_of (exprs_view (drop l.expr-index l.exprs)))) ≡ pass_some l.fn.test (binding_of l.fn.scope) (all_identifiers (exprs_of (exprs_view l.fn.exprs)))
