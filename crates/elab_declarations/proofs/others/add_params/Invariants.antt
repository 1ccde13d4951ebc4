use Rattle.std.proofs.Common.{◌≡◌, drop, map}
use Rattle.verilog_tree.specs.View.{params_view}
use Rattle.flat_design.specs.Scope.{binding_of}
use Rattle.elab_declarations.specs.Constants.{with_others}
use Rattle.elab_declarations.proofs.others.add_params.Given as goal

-- with the names that are left the scope is the last one
abbrev pub invariant-loop-param : goal.invariant-loop-param
invariant-loop-param l = with_others (map (λ d. d.name) (params_view (drop l.param-index l.params))) (binding_of l.scope) ≡ with_others (map (λ d. d.name) (params_view l.fn.params)) (binding_of l.fn.scope)
