use Rattle.std.proofs.Common.{◌≡◌, drop, map}
use Rattle.verilog_tree.specs.View.{declareds_view}
use Rattle.flat_design.specs.Scope.{binding_of}
use Rattle.elab_declarations.specs.Constants.{with_others}
use Rattle.elab_declarations.proofs.others.add_declared.Given as goal

-- with the names that are left the scope is the last one
abbrev pub invariant-loop-declared : goal.invariant-loop-declared
invariant-loop-declared l = with_others (map (λ d. d.name) (declareds_view (drop l.declared-index l.names))) (binding_of l.scope) ≡ with_others (map (λ d. d.name) (declareds_view l.fn.names)) (binding_of l.fn.scope)
