use Rattle.std.proofs.Common.{◌≡◌, drop, map}
use Rattle.verilog_tree.specs.View.{ones_view}
use Rattle.flat_design.specs.Scope.{binding_of}
use Rattle.elab_declarations.specs.Constants.{with_others}
use Rattle.elab_declarations.proofs.others.add_ones.Given as goal

-- with the names that are left the scope is the last one
abbrev pub invariant-loop-one : goal.invariant-loop-one
invariant-loop-one l = with_others (map (λ d. d.name) (ones_view (drop l.one-index l.ones))) (binding_of l.scope) ≡ with_others (map (λ d. d.name) (ones_view l.fn.ones)) (binding_of l.fn.scope)
