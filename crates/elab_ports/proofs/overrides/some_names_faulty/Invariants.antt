use Rattle.std.proofs.Common.{◌≡◌, drop}
use Rattle.std.specs.List.{list_any}
use Rattle.verilog_tree.specs.View.{givens_view}
use Rattle.flat_design.specs.Connections.{value_names_faulty}
use Rattle.flat_design.specs.Scope.{binding_of}
use Rattle.elab_ports.proofs.overrides.some_names_faulty.Given as goal

-- whether one of the values that are left names something that has a fault decides
abbrev pub invariant-loop-one : goal.invariant-loop-one
invariant-loop-one l =
    list_any (λ c. value_names_faulty (binding_of l.scope) c.value) (givens_view (drop l.one-index l.given)) ≡ list_any (λ c. value_names_faulty (binding_of l.fn.scope) c.value) (givens_view l.fn.given)
