use Rattle.std.proofs.Common.{◌≡◌, ◌++◌, drop}
use Rattle.elab_scope.specs.View.{names_view}
use Rattle.elaborator.proofs.inner.port_names.Given as goal

-- the names so far, with those that are left, are all
abbrev pub invariant-loop-port : goal.invariant-loop-port
invariant-loop-port l = names_view l.names.items ++ drop l.port-index l.port-items ≡ l.fn.inner.ports
