use Rattle.std.proofs.Common.{◌≡◌, ◌++◌, not, drop, map}
use Rattle.std.specs.Prelude.{filter}
use Rattle.verilog_tree.specs.View.{params_view}
use Rattle.elab_scope.specs.View.{names_view}
use Rattle.elab_ports.proofs.overrides.push_free.Given as goal

-- the names so far, with those of the parameters that are left, are all
abbrev pub invariant-loop-param : goal.invariant-loop-param
invariant-loop-param l =
    names_view l.names.items ++ map (λ p. p.name) (filter (λ p. not p.local) (params_view (drop l.param-index l.params))) ≡ names_view l.fn.names.items ++ map (λ p. p.name) (filter (λ p. not p.local) (params_view l.fn.params))
