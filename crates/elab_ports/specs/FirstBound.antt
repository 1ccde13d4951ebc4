-- What the first of equal names is bound to.
use Rattle.std.specs.Prelude.{ℕ, List, Option, None}
use Rattle.std.specs.Option.{option_map, option_or}
use Rattle.flat_design.specs.Connections as spec
use Rattle.elab_scope.specs.NameMap.{bound_to, with_binding}
use Rattle.elab_ports.specs.ConnectionView.{connection_view}
use Rattle.elab_ports.specs.declared.given.Connection.{Connection}

-- the connection that a port is bound to
abbrev pub connections_by : List (List ℕ × Connection) → List ℕ → Option spec.Connection
connections_by entries x = option_map connection_view (bound_to entries x)

-- one name alone is bound
abbrev pub only_bound : {V : Type 0} → List ℕ → V → List ℕ → Option V
only_bound name v = with_binding name v (λ x. None)

-- what a name is bound to, or else what it is bound to by the second map
abbrev pub or_bound : {V : Type 0} → (List ℕ → Option V) → (List ℕ → Option V) → List ℕ → Option V
or_bound f g x = option_or (f x) (g x)
