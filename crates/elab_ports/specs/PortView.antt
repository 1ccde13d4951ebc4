-- The ports that an instance joins, and how they are joined, for those of the code.
use Rattle.std.specs.Prelude.{List, map}
use Rattle.flat_design.specs.Connections as spec
use Rattle.verilog_tree.specs.View.{expr_view}
use Rattle.elab_scope.specs.View.{name_view}
use Rattle.elab_declarations.specs.DeclarationView.{declaration_view}
use Rattle.elab_ports.specs.declared.ports.JoinedPort.{JoinedPort}
use Rattle.elab_ports.specs.declared.joining.Joined.{Joined}
use Rattle.elab_ports.specs.declared.joining.Joined.TheVariants.{Alias, Assignment, Nothing}

-- the port with its expression
abbrev pub port_view : JoinedPort → spec.JoinedPort
port_view j = record { port = declaration_view j.port; label = name_view j.label; value = expr_view j.value.now }

-- ports in order
abbrev pub ports_view : List JoinedPort → List spec.JoinedPort
ports_view js = map port_view js

-- how it is joined
abbrev pub joined_view : Joined → spec.Joined
joined_view (Alias n) = spec.as_alias n
joined_view Assignment = spec.by_assignment
joined_view Nothing = spec.not_joined
