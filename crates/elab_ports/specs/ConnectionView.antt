-- The connections of the definitions for those of the code.
use Rattle.std.specs.Prelude.{List, map, Option}
use Rattle.std.specs.Option.{option_map}
use Rattle.std.specs.Borrow.{Bor}
use Rattle.flat_design.specs.Connections as spec
use Rattle.verilog_tree.specs.Tree as t
use Rattle.verilog_tree.specs.View.{expr_view}
use Rattle.verilog_tree.specs.declared.expr.Expr.{Expr}
use Rattle.elab_scope.specs.View.{name_view}
use Rattle.elab_ports.specs.declared.given.Connection.{Connection}

-- the expression that was borrowed, if there is one
abbrev pub value_view : Option (Bor Expr) → Option t.Expr
value_view e = option_map (λ e. expr_view e.now) e

-- the connection
abbrev pub connection_view : Connection → spec.Connection
connection_view c = record { port = c.port.now; label = name_view c.label; value = value_view c.value }

-- connections in order
abbrev pub connections_view : List Connection → List spec.Connection
connections_view cs = map connection_view cs
