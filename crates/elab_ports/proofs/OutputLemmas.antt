-- The faults of outputs, one expression after another.
use Rattle.std.proofs.Common.{◌≡◌, ◌++◌}
use Rattle.std.proofs.lemmas.Grind.{flat_map-append}
use Rattle.verilog_tree.specs.Tree.{Expr, Exprs, an_expr}
use Rattle.verilog_tree.specs.declared.item.Named.{Named}
use Rattle.flat_design.specs.Connections.{output_faults, output_leaf_faults}
use Rattle.flat_design.specs.Identifiers.{base_name}
use Rattle.flat_design.specs.Scope.{Scope, look_up}
use Rattle.flat_design.specs.Targets.{all_leaves, leaves}
use Rattle.elab_ports.specs.Outputs.{all_output_faults}

-- of one and then of the others
pub outputs_next : (g : Scope) (label : Named) (e : Expr) (es : Exprs) → all_output_faults g label (an_expr e es) ≡ output_faults g label e ++ all_output_faults g label es
outputs_next g label e es = flat_map-append (λ x. output_leaf_faults g label (look_up g (base_name x).name) x) (leaves e) (all_leaves es)
