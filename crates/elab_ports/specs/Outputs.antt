-- The faults of outputs that are joined to several expressions.
use Rattle.std.specs.Prelude.{List, flat_map}
use Rattle.verilog_tree.specs.Tree.{Exprs}
use Rattle.verilog_tree.specs.declared.item.Named.{Named}
use Rattle.flat_design.specs.Connections.{output_leaf_faults}
use Rattle.flat_design.specs.Fault.{Fault}
use Rattle.flat_design.specs.Identifiers.{base_name}
use Rattle.flat_design.specs.Scope.{Scope, look_up}
use Rattle.flat_design.specs.Targets.{all_leaves}

-- of each part of each of them
abbrev pub all_output_faults : Scope → Named → Exprs → List Fault
all_output_faults g label es = flat_map (λ x. output_leaf_faults g label (look_up g (base_name x).name) x) (all_leaves es)
