use Rattle.std.proofs.Common.{◌≡◌, drop}
use Rattle.std.specs.Prelude.{flat_map}
use Rattle.flat_design.specs.Identifiers.{is_among, item_loops}
use Rattle.flat_design.specs.Instances.{loop_variables}
use Rattle.verilog_tree.specs.View.{items_view, module_view}
use Rattle.elab_scope.specs.NameSet.{has}
use Rattle.elab_instances.specs.Names.{with_names}
use Rattle.elab_instances.proofs.used.loop_variables.Given as goal

-- the set with the names of the items that are left has all
abbrev pub invariant-loop-item : goal.invariant-loop-item
invariant-loop-item l = with_names (flat_map (λ i. item_loops i.form) (items_view (drop l.item-index l.item-items))) (has l.names) ≡ is_among (loop_variables (module_view l.fn.definition))
