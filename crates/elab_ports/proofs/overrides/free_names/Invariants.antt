use Rattle.std.proofs.Common.{◌≡◌, ◌++◌, not, drop, map}
use Rattle.std.specs.Prelude.{filter, flat_map}
use Rattle.verilog_tree.specs.View.{items_view, module_view}
use Rattle.flat_design.specs.Connections.{free_names}
use Rattle.flat_design.specs.Identifiers.{item_params}
use Rattle.elab_scope.specs.View.{names_view}
use Rattle.elab_ports.proofs.overrides.free_names.Given as goal

-- the names so far, with those of the items that are left, are all
abbrev pub invariant-loop-item : goal.invariant-loop-item
invariant-loop-item l =
    names_view l.names.items ++ map (λ p. p.name) (filter (λ p. not p.local) (flat_map (λ i. item_params i.form) (items_view (drop l.item-index l.item-items)))) ≡ free_names (module_view l.fn.definition)
