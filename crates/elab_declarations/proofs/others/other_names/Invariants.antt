use Rattle.std.proofs.Common.{◌≡◌, drop}
use Rattle.std.specs.Prelude.{flat_map}
use Rattle.verilog_tree.specs.View.{items_view, module_view}
use Rattle.flat_design.specs.Identifiers.{declared_names}
use Rattle.flat_design.specs.Instances as of
use Rattle.flat_design.specs.Scope.{binding_of}
use Rattle.elab_declarations.specs.Constants.{with_others}
use Rattle.elab_declarations.proofs.others.other_names.Given as goal

-- with the names of the items that are left the scope is the whole
abbrev pub invariant-loop-item : goal.invariant-loop-item
invariant-loop-item l = with_others (flat_map (λ i. declared_names i.form) (items_view (drop l.item-index l.item-items))) (binding_of l.scope) ≡ of.other_names (module_view l.fn.definition)
