use Rattle.std.proofs.Common.{◌≡◌, ◌+◌, ◌*◌, ◌<◌, ◌^◌, drop}
use Rattle.verilog_tree.specs.View.{givens_view, items_view, module_view, modules_view, ones_view}
use Rattle.flat_design.specs.Scope.{binding_of}
use Rattle.elab_declarations.specs.Constants.{overrides_view}
use Rattle.elab_instances.specs.InstanceView.{instantiation_view}
use Rattle.tree_places.specs.Counted.{ones_nodes}
use Rattle.elaborator.specs.Named.{item_of}
use Rattle.elaborator.specs.Room.{HaveRoom, items_room}
use Rattle.elaborator.specs.Walk.{items_lines}
use Rattle.elaborator.specs.declared.walk.Numbers.{Numbers}
use Rattle.elaborator.specs.declared.walk.Walk.{Walk}
use Rattle.elaborator.proofs.KeptLemmas.{Keeps}
use Rattle.elaborator.proofs.WalkItems.{ItemsGo}
use Rattle.elaborator.proofs.WalkOnes.{OnesGo}
use Rattle.elaborator.proofs.+walk.Given as goal

-- what goes on from here by the items that are left goes on from the start by all
abbrev pub invariant-items::walk_items-loop-item : goal.invariant-items::walk_items-loop-item
invariant-items::walk_items-loop-item l =
    let ms = modules_view l.fn.ground.modules.now.modules.now in
    let given = instantiation_view l.fn.body.given.now in
    let g = binding_of l.fn.scope in
    record {
      goes : (later : Walk) (others : Numbers) → ItemsGo l.fn.ground.base ms l.fn.depth given g (items_view (drop l.item-index l.items)) l.walk l.numbers later others → ItemsGo l.fn.ground.base ms l.fn.depth given g (items_view l.fn.items) l.fn.walk l.fn.numbers later others;
      scope : binding_of l.scope ≡ g;
      keeps : Keeps l.fn.walk l.walk;
      room : HaveRoom l.numbers (items_lines (items_view (drop l.item-index l.items))) (items_room g (items_view (drop l.item-index l.items)));
    }

-- the same by instances
abbrev pub invariant-instances::walk_ones-loop-one : goal.invariant-instances::walk_ones-loop-one
invariant-instances::walk_ones-loop-one l =
    let ms = modules_view l.fn.ground.modules.now.modules.now in
    let given = instantiation_view l.fn.body.given.now in
    let g = binding_of l.fn.scope in
    let x = item_of l.fn.item.module.now (givens_view l.fn.item.overrides.now) (ones_view l.fn.item.ones.now) in
    let m = module_view l.fn.of.module.now in
    let os = overrides_view l.fn.of.overrides.items in
    record {
      goes : (later : Walk) → OnesGo l.fn.ground.base ms l.fn.depth given g l.fn.item.place x m os (ones_view (drop l.one-index l.ones)) l.fn.numbers l.walk later → OnesGo l.fn.ground.base ms l.fn.depth given g l.fn.item.place x m os (ones_view l.fn.ones) l.fn.numbers l.fn.walk later;
      keeps : Keeps l.fn.walk l.walk;
      few : ones_nodes g (ones_view (drop l.one-index l.ones)) < 2 ^ 32;
    }

-- an instance is one level deeper, and each other call is of a function further down
abbrev pub decreases-items::walk_items : goal.decreases-items::walk_items
decreases-items::walk_items l = 8 * l.depth + 5

abbrev pub decreases-items::walk_item : goal.decreases-items::walk_item
decreases-items::walk_item l = 8 * l.depth + 4

abbrev pub decreases-instances::walk_instances : goal.decreases-instances::walk_instances
decreases-instances::walk_instances l = 8 * l.depth + 3

abbrev pub decreases-instances::walk_ones : goal.decreases-instances::walk_ones
decreases-instances::walk_ones l = 8 * l.depth + 2

abbrev pub decreases-instances::walk_one : goal.decreases-instances::walk_one
decreases-instances::walk_one l = 8 * l.depth + 1

abbrev pub decreases-instances::walk_instance : goal.decreases-instances::walk_instance
decreases-instances::walk_instance l = 8 * l.depth
