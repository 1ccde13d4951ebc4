use Rattle.std.proofs.Common.{subst, sym}
use Rattle.verilog_tree.specs.View.{modules_view}
use Rattle.tree_places.specs.Counted.{AreCountable}
use Rattle.elaborator.proofs.elaboration.elaborate.Goals as goal

pub new-requires : goal.new-requires
new-requires c = subst (λ ms. AreCountable (modules_view ms)) (sym c.as_slice.ensures) c.requires
