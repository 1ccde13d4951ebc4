use Rattle.std.proofs.Common.{◌≡◌, ◌∙◌, ◌++◌, ◌∷◌, [], ◌+◌, map, take, sym, ap, subst}
use Rattle.std.proofs.lemmas.List.{map-append, take_more}
use Rattle.design_model.specs.View.{design_view}
use Rattle.design_targets.specs.Leaves.{leaf_view}
use Rattle.design_targets.proofs.Lists.{all_back}
use Rattle.process_targets.specs.Rows.{HasLeaves}
use Rattle.process_targets.specs.Targets.{IsRightLeaf}
use Rattle.process_targets.proofs.Named.{leaf_more}
use Rattle.process_targets.proofs.Placing.{placed_once}
use Rattle.process_targets.proofs.rows.bits_of.Goals as goal

pub add_leaf-requires-clause-right : goal.add_leaf-requires-clause-right
add_leaf-requires-clause-right c =
    subst (λ l. IsRightLeaf (design_view c.args.design.now) (leaf_view l)) (sym c.leaf-item.is) (all_back (IsRightLeaf (design_view c.args.design.now)) leaf_view c.args.leaves.now c.requires.right c.loop-leaf.leaf-index c.leaf-item.result c.loop-leaf-test.true)

pub loop-leaf-preserved : goal.loop-leaf-preserved
loop-leaf-preserved c =
    let more : map leaf_view (take (c.loop-leaf.leaf-index + 1) c.args.leaves.now) ≡ map leaf_view (take c.loop-leaf.leaf-index c.args.leaves.now) ++ leaf_view c.leaf-item.result ∷ [] = ap (map leaf_view) (take_more c.args.leaves.now c.loop-leaf.leaf-index c.leaf-item.result c.loop-leaf-test.true) ∙ ap (λ l. map leaf_view (take c.loop-leaf.leaf-index c.args.leaves.now ++ l ∷ [])) (sym c.leaf-item.is) ∙ map-append leaf_view (take c.loop-leaf.leaf-index c.args.leaves.now) (c.leaf-item.result ∷ []) in
    record {
      size = c.in_ok-add_leaf.ensures.size ∙ c.loop-leaf.invariant.size;
      placed = c.in_ok-add_leaf.ensures.placed;
      row = subst (λ ls. HasLeaves (design_view c.args.design.now) ls c.add_leaf.new.row.items) (sym more) (leaf_more (design_view c.args.design.now) (map leaf_view (take c.loop-leaf.leaf-index c.args.leaves.now)) (leaf_view c.leaf-item.result) c.loop-leaf.row.items c.add_leaf.new.row.items c.loop-leaf.invariant.row c.in_ok-add_leaf.ensures.row);
    }

pub returns-clause-once : goal.returns-clause-once
returns-clause-once c = placed_once c.loop-leaf.row.items c.loop-leaf.places c.loop-leaf.invariant.placed
