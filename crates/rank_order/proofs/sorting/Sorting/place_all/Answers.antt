use Rattle.std.proofs.Common.{get_or, take, sym, subst}
use Rattle.std.proofs.lemmas.List.{take_more}
use Rattle.std.proofs.lemmas.List.Elements.{Contains-get_or}
use Rattle.rank_order.specs.Order.{lists_of}
use Rattle.rank_order.specs.Sorting.{Places}
use Rattle.rank_order.proofs.Progress.{none_placed, one_more}
use Rattle.rank_order.proofs.sorting.Sorting.place_all.Goals as goal

pub loop-node-init : goal.loop-node-init
loop-node-init c = (c.requires.sorting, none_placed (lists_of c.args.needs.now) c.args.self.now)

pub place-requires-clause-node : goal.place-requires-clause-node
place-requires-clause-node c =
    c.requires.below (get_or c.args.nodes.now c.loop-node.node-index 0) (Contains-get_or c.args.nodes.now c.loop-node.node-index 0 c.loop-node-test.true)

pub loop-node-preserved : goal.loop-node-preserved
loop-node-preserved c =
    let nodes = c.args.nodes.now in
    let i = c.loop-node.node-index in (
      c.in_ok-place.ensures.sorting,
      subst (λ xs. Places (lists_of c.args.needs.now) xs c.args.self.now c.place.new.self) (sym (take_more nodes i 0 c.loop-node-test.true)) (one_more (lists_of c.args.needs.now) (take i nodes) (get_or nodes i 0) c.args.self.now c.loop-node.self c.place.new.self c.loop-node.invariant.1 c.in_ok-place.ensures.placed),
    )
