use Rattle.std.proofs.Common.{◌∙◌, ◌++◌, ◌∷◌, [], set, sym, ap}
use Rattle.rank_order.specs.Order.{lists_of}
use Rattle.rank_order.proofs.Orders.{list_row, lists_set}
use Rattle.rank_order.proofs.lists.add_to.Goals as goal

pub returns : goal.returns
returns c =
    let vs = c.args.lists.now.items in
    let row = list_row vs c.args.list c.index_mut.result.now c.requires c.index_mut.ensures.value in
    lists_set vs c.args.list c.push.new.self ∙ ap (set (lists_of vs) c.args.list) (c.in_ok-push.ensures.items ∙ ap (λ xs. xs ++ c.args.node ∷ []) (sym row))
