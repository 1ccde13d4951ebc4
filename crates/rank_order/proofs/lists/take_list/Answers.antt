use Rattle.std.proofs.Common.{◌∙◌, set, ap}
use Rattle.rank_order.specs.Order.{lists_of}
use Rattle.rank_order.proofs.Orders.{lists_set}
use Rattle.rank_order.proofs.lists.take_list.Goals as goal

pub returns-clause-lists : goal.returns-clause-lists
returns-clause-lists c =
    lists_set c.args.lists.now.items c.args.list c.replace.new.dest ∙ ap (set (lists_of c.args.lists.now.items) c.args.list) (ap (λ v. v.items) c.replace.ensures.after ∙ c.new.ensures.items)
