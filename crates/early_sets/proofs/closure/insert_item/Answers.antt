use Rattle.std.proofs.Common.{◌∙◌, sym}
use Rattle.early_sets.proofs.Adding.{item_added, item_left, one_added}
use Rattle.early_sets.proofs.closure.insert_item.Goals as goal

pub returns-then-is_apart-clause-adds : goal.returns-then-is_apart-clause-adds
returns-then-is_apart-clause-adds c =
    item_added c.args.number c.args.except c.args.set.now.items c.insert.new.self.items (sym c.is_apart.ensures ∙ c.if-is_apart.true)
    (one_added c.args.set.now.items c.insert.new.self.items c.args.number c.insert.result c.insert.ensures.there c.insert.ensures.items)

pub returns-else-is_apart-clause-adds : goal.returns-else-is_apart-clause-adds
returns-else-is_apart-clause-adds c = item_left c.args.number c.args.except c.args.set.now.items (sym c.is_apart.ensures ∙ c.if-is_apart.false)
