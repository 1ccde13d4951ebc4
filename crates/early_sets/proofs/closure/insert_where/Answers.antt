use Rattle.early_sets.proofs.Adding.{where_passed, where_taken}
use Rattle.early_sets.proofs.closure.insert_where.Goals as goal

pub returns-then-condition-clause-adds : goal.returns-then-condition-clause-adds
returns-then-condition-clause-adds c = where_taken c.args.condition c.args.number c.args.except c.args.set.now.items c.insert_item.new.set.items c.if-condition.true c.insert_item.ensures.adds

pub returns-else-condition-clause-adds : goal.returns-else-condition-clause-adds
returns-else-condition-clause-adds c = where_passed c.args.condition c.args.number c.args.except c.args.set.now.items c.if-condition.false
