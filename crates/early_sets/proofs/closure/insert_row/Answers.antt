use Rattle.early_sets.proofs.Adding.{row_passed, row_taken}
use Rattle.early_sets.proofs.closure.insert_row.Goals as goal

pub returns-then-condition-clause-adds : goal.returns-then-condition-clause-adds
returns-then-condition-clause-adds g c = row_taken c.args.condition c.args.row.now c.args.except c.args.set.now.items c.insert_items.new.set.items c.if-condition.true c.insert_items.ensures.adds

pub returns-else-condition-clause-adds : goal.returns-else-condition-clause-adds
returns-else-condition-clause-adds g c = row_passed c.args.condition c.args.row.now c.args.except c.args.set.now.items c.if-condition.false
