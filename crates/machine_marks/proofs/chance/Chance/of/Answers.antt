use Rattle.machine_marks.proofs.Chances.{allowed, never_possible, never_sure, not_whole, whole_sure}
use Rattle.machine_marks.proofs.chance.Chance.of.Goals as goal

pub returns-then-differs-clause-sure : goal.returns-then-differs-clause-sure
returns-then-differs-clause-sure c = never_sure c.args.known.now.bits c.args.value.now.bits c.differs.result c.differs.ensures c.if-differs.true

pub returns-then-differs-clause-possible : goal.returns-then-differs-clause-possible
returns-then-differs-clause-possible c = never_possible c.args.known.now.bits c.args.value.now.bits c.differs.result c.differs.ensures c.if-differs.true

pub returns-then-is_whole-clause-sure : goal.returns-then-is_whole-clause-sure
returns-then-is_whole-clause-sure c = whole_sure c.args.known.now.bits c.args.value.now.bits c.differs.result c.is_whole.result c.differs.ensures c.if-differs.false c.is_whole.ensures c.if-is_whole.true

pub returns-then-is_whole-clause-possible : goal.returns-then-is_whole-clause-possible
returns-then-is_whole-clause-possible c = allowed c.args.known.now.bits c.args.value.now.bits c.differs.result c.differs.ensures c.if-differs.false

pub returns-else-is_whole-clause-sure : goal.returns-else-is_whole-clause-sure
returns-else-is_whole-clause-sure c = not_whole c.args.known.now.bits c.args.value.now.bits c.is_whole.result c.is_whole.ensures c.if-is_whole.false

pub returns-else-is_whole-clause-possible : goal.returns-else-is_whole-clause-possible
returns-else-is_whole-clause-possible c = allowed c.args.known.now.bits c.args.value.now.bits c.differs.result c.differs.ensures c.if-differs.false
