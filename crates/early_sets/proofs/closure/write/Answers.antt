use Rattle.std.proofs.Common.{subst, arith}
use Rattle.std.specs.List.{Contains}
use Rattle.early_sets.proofs.Adding.{write_added}
use Rattle.early_sets.proofs.closure.write.Goals as goal

pub row-requires : goal.row-requires
row-requires g c = omega (arith, c.args.tables.now.nonblocking_within.count_is)

pub insert_row-requires : goal.insert_row-requires
insert_row-requires g c = λ x h. omega (arith, c.requires.size, c.args.tables.now.nonblocking_within.below c.args.process x (subst (λ r. Contains r x) c.row.ensures h))

pub row-requires-2 : goal.row-requires-2
row-requires-2 g c = omega (arith, c.args.tables.now.blocking_within.count_is)

pub insert_row-requires-2 : goal.insert_row-requires-2
insert_row-requires-2 g c = λ x h. omega (arith, c.requires.size, c.insert_row.ensures.size, c.args.tables.now.blocking_within.below c.args.process x (subst (λ r. Contains r x) c.row-2.ensures h))

pub returns-clause-adds : goal.returns-clause-adds
returns-clause-adds g c =
    let a = rw c.row.ensures at c.insert_row.ensures.adds in
    let b = rw (c.row-2.ensures, c.is_apart-other.ensures) at c.insert_row-2.ensures.adds in
    write_added c.args.tables.now c.args.rule c.args.process c.args.things.now.items c.insert_row.new.set.items c.insert_row-2.new.set.items a b

pub returns-clause-turns : goal.returns-clause-turns
returns-clause-turns g c =
    let a = rw c.row.ensures at c.insert_row.ensures.turns in
    let b = rw c.row-2.ensures at c.insert_row-2.ensures.turns in
    omega (arith, a, b)
