use Rattle.std.proofs.Common.{◌++◌, length-append, subst, arith}
use Rattle.std.specs.List.{Contains}
use Rattle.index_sets.specs.Rows.{row_at}
use Rattle.early_sets.specs.Changes.{edges_of}
use Rattle.early_sets.proofs.Adding.{wake_added}
use Rattle.early_sets.proofs.closure.wake.Goals as goal

pub row-requires : goal.row-requires
row-requires g c = omega (arith, c.args.tables.now.level_within.count_is, c.requires.thing)

pub row-requires-2 : goal.row-requires-2
row-requires-2 g c = omega (arith, c.args.tables.now.rising_within.count_is, c.requires.thing)

pub row-requires-3 : goal.row-requires-3
row-requires-3 g c = omega (arith, c.args.tables.now.falling_within.count_is, c.requires.thing)

pub insert_row-requires : goal.insert_row-requires
insert_row-requires g c = λ x h. omega (arith, c.requires.size, c.args.tables.now.level_within.below c.args.thing x (subst (λ r. Contains r x) c.row.ensures h))

pub insert_row-requires-2 : goal.insert_row-requires-2
insert_row-requires-2 g c = λ x h. omega (arith, c.requires.size, c.insert_row.ensures.size, c.args.tables.now.rising_within.below c.args.thing x (subst (λ r. Contains r x) c.row-2.ensures h))

pub insert_row-requires-3 : goal.insert_row-requires-3
insert_row-requires-3 g c = λ x h. omega (arith, c.requires.size, c.insert_row.ensures.size, c.insert_row-2.ensures.size, c.args.tables.now.falling_within.below c.args.thing x (subst (λ r. Contains r x) c.row-3.ensures h))

pub returns-clause-adds : goal.returns-clause-adds
returns-clause-adds g c =
    let a = rw c.row.ensures at c.insert_row.ensures.adds in
    let b = rw (c.row-2.ensures, c.edges-may_be.ensures) at c.insert_row-2.ensures.adds in
    let f = rw (c.row-3.ensures, c.edges-may_be.ensures) at c.insert_row-3.ensures.adds in
    wake_added c.args.tables.now (edges_of c.args.changes.now) c.args.thing c.args.processes.now.items c.insert_row.new.set.items c.insert_row-2.new.set.items c.insert_row-3.new.set.items a b f

pub returns-clause-turns : goal.returns-clause-turns
returns-clause-turns g c =
    let level = row_at c.args.tables.now.level c.args.thing in
    let rising = row_at c.args.tables.now.rising c.args.thing in
    let falling = row_at c.args.tables.now.falling c.args.thing in
    let a = rw c.row.ensures at c.insert_row.ensures.turns in
    let b = rw c.row-2.ensures at c.insert_row-2.ensures.turns in
    let f = rw c.row-3.ensures at c.insert_row-3.ensures.turns in
    omega (arith, a, b, f, length-append (level ++ rising) falling, length-append level rising)
