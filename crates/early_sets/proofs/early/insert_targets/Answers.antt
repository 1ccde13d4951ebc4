use Rattle.std.proofs.Common.{◌≡◌, ◌∙◌, length, refl, subst, arith}
use Rattle.std.specs.List.{Contains}
use Rattle.early_sets.specs.Adds.{Adds}
use Rattle.early_sets.specs.Early.{IsTriggerTarget}
use Rattle.early_sets.specs.Turns.{process_turns}
use Rattle.std.proofs.lemmas.List.Sums.{sum_by-take-le, sum_by_more}
use Rattle.early_sets.proofs.EarlyAdding.{targets_more, targets_none}
use Rattle.early_sets.proofs.early.insert_targets.Goals as goal

pub loop-place-init : goal.loop-place-init
loop-place-init g c = (refl, targets_none c.args.tables.now c.args.processes.now.items c.args.block c.args.trigger c.args.early.now.items, omega arith)

pub insert_row-requires : goal.insert_row-requires
insert_row-requires g c = λ x h. omega (arith, c.requires.size, c.loop-place.invariant.0, c.args.tables.now.blocking_within.below c.get-process.result x (subst (λ r. Contains r x) c.row.ensures h))

pub loop-place-preserved : goal.loop-place-preserved
loop-place-preserved g c =
    let one = rw (c.row.ensures, c.get-process.ensures.value) at c.insert_row.ensures.adds in
    let turns = rw (c.row.ensures, c.get-process.ensures.value) at c.insert_row.ensures.turns in
    let next = sum_by_more (process_turns c.args.tables.now) c.args.processes.now.items c.loop-place.place 0 (omega (arith, c.len-place-end.ensures.value)) in (
      c.insert_row.ensures.size ∙ c.loop-place.invariant.0,
      targets_more c.args.tables.now c.args.processes.now.items c.loop-place.place c.args.block c.args.trigger c.args.early.now.items c.loop-place.early.items c.insert_row.new.set.items c.loop-place.invariant.1 one,
      omega (arith, turns, next, c.count.ensures, c.loop-place.invariant.2),
    )

pub returns-clause-adds : goal.returns-clause-adds
returns-clause-adds g c =
    let end : c.loop-place.place ≡ length c.args.processes.now.items = omega (arith, c.len-place-end.ensures.value) in
    subst (λ n. Adds (IsTriggerTarget c.args.tables.now c.args.processes.now.items n c.args.block c.args.trigger) c.args.early.now.items c.loop-place.early.items) end c.loop-place.invariant.1

pub returns-clause-turns : goal.returns-clause-turns
returns-clause-turns g c = omega (arith, c.loop-place.invariant.2, sum_by-take-le (process_turns c.args.tables.now) c.args.processes.now.items c.loop-place.place)
