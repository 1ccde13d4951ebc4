use Rattle.std.proofs.Common.{◌≡◌, ◌∙◌, length, refl, subst, arith}
use Rattle.early_sets.specs.Adds.{Adds}
use Rattle.early_sets.specs.Reached.{IsTargetFrom}
use Rattle.early_sets.specs.Turns.{process_turns}
use Rattle.std.proofs.lemmas.List.Sums.{sum_by-drop_more}
use Rattle.early_sets.proofs.Adding.{from_more, from_none}
use Rattle.early_sets.proofs.closure.write_all.Goals as goal

pub loop-place-init : goal.loop-place-init
loop-place-init g c = (refl, from_none c.args.tables.now c.args.rule c.args.processes.now.items c.args.from c.args.things.now.items, omega arith)

pub get-requires : goal.get-requires
get-requires g c = omega (arith, c.len-place-end.ensures.value)

pub write-requires : goal.write-requires
write-requires g c = record { process = omega (arith, c.get.ensures.below, c.requires.processes); size = c.loop-place.invariant.0 ∙ c.requires.things }

pub loop-place-preserved : goal.loop-place-preserved
loop-place-preserved g c =
    let one = rw c.get.ensures.value at c.write.ensures.adds in
    let turns = rw c.get.ensures.value at c.write.ensures.turns in
    let next = sum_by-drop_more (process_turns c.args.tables.now) c.args.processes.now.items c.loop-place.place 0 (omega (arith, c.len-place-end.ensures.value)) in (
      c.write.ensures.size ∙ c.loop-place.invariant.0,
      from_more c.args.tables.now c.args.rule c.args.processes.now.items c.args.from c.loop-place.place c.args.things.now.items c.loop-place.things.items c.write.new.things.items (omega arith) c.loop-place.invariant.1 one,
      omega (arith, turns, next, c.count.ensures, c.loop-place.invariant.2),
    )

pub returns-clause-adds : goal.returns-clause-adds
returns-clause-adds g c =
    let end : c.loop-place.place ≡ length c.args.processes.now.items = omega (arith, c.len-place-end.ensures.value, c.requires.from) in
    subst (λ n. Adds (IsTargetFrom c.args.tables.now c.args.rule c.args.processes.now.items c.args.from n) c.args.things.now.items c.loop-place.things.items) end c.loop-place.invariant.1

pub returns-clause-turns : goal.returns-clause-turns
returns-clause-turns g c = omega (arith, c.loop-place.invariant.2)
