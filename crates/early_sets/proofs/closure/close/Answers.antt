use Rattle.std.proofs.Common.{◌∙◌, ◌<◌, ◌≤◌, length, refl, sym, ap, subst, arith, length-append}
use Rattle.std.proofs.lemmas.List.Sums.{sum_by-take-le}
use Rattle.early_sets.specs.Changes.{edges_of}
use Rattle.early_sets.specs.Once.{IsOnce}
use Rattle.early_sets.specs.Turns.{member_turns}
use Rattle.early_sets.proofs.Adding.{extends_longer}
use Rattle.early_sets.proofs.Counting.{member_counted, once_none}
use Rattle.early_sets.proofs.Closing.{IsClosing, closed_processes, closed_things, closing_more, closing_none, fewer_left}
use Rattle.early_sets.proofs.closure.close.Goals as goal

pub members-init : goal.members-init
members-init g c =
    let none = closing_none c.args.tables.now (edges_of c.args.changes.now) c.args.rule c.args.things.now.items in
    (refl, refl, omega arith, subst (λ ps. IsClosing c.args.tables.now (edges_of c.args.changes.now) c.args.rule c.args.things.now.items c.args.things.now.items ps 0) (sym c.requires.none_woken) none, λ o. o, subst IsOnce (sym c.requires.none_woken) once_none, omega (arith, sum_by-take-le (member_turns c.args.tables.now) c.args.things.now.items 0))

pub get-requires : goal.get-requires
get-requires g c = subst (λ n. c.members.taken < n) c.len.ensures.value c.members-test.true

pub wake-requires-clause-changes : goal.wake-requires-clause-changes
wake-requires-clause-changes g c = c.requires.changes

pub wake-requires-clause-thing : goal.wake-requires-clause-thing
wake-requires-clause-thing g c = subst (λ n. c.get.result < n) (c.members.invariant.0 ∙ c.requires.things) c.get.ensures.below

pub wake-requires-clause-size : goal.wake-requires-clause-size
wake-requires-clause-size g c = c.members.invariant.1 ∙ c.requires.processes

pub write_all-requires-clause-processes : goal.write_all-requires-clause-processes
write_all-requires-clause-processes g c = c.wake.ensures.size ∙ (c.members.invariant.1 ∙ c.requires.processes)

pub write_all-requires-clause-things : goal.write_all-requires-clause-things
write_all-requires-clause-things g c = c.members.invariant.0 ∙ c.requires.things

pub write_all-requires-clause-from : goal.write_all-requires-clause-from
write_all-requires-clause-from g c = subst (λ n. n ≤ length c.wake.new.processes.items) (sym c.len-known.ensures.value) (extends_longer c.members.processes.items c.wake.new.processes.items c.wake.ensures.adds.extends)

pub members-smaller : goal.members-smaller
members-smaller g c = fewer_left c.members.taken c.len.result c.members.things.size c.write_all.new.things.size c.members-test.true c.len.ensures.within c.write_all.ensures.size

pub members-preserved : goal.members-preserved
members-preserved g c =
    let woken = rw c.get.ensures.value at c.wake.ensures.adds in
    let written = rw c.len-known.ensures.value at c.write_all.ensures.adds in
    let more = length-append c.members.things.items written.extends.more in
    let turns = rw (c.len-known.ensures.value) at c.write_all.ensures.turns in
    let wake = rw c.get.ensures.value at c.wake.ensures.turns in
    let counted = member_counted c.args.tables.now (edges_of c.args.changes.now) c.members.things.items c.members.processes.items c.write_all.new.things.items c.wake.new.processes.items c.members.taken (omega (arith, c.len.ensures.value)) written.extends c.members.invariant.5 woken (g.T.Turns.counted c.args.turns.now) (g.T.Turns.counted c.members.turns) (g.T.Turns.counted c.count.new.self) (g.T.Turns.counted c.wake.new.turns) (g.T.Turns.counted c.write_all.new.turns) c.members.invariant.6 c.count.ensures wake turns in (
      c.write_all.ensures.size ∙ c.members.invariant.0,
      c.wake.ensures.size ∙ c.members.invariant.1,
      omega (arith, ap length written.extends.is, more, c.len.ensures.value),
      closing_more c.args.tables.now (edges_of c.args.changes.now) c.args.rule c.args.things.now.items c.members.things.items c.members.processes.items c.write_all.new.things.items c.wake.new.processes.items c.members.taken c.members.invariant.3 (omega (arith, c.len.ensures.value)) woken written,
      λ o. written.once (c.members.invariant.4 o),
      woken.once c.members.invariant.5,
      counted,
    )

pub returns-clause-things_size : goal.returns-clause-things_size
returns-clause-things_size g c = c.members.invariant.0

pub returns-clause-processes_size : goal.returns-clause-processes_size
returns-clause-processes_size g c = c.members.invariant.1

pub returns-clause-things : goal.returns-clause-things
returns-clause-things g c = closed_things c.args.tables.now (edges_of c.args.changes.now) c.args.rule c.args.things.now.items c.members.things.items c.members.processes.items c.members.taken c.members.invariant.3 (omega (arith, c.len.ensures.value))

pub returns-clause-processes : goal.returns-clause-processes
returns-clause-processes g c = closed_processes c.args.tables.now (edges_of c.args.changes.now) c.args.rule c.args.things.now.items c.members.things.items c.members.processes.items c.members.taken c.members.invariant.3 (omega (arith, c.len.ensures.value))

pub returns-clause-things_once : goal.returns-clause-things_once
returns-clause-things_once g c = c.members.invariant.4

pub returns-clause-processes_once : goal.returns-clause-processes_once
returns-clause-processes_once g c = c.members.invariant.5

pub returns-clause-turns : goal.returns-clause-turns
returns-clause-turns g c = omega (arith, c.members.invariant.6, sum_by-take-le (member_turns c.args.tables.now) c.members.things.items c.members.taken)
