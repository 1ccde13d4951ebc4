use Rattle.std.proofs.Common.{◌<◌, ◌∙◌, None, get_or, length, sym, ap, subst, arith}
use Rattle.std.specs.List.{Contains}
use Rattle.std.proofs.lemmas.List.{get_or_default, take_all}
use Rattle.four_state.specs.declared.bit.Bit.TheVariants.{Zero}
use Rattle.early_sets.specs.WakeState.{state_of}
use Rattle.step_wakes.proofs.Noting.{IsNoted, derived_written, found_of, noted_below, noted_more, noted_none, round_within, step_sets, still_of}
use Rattle.step_wakes.specs.declared.step.SignalChange.{SignalChange}
use Rattle.step_wakes.proofs.step.find.Goals as goal

pub loop-change-init : goal.loop-change-init
loop-change-init g c =
    (noted_none (state_of c.args.wakes.now) (state_of c.clear.new.self) c.clear.ensures.rest c.clear.ensures.noted, omega arith, omega (arith, c.clear.ensures.turns))

-- what the code reads where there is no change
abbrev none : SignalChange
none = record { signal = 0; old = Zero; new = Zero }

pub tell-requires : goal.tell-requires
tell-requires g c =
    let inside = c.requires c.loop-change.change-index none c.loop-change-test.true in
    subst (λ t. (get_or c.args.changes.now c.loop-change.change-index none).signal < t.things) (sym c.loop-change.invariant.0.tables) inside

pub loop-change-preserved : goal.loop-change-preserved
loop-change-preserved g c =
    let xs = c.args.changes.now in
    let i = c.loop-change.change-index in
    let item = get_or xs i none in
    let inside = c.requires i none c.loop-change-test.true in
    let w = c.loop-change.wakes in
    let below : item.signal < length (state_of w).own = omega (arith, inside, ap (λ t. t.things) c.loop-change.invariant.0.tables, w.sizes.told_are, w.changes.sizes.own_are) in
    (noted_more (state_of c.args.wakes.now) (state_of w) (state_of c.tell.new.wakes) xs i item c.loop-change-test.true (get_or_default xs i none item c.loop-change-test.true) below c.tell.ensures.rest c.tell.ensures.noted c.tell.ensures.changed c.loop-change.invariant.0, omega (arith, c.loop-change-test.true), omega (arith, c.count.ensures, c.loop-change.invariant.2))

pub returns-clause-design : goal.returns-clause-design
returns-clause-design g c d bound of =
    let changes = c.args.changes.now in
    let so : IsNoted (state_of c.args.wakes.now) changes (state_of c.loop-change.wakes) = subst (λ xs. IsNoted (state_of c.args.wakes.now) xs (state_of c.loop-change.wakes)) (take_all c.loop-change.change-index changes c.loop-change-test.false) c.loop-change.invariant.0 in
    found_of d bound (state_of c.loop-change.wakes) (state_of c.settle.new.self) c.settle.ensures.rest (still_of d bound (state_of c.args.wakes.now) (state_of c.loop-change.wakes) changes of so)

pub returns-clause-tables : goal.returns-clause-tables
returns-clause-tables g c = ap (λ w. w.tables) c.settle.ensures.rest ∙ c.loop-change.invariant.0.tables

pub returns-clause-writers : goal.returns-clause-writers
returns-clause-writers g c = ap (λ w. w.writers) c.settle.ensures.rest ∙ c.loop-change.invariant.0.writers

pub returns-clause-noted : goal.returns-clause-noted
returns-clause-noted g c = λ x i.
    let changes = c.args.changes.now in
    let before = state_of c.args.wakes.now in
    let so : IsNoted before changes (state_of c.loop-change.wakes) = subst (λ xs. IsNoted before xs (state_of c.loop-change.wakes)) (take_all c.loop-change.change-index changes c.loop-change-test.false) c.loop-change.invariant.0 in
    let low = noted_below before (state_of c.loop-change.wakes) changes before.tables.things c.args.wakes.now.sizes.untold_below c.requires so x (subst (λ xs. Contains xs x) (ap (λ w. w.noted) c.settle.ensures.rest) i) in
    subst (λ t. x < t.things) (sym (ap (λ w. w.tables) c.settle.ensures.rest ∙ c.loop-change.invariant.0.tables)) low

pub returns-clause-derived : goal.returns-clause-derived
returns-clause-derived g c = derived_written (state_of c.settle.new.self) c.settle.ensures.settled.earlier c.settle.ensures.settled.rounds

pub returns-clause-rounds : goal.returns-clause-rounds
returns-clause-rounds g c = round_within (state_of c.settle.new.self) c.settle.ensures.settled.earlier c.settle.ensures.settled.rounds c.settle.ensures.settled.few

pub returns-clause-sets : goal.returns-clause-sets
returns-clause-sets g c d bound of =
    let changes = c.args.changes.now in
    let so : IsNoted (state_of c.args.wakes.now) changes (state_of c.loop-change.wakes) = subst (λ xs. IsNoted (state_of c.args.wakes.now) xs (state_of c.loop-change.wakes)) (take_all c.loop-change.change-index changes c.loop-change-test.false) c.loop-change.invariant.0 in
    step_sets d bound (state_of c.args.wakes.now) (state_of c.loop-change.wakes) (state_of c.settle.new.self) changes (g.T.Turns.counted c.loop-change.turns) (g.T.Turns.counted c.settle.new.turns) c.args.wakes.now.sizes.told_are of so c.settle.ensures.rest c.settle.ensures.settled

pub returns-clause-turns : goal.returns-clause-turns
returns-clause-turns g c =
    let settled = c.settle.ensures.settled in
    let untold = ap (λ w. length w.untold) c.settle.ensures.rest in
    let same = ap length c.loop-change.invariant.0.untold in
    record {
      earlier = settled.earlier;
      rounds = settled.rounds;
      is_last = settled.is_last;
      few = settled.few;
      turns = omega (arith, c.loop-change.invariant.1, c.loop-change.invariant.2, settled.turns, untold, same);
    }
