use Rattle.std.proofs.Common.{◌∙◌, ◌<◌, map, sym, subst, arith}
use Rattle.std.specs.List.{All}
use Rattle.early_sets.specs.WakeState.{state_of}
use Rattle.step_wakes.proofs.wake_laws.RoundsLaw.{has_moves}
use Rattle.step_wakes.specs.Step.{StepSets}
use Rattle.step_wakes.specs.declared.step.SignalChange.{SignalChange}
use Rattle.step_changes.specs.Changes.{AreChangedSignals, change_by}
use Rattle.step_changes.proofs.Found.{changed_are, changes_below, coded_by, sets_are}
use Rattle.step_changes.proofs.moves.find_moves.Goals as goal

pub add_changed-requires-clause-below : goal.add_changed-requires-clause-below
add_changed-requires-clause-below c = λ code s m.
    let l = c.requires.below s (coded_by c.args.codes.now s code ((c.requires.signals code s).0 m)) in
    omega (arith, l, c.clear.ensures.size)

pub find-requires : goal.find-requires
find-requires c =
    let are : AreChangedSignals c.args.codes.now c.args.values.now c.add_changed.new.changed.items = changed_are c.args.codes.now c.args.values.now c.args.signals.now c.clear.new.self.items c.add_changed.new.changed.items c.requires.signals c.clear.ensures.items c.add_changed.ensures.changed in
    let n = (state_of c.args.sets.now).tables.things in
    subst (All (λ (e : SignalChange). e.signal < n)) (sym (c.as_slice.ensures ∙ c.note_changes.ensures.changes))
    (changes_below c.args.codes.now c.args.values.now c.add_changed.new.changed.items n are (λ s coded. let l = c.requires.below s coded in omega (arith, l, c.requires.things)))

pub returns-clause-changed : goal.returns-clause-changed
returns-clause-changed c = changed_are c.args.codes.now c.args.values.now c.args.signals.now c.clear.new.self.items c.add_changed.new.changed.items c.requires.signals c.clear.ensures.items c.add_changed.ensures.changed

pub returns-clause-moves : goal.returns-clause-moves
returns-clause-moves c = has_moves (state_of c.find.new.wakes) c.find.ensures.turns.earlier c.find.ensures.turns.rounds

pub returns-clause-sets : goal.returns-clause-sets
returns-clause-sets c = λ d dump t h bound early due chosen.
    let are = changed_are c.args.codes.now c.args.values.now c.args.signals.now c.clear.new.self.items c.add_changed.new.changed.items c.requires.signals c.clear.ensures.items c.add_changed.ensures.changed in
    let after = state_of c.find.new.wakes in
    let sets : StepSets d bound (map (change_by c.args.codes.now c.args.values.now) c.add_changed.new.changed.items) after = subst (λ changes. StepSets d bound changes after) (c.as_slice.ensures ∙ c.note_changes.ensures.changes) (c.find.ensures.sets d bound due.tables) in
    sets_are d dump t bound c.args.codes.now c.args.values.now (state_of c.args.sets.now) due c.add_changed.new.changed.items are after h early (c.find.ensures.design d bound due.tables) c.find.ensures.writers sets chosen
