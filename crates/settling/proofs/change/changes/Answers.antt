use Rattle.std.proofs.Common.{◌∙◌, ◌≡◌, arith, false, sym, true}
use Rattle.design_model.specs.View.{design_view}
use Rattle.early_sets.specs.Has.{is_in}
use Rattle.early_sets.specs.WakeState.{state_of}
use Rattle.early_sets.proofs.Membership.{is_in_is}
use Rattle.settling.proofs.Words.{changed_words, signal_below, memory_above, unmoved}
use Rattle.settling.proofs.change.changes.Goals as goal

pub has_changed-requires-clause-first : goal.has_changed-requires-clause-first
has_changed-requires-clause-first c = memory_above (design_view c.args.store.now.design.now) c.args.words.now c.args.wake.now.thing c.requires.memories (sym c.is_memory.ensures ∙ c.if-is_memory.true)

pub has_changed-requires-clause-within : goal.has_changed-requires-clause-within
has_changed-requires-clause-within c = let first = c.requires.memories.first in let count = c.requires.memories.count in let below = c.requires.watched in omega (arith, first, count, below)

pub signal_changes-requires-clause-signal : goal.signal_changes-requires-clause-signal
signal_changes-requires-clause-signal c = signal_below (design_view c.args.store.now.design.now) c.args.words.now c.args.wake.now.thing c.requires.memories (sym c.is_memory.ensures ∙ c.if-is_memory.false)

pub returns-then-not-may_move : goal.returns-then-not-may_move
returns-then-not-may_move c = λ st w p state words writes wake watched.
    let none : is_in (state_of c.args.sets.now).moves c.args.wake.now.thing ≡ false = sym (is_in_is (state_of c.args.sets.now).moves c.args.wake.now.thing c.may_move.result c.may_move.ensures) ∙ c.if-not-may_move.true in
    sym ((unmoved st w p c.args.wake.now.thing (state.moves c.args.wake.now.thing ∙ none) state.still).0)

pub returns-then-is_memory : goal.returns-then-is_memory
returns-then-is_memory c = λ st w p state words writes wake watched.
    let some : is_in (state_of c.args.sets.now).moves c.args.wake.now.thing ≡ true = sym (is_in_is (state_of c.args.sets.now).moves c.args.wake.now.thing c.may_move.result c.may_move.ensures) ∙ c.if-not-may_move.false in
    (c.has_changed.ensures ∙ changed_words st w p c.args.words.now c.args.wake.now.thing (state.moves c.args.wake.now.thing ∙ some) c.args.store.now.design.now state.values.knows.design c.requires.memories c.requires.watched (sym c.is_memory.ensures ∙ c.if-is_memory.true) writes words watched)

pub returns : goal.returns
returns c = λ st w p state words writes wake watched.
    let some : is_in (state_of c.args.sets.now).moves c.args.wake.now.thing ≡ true = sym (is_in_is (state_of c.args.sets.now).moves c.args.wake.now.thing c.may_move.result c.may_move.ensures) ∙ c.if-not-may_move.false in
    c.signal_changes.ensures st w p (state_of c.args.sets.now) state wake some
