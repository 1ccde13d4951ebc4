use Rattle.std.proofs.Common.{◌∙◌, ◌≡◌, ap, arith, false, not, sym, true}
use Rattle.design_model.specs.View.{design_view}
use Rattle.early_sets.specs.Has.{is_in}
use Rattle.early_sets.specs.WakeState.{state_of}
use Rattle.early_sets.proofs.Membership.{is_in_is}
use Rattle.settling.proofs.Words.{still_words, signal_below, memory_above, unmoved}
use Rattle.settling.proofs.change.may_change.Goals as goal

pub is_still-requires-clause-first : goal.is_still-requires-clause-first
is_still-requires-clause-first c = memory_above (design_view c.args.store.now.design.now) c.args.words.now c.args.wake.now.thing c.requires.memories (sym c.is_memory.ensures ∙ c.if-is_memory.true)

pub is_still-requires-clause-within : goal.is_still-requires-clause-within
is_still-requires-clause-within c = let first = c.requires.memories.first in let count = c.requires.memories.count in let below = c.requires.watched in omega (arith, first, count, below)

pub signal_may_change-requires-clause-signal : goal.signal_may_change-requires-clause-signal
signal_may_change-requires-clause-signal c = signal_below (design_view c.args.store.now.design.now) c.args.words.now c.args.wake.now.thing c.requires.memories (sym c.is_memory.ensures ∙ c.if-is_memory.false)

pub returns-then-not-may_move : goal.returns-then-not-may_move
returns-then-not-may_move c = λ st w p state words writes wake watched.
    let none : is_in (state_of c.args.sets.now).moves c.args.wake.now.thing ≡ false = sym (is_in_is (state_of c.args.sets.now).moves c.args.wake.now.thing c.may_move.result c.may_move.ensures) ∙ c.if-not-may_move.true in
    sym (ap not (unmoved st w p c.args.wake.now.thing (state.moves c.args.wake.now.thing ∙ none) state.still).1)

pub returns-then-is_memory : goal.returns-then-is_memory
returns-then-is_memory c = λ st w p state words writes wake watched.
    let some : is_in (state_of c.args.sets.now).moves c.args.wake.now.thing ≡ true = sym (is_in_is (state_of c.args.sets.now).moves c.args.wake.now.thing c.may_move.result c.may_move.ensures) ∙ c.if-not-may_move.false in
    ap not (c.is_still.ensures ∙ still_words st w p c.args.words.now c.args.wake.now.thing (state.moves c.args.wake.now.thing ∙ some) c.args.store.now.design.now state.values.knows.design c.requires.memories c.requires.watched (sym c.is_memory.ensures ∙ c.if-is_memory.true) writes words watched)

pub returns : goal.returns
returns c = λ st w p state words writes wake watched.
    let some : is_in (state_of c.args.sets.now).moves c.args.wake.now.thing ≡ true = sym (is_in_is (state_of c.args.sets.now).moves c.args.wake.now.thing c.may_move.result c.may_move.ensures) ∙ c.if-not-may_move.false in
    c.signal_may_change.ensures st w p (state_of c.args.sets.now) state wake some
