use Rattle.std.proofs.Common.{◌≡◌, ◌+◌, ◌-◌, ◌≤◌, List, ◌∷◌, length}
use Rattle.early_sets.specs.Rounds.{AreRounds}
use Rattle.early_sets.specs.Turns.{moves_turns, settle_turns}
use Rattle.early_sets.specs.WakeState.{WakeState, state_of}
use Rattle.early_sets.proofs.wakes.Wakes.settle.Given as goal

-- the state is that of the round with the number, after those before it
abbrev pub invariant-rounds : goal.invariant-rounds
invariant-rounds g l =
    (state_of l.self ≡ record (state_of l.fn.self) { derived = (state_of l.self).derived; rounds = (state_of l.self).rounds; moves = (state_of l.self).moves; woken = (state_of l.self).woken })
    × ((earlier : List WakeState) × AreRounds (state_of l.self ∷ earlier) × (l.round ≡ length earlier) × (g.T.Turns.counted l.turns ≤ g.T.Turns.counted l.fn.turns + settle_turns earlier + moves_turns (state_of l.self)))
    × (l.round ≤ length (state_of l.self).derived)
    × (length (state_of l.self).derived ≤ (state_of l.self).tables.things)

-- each round makes something single, and there are no more than all things
abbrev pub decreases-rounds : goal.decreases-rounds
decreases-rounds g l = (state_of l.self).tables.things - length (state_of l.self).derived
