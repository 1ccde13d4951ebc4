-- The state after the rounds of a step.
use Rattle.std.specs.Prelude.{◌≡◌, ◌≤◌, ◌+◌, ℕ, false, List, ◌∷◌, length}
use Rattle.early_sets.specs.Rounds.{AreRounds, becomes_single}
use Rattle.early_sets.specs.Turns.{settle_turns}
use Rattle.early_sets.specs.WakeState.{WakeState}

-- the state is that of the first round after which nothing that may move becomes single; there are no more rounds after the first than things, and they took so many turns at most
pub record HasSettled (w : WakeState) (start end : ℕ) : Type 0 where
  pub earlier : List WakeState
  pub rounds : AreRounds (w ∷ earlier)
  pub is_last : (x : ℕ) → becomes_single w x ≡ false
  pub few : length earlier ≤ w.tables.things
  pub turns : end ≤ start + settle_turns (w ∷ earlier)
