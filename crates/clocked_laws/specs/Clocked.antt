-- The Clocked processes that run in a step, and what their runs leave as it was.
use Rattle.std.specs.Prelude.{◌≡◌, ◌⊎◌, ◌&&◌, ◌||◌, ◌++◌, ℕ, Bool, true, false, is_none, is_some}
use Rattle.event_machine.specs.Cell.{Cell}
use Rattle.replay_steps.specs.replay_model.design_model.Design.{In, body_at, signal_at}
use Rattle.replay_steps.specs.replay_model.design_model.Mentions.{blocking_target}
use Rattle.replay_steps.specs.replay_model.body_replay.Replay.{flush}
use Rattle.replay_steps.specs.replay_model.body_replay.Store.{Kept}
use Rattle.replay_steps.specs.replay_model.Step.{Closing, Working, is_target, is_touched}

-- a Clocked runs clean: it has a trigger
abbrev pub is_clean : Closing → ℕ → Bool
is_clean st p = is_some (st.sets.trigger p)

-- it runs weak: it can wake and has no trigger
abbrev pub is_weak : Closing → ℕ → Bool
is_weak st p = is_none (st.sets.trigger p) && is_some (st.sets.wakes p)

-- it runs
abbrev pub is_running : Closing → ℕ → Bool
is_running st p = is_clean st p || is_weak st p

-- a Clocked that runs may write only what may move
abbrev pub MoveClocked : Closing → Type 0
MoveClocked st = (p : ℕ) (c : Cell) → In p st.tables.clocked → is_running st p ≡ true → is_target st.design p c ≡ true → st.sets.moves c.thing ≡ true

-- the signal is an input, or is written by an Assign or Comb that watches something that may move, or by a Clocked that runs
abbrev pub IsInputOrWritten : Closing → ℕ → Type 0
IsInputOrWritten st s =
    ((signal_at st.design s).input ≡ true)
    ⊎ ((p : ℕ) × (c : Cell) × (c.thing ≡ s) × In p (st.tables.order ++ st.tables.last) × (is_touched st p ≡ true) × (blocking_target st.design (body_at st.design p) c ≡ true))
    ⊎ ((p : ℕ) × (c : Cell) × (c.thing ≡ s) × In p st.tables.clocked × (is_running st p ≡ true) × (is_target st.design p c ≡ true))

-- no Clocked that runs may write the cell
abbrev pub IsUnwritten : Closing → Cell → Type 0
IsUnwritten st c = (p : ℕ) → In p st.tables.clocked → is_running st p ≡ true → is_target st.design p c ≡ false

-- the cell is as it was at the start of the step, and the writes that are queued leave it so
pub record IsAsAtStart (st : Closing) (w : Working) (c : Cell) : Type 0 where
  pub kept : w.kept c ≡ st.start.kept c
  pub queue : (k : Kept) → flush k w.queue c ≡ k c
