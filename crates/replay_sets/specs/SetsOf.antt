-- The sets of a step as the replay asks for them.
use Rattle.std.specs.Prelude.{◌≡◌, ◌↔◌, ℕ, List, Option, Some, None}
use Rattle.std.specs.List.{Contains}
use Rattle.replay_model.specs.design_model.Design.{Design}
use Rattle.replay_model.specs.design_model.Shows.{BoundDump}
use Rattle.wake_laws.specs.early_sets.declared.habit.Habit.{Habit}
use Rattle.wake_laws.specs.early_sets.Early.{IsEarlyBy}
use Rattle.wake_laws.specs.early_sets.Rounds.{round_at}
use Rattle.wake_laws.specs.early_sets.WakeState.{WakeState, trigger_of, waker_of}
use Rattle.wake_laws.specs.early_sets.Has.{is_in}
use Rattle.replay_model.specs.Sets.{AreSets, Sets}
use Rattle.wake_laws.specs.Laws.{AreInRounds, AreNotes, IsSettled, habit_of}
use Rattle.wake_laws.specs.OfDesign.{AreTablesOf}

-- the round in which this trigger became single
abbrev pub round_by : WakeState → Option ℕ → ℕ
round_by w None = 0
round_by w (Some s) = round_at w s

-- the round in which the trigger of a clean process did
abbrev pub round_of : WakeState → ℕ → ℕ
round_of w p = round_by w (trigger_of w p)

-- the answers of a step, with what was found to be early for each process
abbrev pub sets_of : WakeState → (ℕ → List ℕ) → Sets
sets_of w early = record { moves = is_in w.moves; trigger = trigger_of w; round = round_of w; wakes = waker_of w; early = λ p. is_in (early p) }

-- for each clean process the list is what is early for it
abbrev pub AreChosen : WakeState → Habit → (ℕ → List ℕ) → Type 0
AreChosen w h early = (p s : ℕ) → trigger_of w p ≡ Some s → (x : ℕ) → Contains (early p) x ↔ IsEarlyBy w h p s x

-- the answers are the sets of the step at the time
abbrev pub SetsLaw : Design → Type 0
SetsLaw d =
    (dump : BoundDump) (t : ℕ) (w : WakeState) (h : Habit) (early : ℕ → List ℕ)
    → AreTablesOf d w.tables → AreNotes d dump t w → AreInRounds d dump t w → IsSettled w → AreChosen w h early → AreSets d (habit_of h) dump t (sets_of w early)
