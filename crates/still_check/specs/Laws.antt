-- What follows of a step whether what the Clocked have left agrees with the dump.
use Rattle.std.specs.Prelude.{◌≡◌, ℕ, true, false, List, Some}
use Rattle.std.specs.List.{All}
use Rattle.event_machine.specs.Cell.{Cell}
use Rattle.four_state.specs.declared.bit.Bit.{Bit}
use Rattle.design_model.specs.Design.{In, IsClocked, body_at, process_at, signal_at}
use Rattle.design_model.specs.Lawful.{IsLawfulDesign}
use Rattle.design_model.specs.Mentions.{body_assigns}
use Rattle.step_values.specs.body_calls.Own.{is_in}
use Rattle.step_values.specs.body_replay.Runs.{AreRuns}
use Rattle.dump_check.specs.declared.order.Difference.{Difference}
use Rattle.step_values.specs.replay_model.Step.{Closing, contradicts, is_dumped}
use Rattle.step_values.specs.replay_model.Tables.{AreTables}
use Rattle.step_values.specs.replay_steps.Settling.{IsDumpStill, MoveTargets}
use Rattle.clocked_laws.specs.Clocked.{IsInputOrWritten, MoveClocked, is_running}
use Rattle.clocked_laws.specs.Laws.{IsClockedCell}
use Rattle.still_check.specs.Stays.{Agrees, IsMoved, Stays}

-- of what the dump has some value is known
abbrev pub KnowsBound : Closing → Type 0
KnowsBound st = (c : Cell) → is_dumped st.design st.bound c ≡ true → (b : Bit) × (st.start.kept c ≡ Some b)

-- of what has not changed the dump's value is known
abbrev pub AreUnchanged : Closing → List ℕ → Type 0
AreUnchanged st changed = (c : Cell) → is_dumped st.design st.bound c ≡ true → is_in changed c.thing ≡ false → st.start.kept c ≡ Some (st.new c)

-- an input that may not move has the value that was known
abbrev pub InputsStay : Closing → Type 0
InputsStay st = (c : Cell) → (signal_at st.design c.thing).input ≡ true → is_dumped st.design st.bound c ≡ true → st.sets.moves c.thing ≡ false → st.start.kept c ≡ Some (st.new c)

-- the list has bound signals that a Clocked assigns, and each of these that is assigned by one that runs
pub record AreOverwritten (st : Closing) (overwritten : List ℕ) : Type 0 where
  pub only : (s : ℕ) → In s overwritten → (st.bound s ≡ true) × ((p : ℕ) × IsClocked (process_at st.design p) × (body_assigns s (body_at st.design p) ≡ true))
  pub all : (s p : ℕ) → st.bound s ≡ true → In p st.tables.clocked → is_running st p ≡ true → body_assigns s (body_at st.design p) ≡ true → In s overwritten

-- of a step of a lawful design the tables and the runs are those of the design, its processes write what may move, and what may move is an input or so written
pub record IsLawfulStep (st : Closing) : Type 0 where
  pub lawful : IsLawfulDesign st.design
  pub tabled : AreTables st.design st.bound st.tables
  pub runs : AreRuns st.design st.run
  pub clocked : MoveClocked st
  pub settling : MoveTargets st
  pub moved : (s : ℕ) → st.sets.moves s ≡ true → IsInputOrWritten st s

-- where each signal that has changed may move or has the value that was known, the dump's value of what may not move is what was known
abbrev pub StaysLaw : Type 0
StaysLaw = (st : Closing) (changed : List ℕ) → IsLawfulStep st → KnowsBound st → AreUnchanged st changed → All (Stays st) changed → IsDumpStill st

-- where what is overwritten agrees with the dump, no bit of what a Clocked assigns contradicts the step
abbrev pub AgreesLaw : Type 0
AgreesLaw =
    (st : Closing) (overwritten : List ℕ) → IsLawfulStep st → IsDumpStill st → AreOverwritten st overwritten → All (Agrees st) overwritten
    → (c : Cell) → IsClockedCell st.design c → contradicts st c ≡ false

-- a bound signal of which the Clocked have left something else than what the dump says, where it may not move or is overwritten, contradicts the step in some bit
abbrev pub MovedLaw : Type 0
MovedLaw =
    (st : Closing) (changed overwritten : List ℕ) (found : Difference) → IsLawfulStep st → InputsStay st → AreOverwritten st overwritten → st.bound found.signal ≡ true
    → IsMoved st changed overwritten found
    → (c : Cell) × (c.thing ≡ found.signal) × (contradicts st c ≡ true)
