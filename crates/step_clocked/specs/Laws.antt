-- The list of the woken Clocked processes has each that can wake.
use Rattle.std.specs.Prelude.{ℕ, Bool}
use Rattle.std.specs.List.{filter}
use Rattle.design_model.specs.Design.{Design}
use Rattle.design_model.specs.Lawful.{IsLawfulDesign}
use Rattle.clocked_marks.specs.chosen_runs.chosen_early.early_sets.Rounds.{HasMoves}
use Rattle.clocked_marks.specs.chosen_runs.chosen_early.early_sets.WakeState.{WakeState}
use Rattle.replay_sets.specs.replay_model.Tables.{AreTables, Tables}
use Rattle.replay_sets.specs.wake_laws.OfDesign.{AreTablesOf}
use Rattle.wake_list.specs.Members.{has}
use Rattle.step_clocked.specs.Runs.{HasWoken}

-- of the Clocked processes of a lawful design, in their order, those that are woken are all that can wake
abbrev pub ListedLaw : Type 0
ListedLaw =
    (d : Design) (bound : ℕ → Bool) (tables : Tables) (w : WakeState) → IsLawfulDesign d → AreTables d bound tables → AreTablesOf d w.tables → HasMoves w
    → HasWoken w (filter (λ p. has p w.woken) tables.clocked)
