-- The parts of the code with which a step begins.
use Rattle.std.specs.Prelude.{◌≡◌, ◌<◌, ◌≤◌, ℕ, true, List, length}
use Rattle.code_values.specs.Values.{Values}
use Rattle.design_model.specs.Design.{Design, body_at}
use Rattle.design_model.specs.Lawful.{IsLawfulDesign}
use Rattle.design_model.specs.Mentions.{body_assigns}
use Rattle.early_sets.specs.WakeState.{state_of}
use Rattle.index_sets.specs.Rows.{row_at}
use Rattle.process_targets.specs.Rows.{AreTargetRows}
use Rattle.run_order.specs.Ranked.{AreRanksOf}
use Rattle.step_parts.specs.body_calls.Own.{is_in}
use Rattle.step_parts.specs.step_changes.Changes.{AreSignalsOf}
use Rattle.still_check.specs.step_values.Loose.{has_code}
use Rattle.still_check.specs.step_values.Vectors.{FitsSignals}
use Rattle.step_start.specs.declared.room.StepRoom.{StepRoom}
use Rattle.step_start.specs.declared.room.StepTables.{StepTables}

-- the tables, the room and the values of codes are of the size of the design
pub record FitsStep (d : Design) (x : StepTables) (r : StepRoom) (given : Values) : Type 0 where
  pub lawful : IsLawfulDesign d
  pub signals : AreSignalsOf x.codes.items x.signals
  pub rows : length x.signals ≡ length given.last
  pub coded : (s : ℕ) → has_code x.codes.items s ≡ true → s < length d.signals
  pub targets : AreTargetRows d x.targets
  pub written : length x.written ≡ length d.processes
  pub assigned : (p y : ℕ) → is_in (row_at x.written p) y ≡ body_assigns y (body_at d p)
  pub order : List ℕ
  pub ranked : AreRanksOf order (length d.processes) x.order
  pub clocked_order : List ℕ
  pub clocked_ranked : AreRanksOf clocked_order (length d.processes) x.clocked
  pub changed : r.changed.size ≡ length d.signals
  pub changes : length d.signals ≤ r.changes.room
  pub things : length d.signals ≤ (state_of r.sets).tables.things
  pub processes : (state_of r.sets).tables.processes ≡ length d.processes
  pub clocked : r.clocked.count ≡ length d.processes
  pub overwritten : r.overwritten.size ≡ length d.signals
  pub running : r.running.size ≡ length d.processes
  pub list : r.list.count ≡ length d.processes
  pub values : FitsSignals d r.values
