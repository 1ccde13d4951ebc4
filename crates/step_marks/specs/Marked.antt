-- The marks of a step once its processes have run.
use Rattle.std.specs.Prelude.{◌≡◌, ℕ, Bool, true, List}
use Rattle.bit_changes.specs.declared.toggles.Toggles.{Toggles}
use Rattle.step_parts.specs.body_calls.Own.{is_in}
use Rattle.step_parts.specs.body_store.declared.store.Store.{Store}
use Rattle.cover_marks.specs.Marks.{AreMarksOf}
use Rattle.cover_marks.specs.declared.marks.Marks.{Marks}
use Rattle.cover_marks.specs.cover_points.Listed.{IsPointList}
use Rattle.cover_marks.specs.cover_points.declared.listing.Points.{Points}
use Rattle.cover_marks.specs.cover_points.design_machines.state_machines.Machines.{StateMachines}
use Rattle.step_parts.specs.replay_model.Step.{Closing, all_run}
use Rattle.signal_marks.specs.Seen.{AreSeen}
use Rattle.step_parts.specs.step_values.Starts.{HasValues}
use Rattle.step_parts.specs.step_values.Vectors.{StepVectors}

-- the processes of the step have run, whose time is listed or not, these may move, and the masks say no more than the marks of the points of the design
pub record IsOver (st : Closing) (ps : Points) (moving : List ℕ) (end : ℕ) (on_list : Bool) (x : Store) (v : StepVectors) (masks : List Toggles) (m : Marks) : Type 0 where
  pub values : HasValues st (all_run st) x v
  pub moves : (s : ℕ) → is_in moving s ≡ true → st.sets.moves s ≡ true
  pub time : st.time ≡ end
  pub kind : st.listed ≡ on_list
  pub machines : StateMachines
  pub listed : IsPointList st.design machines ps
  pub marks : AreMarksOf ps m
  pub seen : AreSeen st.design ps masks m.verdicts

-- the marks are still those of the points, and the masks say no more than they do
pub record IsSeenAfter (st : Closing) (ps : Points) (masks : List Toggles) (m : Marks) : Type 0 where
  pub marks : AreMarksOf ps m
  pub seen : AreSeen st.design ps masks m.verdicts
