-- The marks of the machines of a step once its processes have run.
use Rattle.std.specs.Prelude.{◌≡◌, ◌==◌, ◌≤◌, ◌^◌, ◌||◌, not, ℕ, Bool, true, List, length}
use Rattle.bit_changes.specs.declared.toggles.Toggles.{Toggles}
use Rattle.body_replay.specs.Store.{Kept}
use Rattle.step_parts.specs.body_calls.Own.{is_in}
use Rattle.step_parts.specs.body_store.declared.store.Store.{Store}
use Rattle.cover_marks.specs.Marks.{AreMarksOf}
use Rattle.cover_marks.specs.declared.marks.Marks.{Marks}
use Rattle.cover_points.specs.Listed.{IsPointList, points_of}
use Rattle.cover_points.specs.MachinePoints.{machine_of}
use Rattle.cover_points.specs.Visits.{AreOnce}
use Rattle.cover_points.specs.declared.listing.Points.{Points}
use Rattle.cover_points.specs.declared.machine_point.MachinePoint.{MachinePoint}
use Rattle.cover_points.specs.design_machines.Machines.{machine_at}
use Rattle.cover_points.specs.design_machines.declared.machine.Machine.{Machine}
use Rattle.design_model.specs.Design.{Design}
use Rattle.design_model.specs.Lawful.{IsLawfulDesign}
use Rattle.cover_points.specs.design_machines.state_machines.Machines.{StateMachines}
use Rattle.step_parts.specs.early_sets.WakeState.{WakeState}
use Rattle.machine_index.specs.Index.{IsIndexOf}
use Rattle.machine_index.specs.declared.index.MachineIndex.{MachineIndex}
use Rattle.machine_laws.specs.Followed.{MarksMachines, is_state, step_chances}
use Rattle.machine_laws.specs.Told.{AreTold}
use Rattle.machine_marks.specs.Marked.{MarksEach, chances_of, marked_if}
use Rattle.point_marks.specs.declared.verdict.Verdict.{Verdict}
use Rattle.step_parts.specs.replay_model.Step.{Closing, all_run, closed, known_bits}
use Rattle.step_parts.specs.AtStep.{AtRest, AtStep}
use Rattle.step_parts.specs.step_values.Starts.{HasValues}
use Rattle.step_parts.specs.step_values.Vectors.{StepVectors}
use Rattle.toggle_laws.specs.Turns.{MarksInTurn}
use Rattle.step_marks.specs.Marked.{IsSeenAfter}

-- the points are those of a lawful design with some machines, and the index is of them
pub record FitsMachines (d : Design) (ps : Points) (x : MachineIndex) : Type 0 where
  pub lawful : IsLawfulDesign d
  pub machines : StateMachines
  pub listed : IsPointList d machines ps
  pub few : length ps.machines.items ≤ 2 ^ 32
  pub index : IsIndexOf ps.machines.items (length d.signals) x

-- the processes of the step have run, and these may move and no others
pub record IsOver (st : Closing) (moving : List ℕ) (end : ℕ) (listed : Bool) (x : Store) (v : StepVectors) : Type 0 where
  pub values : HasValues st (all_run st) x v
  pub moves : (s : ℕ) → st.sets.moves s ≡ is_in moving s
  pub time : st.time ≡ end
  pub kind : st.listed ≡ listed

-- the processes of the step have run, and this signal or memory may move
pub record IsMoving (st : Closing) (s : ℕ) (end : ℕ) (listed : Bool) (x : Store) (v : StepVectors) : Type 0 where
  pub values : HasValues st (all_run st) x v
  pub moves : st.sets.moves s ≡ true
  pub time : st.time ≡ end
  pub kind : st.listed ≡ listed

-- the machine of a state or an arc
abbrev pub own_machine : Points → MachinePoint → Machine
own_machine ps p = machine_at ps.machines.items (machine_of p)

-- the states of all machines are marked by what is known
abbrev pub MarksAll : Design → Points → Kept → ℕ → List Verdict → List Verdict → Type 0
MarksAll d ps k time before after =
    MarksEach ps (λ p v. (let x = own_machine ps p in marked_if (is_state p) x.signal time (chances_of x.values (known_bits d k x.signal) (known_bits d k x.signal) p) v)) before after

-- the machines of one signal are marked
abbrev pub MarksThing : Closing → Points → ℕ → List Verdict → List Verdict → Type 0
MarksThing st ps s before after = MarksEach ps (λ p v. (let x = own_machine ps p in marked_if (s == x.signal) s st.time (step_chances st x p) v)) before after

-- once the toggles and the machines are marked, the parts of the code are those of the replay after the step, and at a listed time each state was reported
abbrev pub ClosedLaw : Type 0
ClosedLaw =
    (st : Closing) (machines : StateMachines) (ps : Points) (told : Bool) (x : Store) (v : StepVectors) (sets : WakeState) (acted : List Bool) (before middle after : Marks) (seen : List Toggles)
    → IsLawfulDesign st.design → IsPointList st.design machines ps → AreOnce ps → AtStep st ps (all_run st) x v sets acted before → (told ≡ true → AreTold st.design ps st.start)
    → MarksInTurn st ps sets.moves before.verdicts middle.verdicts → IsSeenAfter st ps seen middle → AreMarksOf ps after → MarksMachines st ps (not st.listed || told) middle.verdicts after.verdicts
    → AtRest st.design ps (closed st (points_of ps)) x acted after seen × (st.listed ≡ true → AreTold st.design ps (closed st (points_of ps)))
