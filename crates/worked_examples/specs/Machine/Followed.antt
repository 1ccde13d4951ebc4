-- Examples of what is reported of the states of machines, and of how they are marked in a step of the design of `pipe`.
use Rattle.std.specs.Prelude.{◌≡◌, ◌∷◌, ◌==◌, ℕ, true, false, List, [], nat_lt, Some, None, codes}
use Rattle.four_state.specs.declared.bit.Bit.TheVariants.{One, X, Zero}
use Rattle.design_model.specs.Pipe.{pipe, pipe_values}
use Rattle.design_model.specs.declared.point.Point.{Point}
use Rattle.design_model.specs.declared.point.Point.TheVariants.{State as state_point, Toggle as toggle_point}
use Rattle.body_replay.specs.Runs.{runs_of}
use Rattle.body_replay.specs.Store.{Kept}
use Rattle.cover_points.specs.design_machines.declared.machine.Machine.{Machine}
use Rattle.cover_points.specs.declared.listing.Points.{Points}
use Rattle.cover_points.specs.declared.machine_point.MachinePoint.TheVariants.{Arc, State}
use Rattle.mark_laws.specs.replay_model.Marks.{Marking, of_point}
use Rattle.mark_laws.specs.replay_model.Step.{Closing, Replay}
use Rattle.point_marks.specs.declared.verdict.Verdict.TheVariants.{Hit, Missed}
use Rattle.machine_index.specs.declared.index.MachineIndex.{MachineIndex}
use Rattle.machine_laws.specs.Followed.{HasMoreNotes, MarksMachines, is_due, is_state, step_chances, with_machine}
use Rattle.machine_laws.specs.Told.{AreTold, IsTold, IsToldOf}
use Rattle.step_machines.specs.Marked.{FitsMachines, IsMoving, IsOver, MarksAll, MarksThing, own_machine}
use Rattle.step_parts.specs.body_store.declared.store.Store.{Store}
use Rattle.step_parts.specs.step_values.Vectors.{StepVectors}
use Rattle.worked_examples.specs.Machine.Marked.{light, never, surely}

-- clk is 0, a 0 and b 1, and then a is 1
abbrev pub kept : Kept
kept c = Some (pipe_values Zero Zero One X X c)

abbrev pub risen : Kept
risen c = Some (pipe_values Zero One One X X c)

-- the second state of the machine of signal 1
abbrev pub on : Point
on = state_point 0 (codes "a") 1 (codes "on") (record { bits = One ∷ []; signed = false })

-- the state is reported to be hit, and left open by its signal at 5
abbrev pub hit : Marking
hit = record { key = of_point on; doubt = None }

abbrev pub doubt : Marking
doubt = record { key = of_point on; doubt = Some (record { time = 5; thing = 1 }) }

-- what a replay knows and has reported
abbrev pub replay : Kept → List Marking → Replay
replay k notes = record { kept = k; acted = λ p. false; notes = notes }

-- one that surely is wants a hit, one that may be a hit or a doubt, and one that is not nothing; of a toggle nothing is asked
pub record IsToldExample : Type 0 where
  pub surely : IsTold pipe on (hit ∷ []) true true
  pub not_surely : IsTold pipe on (doubt ∷ []) true true → ⊥
  pub left_open : IsTold pipe on (doubt ∷ []) false true
  pub not_open : IsTold pipe on [] false true → ⊥
  pub none : IsTold pipe on [] false false
  pub told_on : IsToldOf pipe (replay risen (hit ∷ [])) on
  pub not_told_on : IsToldOf pipe (replay risen []) on → ⊥
  pub told_off : IsToldOf pipe (replay kept []) on
  pub toggle : IsToldOf pipe (replay risen []) (toggle_point 1 0 true)

-- the step at 5, in which a rises and nothing else moves
abbrev pub step : Closing
step =
    record {
      design = pipe;
      bound = λ s. nat_lt s 4;
      run = runs_of pipe;
      tables = record { watched = λ p. []; clocked = []; order = []; last = [] };
      sets = record { moves = λ x. x == 1; trigger = λ p. None; round = λ p. 0; wakes = λ p. None; early = λ p x. false };
      time = 5;
      listed = true;
      new = pipe_values Zero One One X X;
      start = replay kept [];
    }

-- a machine of signal 2, which does not move
abbrev pub still : Machine
still = record light { signal = 2 }

pub record IsFollowedExample (ps : Points) : Type 0 where
  pub state : is_state (State 0 1) ≡ true
  pub no_state : is_state (Arc 0 0 1) ≡ false
  pub arc : step_chances step light (Arc 0 0 1) ≡ surely
  pub turned : step_chances step light (Arc 0 1 0) ≡ never
  pub moved : is_due step light true (Arc 0 0 1) ≡ true
  pub told : is_due step still true (State 0 1) ≡ false
  pub not_told : is_due step still false (State 0 1) ≡ true
  pub no_arc : is_due step still false (Arc 0 0 1) ≡ false
  pub marked : with_machine step light true (Arc 0 0 1) Missed ≡ Hit
  pub left : with_machine step still true (State 0 1) Missed ≡ Missed
  pub more : HasMoreNotes step
  pub marks : MarksMachines step ps true (Missed ∷ Missed ∷ Missed ∷ []) (Missed ∷ Hit ∷ Hit ∷ [])
  pub not_marks : MarksMachines step ps true (Missed ∷ Missed ∷ Missed ∷ []) (Missed ∷ Hit ∷ Missed ∷ []) → ⊥
  pub none_told : AreTold pipe ps (replay risen []) → ⊥

-- rows for fewer signals than the design has
abbrev pub few_rows : MachineIndex
few_rows = record { rows = [] ∷ [] }

pub record IsStepExample (ps : Points) : Type 0 where
  pub own : own_machine ps (Arc 0 0 1) ≡ light
  pub all : MarksAll pipe ps risen 5 (Missed ∷ Missed ∷ Missed ∷ []) (Missed ∷ Hit ∷ Missed ∷ [])
  pub not_all : MarksAll pipe ps risen 5 (Missed ∷ Missed ∷ Missed ∷ []) (Missed ∷ Hit ∷ Hit ∷ []) → ⊥
  pub thing : MarksThing step ps 1 (Missed ∷ Missed ∷ Missed ∷ []) (Missed ∷ Hit ∷ Hit ∷ [])
  pub other_thing : MarksThing step ps 2 (Missed ∷ Missed ∷ Missed ∷ []) (Missed ∷ Hit ∷ Hit ∷ []) → ⊥
  pub too_few : FitsMachines pipe ps few_rows → ⊥
  pub other_time : (x : Store) (v : StepVectors) → IsOver step (1 ∷ []) 6 true x v → ⊥
  pub left_out : (x : Store) (v : StepVectors) → IsOver step [] 5 true x v → ⊥
  pub too_many : (x : Store) (v : StepVectors) → IsOver step (1 ∷ 2 ∷ []) 5 true x v → ⊥
  pub not_moving : (x : Store) (v : StepVectors) → IsMoving step 2 5 true x v → ⊥
