-- The marks of the machines of a step, and what the step reports.
use Rattle.std.specs.Prelude.{◌≡◌, ◌≢◌, ◌&&◌, ◌||◌, ◌++◌, not, ℕ, Bool, true, false, List}
use Rattle.mark_laws.specs.cover_points.Listed.{IsPointList, points_of}
use Rattle.mark_laws.specs.cover_points.MachinePoints.{machine_of}
use Rattle.mark_laws.specs.cover_points.Visits.{AreOnce}
use Rattle.mark_laws.specs.cover_points.design_machines.Machines.{machine_at}
use Rattle.mark_laws.specs.cover_points.design_machines.declared.machine.Machine.{Machine}
use Rattle.mark_laws.specs.cover_points.declared.listing.Points.{Points}
use Rattle.mark_laws.specs.cover_points.declared.machine_point.MachinePoint.{MachinePoint}
use Rattle.mark_laws.specs.cover_points.declared.machine_point.MachinePoint.TheVariants.{Arc, State}
use Rattle.mark_laws.specs.Marked.{AreVerdicts}
use Rattle.mark_laws.specs.Signals.{FollowNotes}
use Rattle.mark_laws.specs.replay_model.Marks.{Marking}
use Rattle.mark_laws.specs.replay_model.Step.{Closing, all_run, before_of, closed, known_bits}
use Rattle.mark_laws.specs.replay_model.design_model.Design.{Design, In}
use Rattle.mark_laws.specs.replay_model.design_model.Lawful.{IsLawfulDesign}
use Rattle.mark_laws.specs.replay_model.design_model.declared.point.Point.TheVariants.{Arc as arc_point}
use Rattle.mark_laws.specs.replay_model.four_state.Vector.{Vector}
use Rattle.mark_laws.specs.cover_points.design_machines.state_machines.Machines.{StateMachines}
use Rattle.bit_changes.specs.declared.toggles.Toggles.{Toggles}
use Rattle.replay_steps.specs.Settling.{IsStillAt}
use Rattle.point_marks.specs.declared.verdict.Verdict.{Verdict}
use Rattle.signal_marks.specs.Seen.{AreSeen}
use Rattle.toggle_laws.specs.Turns.{FollowToggles}
use Rattle.machine_marks.specs.Marked.{Chances, MarksEach, chances_in, marked_if}
use Rattle.machine_laws.specs.Told.{AreTold}

-- it is a state
abbrev pub is_state : MachinePoint → Bool
is_state (State k i) = true
is_state (Arc k i j) = false

-- how sure a state or an arc of a machine is in the step
abbrev pub step_chances : Closing → Machine → MachinePoint → Chances
step_chances st x p = chances_in st.listed x.values (known_bits st.design (before_of st) x.signal) (known_bits st.design (all_run st).kept x.signal) p

-- a state or an arc of a machine is marked: where the signal may move, and a state where no state was reported before
abbrev pub is_due : Closing → Machine → Bool → MachinePoint → Bool
is_due st x told p = st.sets.moves x.signal || (is_state p && not told)

-- a verdict after that
abbrev pub with_machine : Closing → Machine → Bool → MachinePoint → Verdict → Verdict
with_machine st x told p v = marked_if (is_due st x told p) x.signal st.time (step_chances st x p) v

-- the states and arcs are so marked, and no other points
abbrev pub MarksMachines : Closing → Points → Bool → List Verdict → List Verdict → Type 0
MarksMachines st ps told before after = MarksEach ps (λ p v. with_machine st (machine_at ps.machines.items (machine_of p)) told p v) before after

-- what the runs of the step report comes after what was reported before it
abbrev pub HasMoreNotes : Closing → Type 0
HasMoreNotes st = (more : List Marking) × ((all_run st).notes ≡ st.start.notes ++ more)

-- once the toggles and the machines are marked, each verdict follows what the step reports of its point
abbrev pub FollowLaw : Type 0
FollowLaw =
    (st : Closing) (ms : StateMachines) (ps : Points) (told : Bool) (before middle after : List Verdict) → IsLawfulDesign st.design → IsPointList st.design ms ps → AreOnce ps
    → AreVerdicts st.design ps (all_run st).notes before → IsStillAt st (all_run st) → HasMoreNotes st → (told ≡ true → st.listed ≡ true → AreTold st.design ps st.start) → (st.listed ≡ false → told ≡ true)
    → FollowToggles st ps before middle → MarksMachines st ps told middle after → FollowNotes st ps before after

-- after a step at a listed time each state was reported
abbrev pub ToldLaw : Type 0
ToldLaw = (st : Closing) (ps : Points) → st.listed ≡ true → AreTold st.design ps (closed st (points_of ps))

-- masks of toggles that are marked already stay so
abbrev pub SeenLaw : Type 0
SeenLaw = (st : Closing) (ps : Points) (masks : List Toggles) (told : Bool) (before after : List Verdict) → AreSeen st.design ps masks before → MarksMachines st ps told before after → AreSeen st.design ps masks after

-- the two values of an arc of a listed machine differ
abbrev pub ArcsLaw : Type 0
ArcsLaw =
    (d : Design) (ms : StateMachines) (ps : Points) (i : ℕ) (name : List ℕ) (s : ℕ) (from to : List ℕ) (x y : Vector) → IsPointList d ms ps
    → In (arc_point i name s from to x y) (points_of ps) → x.bits ≢ y.bits
