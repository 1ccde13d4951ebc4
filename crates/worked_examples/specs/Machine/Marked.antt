-- Examples of the marks of a state machine over a step.
use Rattle.std.specs.Prelude.{◌≡◌, ◌∷◌, ℕ, true, false, List, [], Option, Some, None, codes}
use Rattle.four_state.specs.Vector.{Vector}
use Rattle.four_state.specs.declared.bit.Bit.{Bit}
use Rattle.four_state.specs.declared.bit.Bit.TheVariants.{One, Zero}
use Rattle.cover_points.specs.design_machines.declared.machine.Machine.{Machine}
use Rattle.cover_points.specs.declared.listing.Points.{Points}
use Rattle.cover_points.specs.declared.machine_point.MachinePoint.TheVariants.{Arc, State}
use Rattle.point_marks.specs.declared.verdict.Verdict.TheVariants.{Hit, Missed, Undetermined}
use Rattle.machine_index.specs.Index.{HasSignal, HasValue, IsIndexOf}
use Rattle.machine_index.specs.declared.index.MachineIndex.{MachineIndex}
use Rattle.machine_marks.specs.Marked.{Chances, MarksMachine, MarksOne, MarksStates, chances_from, chances_of, marked_if}
use Rattle.machine_marks.specs.Marked.{is_arc_below, is_arc_from, is_arc_of, is_of_machine, is_point, is_state_of}

-- the values 00, 01 and 10, from the lowest bit up
abbrev pub three : List Vector
three = record { bits = Zero ∷ Zero ∷ []; signed = false } ∷ record { bits = One ∷ Zero ∷ []; signed = false } ∷ record { bits = Zero ∷ One ∷ []; signed = false } ∷ []

-- the signal is 00, it is 01, and its lowest bit is not known
abbrev pub at_zero : List (Option Bit)
at_zero = Some Zero ∷ Some Zero ∷ []

abbrev pub at_one : List (Option Bit)
at_one = Some One ∷ Some Zero ∷ []

abbrev pub half : List (Option Bit)
half = None ∷ Some Zero ∷ []

abbrev pub surely : Chances
surely = record { sure = true; possible = true }

abbrev pub perhaps : Chances
perhaps = record { sure = false; possible = true }

abbrev pub never : Chances
never = record { sure = false; possible = false }

-- a state is by the end of the step, and an arc by its start and its end; a verdict that is hit stays, and one of another point too
pub record IsChanceExample : Type 0 where
  pub state : chances_of three at_zero at_one (State 0 1) ≡ surely
  pub no_state : chances_of three at_zero at_one (State 0 0) ≡ never
  pub open_state : chances_of three at_zero half (State 0 0) ≡ perhaps
  pub closed_state : chances_of three at_zero half (State 0 2) ≡ never
  pub arc : chances_of three at_zero at_one (Arc 0 0 1) ≡ surely
  pub turned : chances_of three at_zero at_one (Arc 0 1 0) ≡ never
  pub open_arc : chances_of three half at_one (Arc 0 0 1) ≡ perhaps
  pub from_sure : chances_from true true three at_one (Arc 0 0 1) ≡ surely
  pub from_open : chances_from false true three at_one (Arc 0 0 1) ≡ perhaps
  pub from_no_state : chances_from true true three at_one (State 0 1) ≡ never
  pub hit : marked_if true 0 5 surely Missed ≡ Hit
  pub left_open : marked_if true 0 5 perhaps Missed ≡ Undetermined (record { thing = 0; time = 5 })
  pub kept : marked_if true 0 5 perhaps Hit ≡ Hit
  pub missed : marked_if true 0 5 never Missed ≡ Missed
  pub other : marked_if false 0 5 surely Missed ≡ Missed

-- of a machine 0 with three states
pub record IsTestExample : Type 0 where
  pub point : is_point (Arc 0 1 2) (Arc 0 1 2) ≡ true
  pub turned_point : is_point (Arc 0 1 2) (Arc 0 2 1) ≡ false
  pub other_state : is_point (State 0 1) (State 0 2) ≡ false
  pub other_machine : is_point (State 0 1) (State 1 1) ≡ false
  pub other_kind : is_point (State 0 1) (Arc 0 1 2) ≡ false
  pub state : is_state_of 0 3 (State 0 2) ≡ true
  pub past_state : is_state_of 0 3 (State 0 3) ≡ false
  pub no_state : is_state_of 0 3 (Arc 0 0 1) ≡ false
  pub below : is_arc_below 0 3 1 (Arc 0 0 2) ≡ true
  pub not_below : is_arc_below 0 3 1 (Arc 0 1 2) ≡ false
  pub past : is_arc_below 0 3 1 (Arc 0 0 3) ≡ false
  pub arc : is_arc_of 0 3 (Arc 0 2 1) ≡ true
  pub no_arc : is_arc_of 0 3 (State 0 1) ≡ false
  pub from : is_arc_from 0 3 1 (Arc 0 1 2) ≡ true
  pub not_from : is_arc_from 0 3 1 (Arc 0 2 1) ≡ false
  pub of_state : is_of_machine 0 3 (State 0 1) ≡ true
  pub of_arc : is_of_machine 0 3 (Arc 0 0 1) ≡ true
  pub of_other : is_of_machine 0 3 (State 1 0) ≡ false

-- a machine of signal 1, of one bit, with the states 0 and 1, and the arc that leaves the first
abbrev pub light : Machine
light =
    record {
      instance = 0;
      variable = codes "a";
      signal = 1;
      names = codes "off" ∷ codes "on" ∷ [];
      values = record { bits = Zero ∷ []; signed = false } ∷ record { bits = One ∷ []; signed = false } ∷ [];
      leaving = 1;
    }

-- these are the points of its two states and of the arc from the first one to the second
pub record HasOneMachine (ps : Points) : Type 0 where
  pub machines : ps.machines.items ≡ light ∷ []
  pub states : ps.states.items ≡ State 0 0 ∷ State 0 1 ∷ Arc 0 0 1 ∷ []
  pub lines : ps.lines.items ≡ []
  pub nodes : ps.nodes.items ≡ []
  pub toggles : ps.toggles.items ≡ []

-- the signal rises: the second state and the arc are hit, and neither the first state, nor is the second passed over
pub record IsMarksExample (ps : Points) : Type 0 where
  pub machine : MarksMachine true ps 0 light 5 (Some Zero ∷ []) (Some One ∷ []) (Missed ∷ Missed ∷ Missed ∷ []) (Missed ∷ Hit ∷ Hit ∷ [])
  pub not_first : MarksMachine true ps 0 light 5 (Some Zero ∷ []) (Some One ∷ []) (Missed ∷ Missed ∷ Missed ∷ []) (Hit ∷ Hit ∷ Hit ∷ []) → ⊥
  pub not_passed : MarksMachine true ps 0 light 5 (Some Zero ∷ []) (Some One ∷ []) (Missed ∷ Missed ∷ Missed ∷ []) (Missed ∷ Missed ∷ Hit ∷ []) → ⊥
  pub states : MarksStates ps 0 light 5 (Some One ∷ []) (Missed ∷ Missed ∷ Missed ∷ []) (Missed ∷ Hit ∷ Missed ∷ [])
  pub no_arc : MarksStates ps 0 light 5 (Some One ∷ []) (Missed ∷ Missed ∷ Missed ∷ []) (Missed ∷ Hit ∷ Hit ∷ []) → ⊥
  pub one : MarksOne ps (Arc 0 0 1) (record { signal = 1; time = 5 }) false true (Hit ∷ Missed ∷ Missed ∷ []) (Hit ∷ Missed ∷ Undetermined (record { thing = 1; time = 5 }) ∷ [])
  pub not_one : MarksOne ps (Arc 0 0 1) (record { signal = 1; time = 5 }) false true (Hit ∷ Missed ∷ Missed ∷ []) (Hit ∷ Missed ∷ Missed ∷ []) → ⊥

-- of two signals the second has the machine
abbrev pub rows : MachineIndex
rows = record { rows = [] ∷ (0 ∷ []) ∷ [] }

abbrev pub no_rows : MachineIndex
no_rows = record { rows = [] ∷ [] ∷ [] }

pub record IsIndexExample : Type 0 where
  pub signal : HasSignal (light ∷ []) 0 1
  pub other_signal : HasSignal (light ∷ []) 0 0 → ⊥
  pub past : HasSignal (light ∷ []) 1 1 → ⊥
  pub index : IsIndexOf (light ∷ []) 2 rows
  pub left_out : IsIndexOf (light ∷ []) 2 no_rows → ⊥
  pub too_few : IsIndexOf (light ∷ []) 3 rows → ⊥
  pub value : HasValue three 1 (record { bits = One ∷ Zero ∷ []; signed = false })
  pub other_value : HasValue three 2 (record { bits = One ∷ Zero ∷ []; signed = false }) → ⊥
