-- The verdicts of states and arcs after a step.
use Rattle.std.specs.Prelude.{◌≡◌, ◌==◌, ◌&&◌, not, nat_lt, if◌then◌else◌, ℕ, Bool, true, false, List, Option, length}
use Rattle.design_machines.specs.state_machines.Same.{bits_at}
use Rattle.design_machines.specs.declared.machine.Machine.{Machine}
use Rattle.four_state.specs.declared.bit.Bit.{Bit}
use Rattle.four_state.specs.Vector.{Vector}
use Rattle.cover_points.specs.Visits.{IsMachinePointAt}
use Rattle.cover_points.specs.declared.listing.Points.{Points}
use Rattle.cover_points.specs.declared.machine_point.MachinePoint.{MachinePoint}
use Rattle.cover_points.specs.declared.machine_point.MachinePoint.TheVariants.{Arc, State}
use Rattle.mark_laws.specs.replay_model.Step.{are_surely, may_be}
use Rattle.point_marks.specs.declared.verdict.Verdict.{Verdict}
use Rattle.signal_marks.specs.Toggled.{toggled, verdict_of}
use Rattle.machine_marks.specs.declared.chance.Chance.{Chance}
use Rattle.machine_marks.specs.declared.chance.Chance.TheVariants.{Never, Sure}
use Rattle.machine_marks.specs.declared.mark.Reason.{Reason}

-- it surely is so
abbrev pub is_sure : Chance → Bool
is_sure Sure = true
is_sure _ = false

-- it may be so
abbrev pub is_possible : Chance → Bool
is_possible Never = false
is_possible _ = true

-- whether a state or an arc surely was, and whether it may have been
pub record Chances : Type 0 where
  pub sure : Bool
  pub possible : Bool

-- the verdict of each state and arc is changed so, and those of other points stay
pub record MarksEach (ps : Points) (mark : MachinePoint → Verdict → Verdict) (before after : List Verdict) : Type 0 where
  pub count : length after ≡ length before
  pub each : (n : ℕ) (p : MachinePoint) → IsMachinePointAt ps n p → verdict_of after n ≡ mark p (verdict_of before n)
  pub others : (n : ℕ) → ((p : MachinePoint) → IsMachinePointAt ps n p → ⊥) → verdict_of after n ≡ verdict_of before n

-- the verdict of one that passes a test, by how sure it is
abbrev pub marked_if : Bool → ℕ → ℕ → Chances → Verdict → Verdict
marked_if test s time chances v = if test then toggled s time chances.sure chances.possible v else v

-- the states and arcs that pass a test are marked by how sure they are, and no other points
abbrev pub MarksThose : Points → ℕ → ℕ → (MachinePoint → Bool) → (MachinePoint → Chances) → List Verdict → List Verdict → Type 0
MarksThose ps s time test chances before after = MarksEach ps (λ p v. marked_if (test p) s time (chances p) v) before after

-- it is this state or arc
abbrev pub is_point : MachinePoint → MachinePoint → Bool
is_point (State k i) (State m j) = (k == m) && (i == j)
is_point (Arc k i a) (Arc m j b) = (k == m) && ((i == j) && (a == b))
is_point _ _ = false

-- one state or arc is marked
abbrev pub MarksOne : Points → MachinePoint → Reason → Bool → Bool → List Verdict → List Verdict → Type 0
MarksOne ps p r sure possible before after = MarksThose ps r.signal r.time (is_point p) (λ q. record { sure = sure; possible = possible }) before after

-- how sure a state of a machine is by what is known at the end of the step, and an arc by what is known before and after it
abbrev pub chances_of : List Vector → List (Option Bit) → List (Option Bit) → MachinePoint → Chances
chances_of values old now (State k i) = record { sure = are_surely now (bits_at values i); possible = may_be now (bits_at values i) }
chances_of values old now (Arc k i j) =
    record { sure = are_surely old (bits_at values i) && are_surely now (bits_at values j); possible = may_be old (bits_at values i) && may_be now (bits_at values j) }

-- the same where the time is listed; at another time a state is never sure, and may be where it may be come to
abbrev pub chances_in : Bool → List Vector → List (Option Bit) → List (Option Bit) → MachinePoint → Chances
chances_in true values old now p = chances_of values old now p
chances_in false values old now (State k i) = record { sure = false; possible = may_be now (bits_at values i) && not (are_surely old (bits_at values i)) }
chances_in false values old now (Arc k i j) = chances_of values old now (Arc k i j)

-- a state of this machine, of so many
abbrev pub is_state_of : ℕ → ℕ → MachinePoint → Bool
is_state_of k n (State m i) = (k == m) && nat_lt i n
is_state_of k n (Arc m i j) = false

-- an arc of this machine that leaves one of so many states, and enters one of so many
abbrev pub is_arc_below : ℕ → ℕ → ℕ → MachinePoint → Bool
is_arc_below k n below (State m i) = false
is_arc_below k n below (Arc m i j) = (k == m) && (nat_lt i below && nat_lt j n)

-- an arc of this machine, between so many states
abbrev pub is_arc_of : ℕ → ℕ → MachinePoint → Bool
is_arc_of k n p = is_arc_below k n n p

-- an arc that leaves this state
abbrev pub is_arc_from : ℕ → ℕ → ℕ → MachinePoint → Bool
is_arc_from k n from (State m i) = false
is_arc_from k n from (Arc m i j) = (k == m) && ((from == i) && nat_lt j n)

-- a state or an arc of this machine
abbrev pub is_of_machine : ℕ → ℕ → MachinePoint → Bool
is_of_machine k n (State m i) = is_state_of k n (State m i)
is_of_machine k n (Arc m i j) = is_arc_of k n (Arc m i j)

-- the states of machine k are marked by what is known of its signal
abbrev pub MarksStates : Points → ℕ → Machine → ℕ → List (Option Bit) → List Verdict → List Verdict → Type 0
MarksStates ps k x time now before after = MarksThose ps x.signal time (is_state_of k (length x.values)) (chances_of x.values now now) before after

-- its states and arcs are, by what is known before and after a step at a time that is listed or not
abbrev pub MarksMachine : Bool → Points → ℕ → Machine → ℕ → List (Option Bit) → List (Option Bit) → List Verdict → List Verdict → Type 0
MarksMachine listed ps k x time old now before after = MarksThose ps x.signal time (is_of_machine k (length x.values)) (chances_in listed x.values old now) before after

-- how sure an arc is that leaves a state of which so much is known
abbrev pub chances_from : Bool → Bool → List Vector → List (Option Bit) → MachinePoint → Chances
chances_from sure possible values now (State k i) = record { sure = false; possible = false }
chances_from sure possible values now (Arc k i j) = record { sure = sure && are_surely now (bits_at values j); possible = possible && may_be now (bits_at values j) }
