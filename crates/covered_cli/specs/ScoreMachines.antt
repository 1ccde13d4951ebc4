-- What the values of a `score` command say of state machines, and of when inputs move.
use Rattle.std.specs.Prelude.{◌≡◌, ◌↔◌, if◌then◌else◌, ℕ, Bool, List, [], ◌∷◌}
use Rattle.command_line.specs.CommandWords.{ScoreValues}
use Rattle.command_line.specs.DrawingWords.{DrawingNames}
use Rattle.command_line.specs.MachineWords.{MachineNames}
use Rattle.design_model.specs.Design.{Design, In}
use Rattle.design_model.specs.Points.{StateNames}
use Rattle.drawn_machines.specs.Drawing.{AreDrawings, IsDrawing, IsPlaced}
use Rattle.drawn_machines.specs.fsm_extract.declared.names.MachinePart.{MachinePart}
use Rattle.drawn_machines.specs.fsm_extract.declared.names.MachinePart.TheVariants.{In as in_part, Module, Out}
use Rattle.event_machine.specs.Habit.{Free, Habit, Late}
use Rattle.state_machines.specs.Machines.{StateMachines, machine_of, with_machine}
use Rattle.state_machines.specs.declared.drawn.Drawn.{Drawn}

-- these machines added to others, one by one: a later one of the same variable takes the place of the earlier
abbrev pub with_machines : List MachineNames → List StateNames → List StateNames
with_machines [] ms = ms
with_machines (x ∷ xs) ms = with_machines xs (with_machine (machine_of x.of_module x.variable x.names) ms)

-- exactly these are drawn for the signals of one value
abbrev pub AreDrawnFor : Design → DrawingNames → List Drawn → Type 0
AreDrawnFor d m es = AreDrawings d m.of_module m.current m.next es

-- e is drawn for the signals of one of the values
abbrev pub IsDrawnFor : Design → List DrawingNames → Drawn → Type 0
IsDrawnFor d xs e = (m : DrawingNames) × In m xs × IsDrawing d m.of_module m.current m.next e

-- exactly these are drawn for the values
abbrev pub AreAllDrawn : Design → List DrawingNames → List Drawn → Type 0
AreAllDrawn d xs es = (e : Drawn) → In e es ↔ IsDrawnFor d xs e

-- the module of a value has an instance, and in each the names are those of two signals of one width
abbrev pub IsPlacedFor : Design → DrawingNames → Type 0
IsPlacedFor d m = IsPlaced d m.of_module m.current m.next

abbrev pub ArePlaced : Design → List DrawingNames → Type 0
ArePlaced d xs = (m : DrawingNames) → In m xs → IsPlacedFor d m

-- a name of a value
abbrev pub part_name : DrawingNames → MachinePart → List ℕ
part_name m Module = m.of_module
part_name m in_part = m.current
part_name m Out = m.next

-- the state machines of the values in a design: those that are named, and exactly what the case statements draw for the signals
pub record AreMachinesOf (score : ScoreValues) (d : Design) (ms : StateMachines) : Type 0 where
  pub named : ms.named ≡ with_machines score.machines []
  pub drawn : AreAllDrawn d score.drawings ms.drawn
  pub placed : ArePlaced d score.drawings

-- the habit of the inputs
abbrev pub habit_when : Bool → Habit
habit_when late = if late then Late else Free

abbrev pub habit_in : ScoreValues → Habit
habit_in score = habit_when score.late
