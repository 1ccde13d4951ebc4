-- What the case statements of a design draw for two signals of a module, in each instance of it.
use Rattle.std.specs.Prelude.{◌≡◌, ◌⊎◌, ◌↔◌, ◌<◌, ◌^◌, ℕ, List, map}
use Rattle.std.specs.List.{All}
use Rattle.design_model.specs.Design.{Design, In, signal_at}
use Rattle.design_model.specs.Points.{IsInstanceOf}
use Rattle.four_state.specs.Vector.{Vector}
use Rattle.fsm_extract.specs.Arcs.{IsArc, IsState, bits_as}
use Rattle.fsm_extract.specs.Fault.{IsMachine, NamesNone, NamesNoneAs}
use Rattle.fsm_extract.specs.declared.names.MachinePart.{MachinePart}
use Rattle.fsm_extract.specs.declared.names.MachinePart.TheVariants as part
use Rattle.state_machines.specs.Machines.{drawn_of}
use Rattle.state_machines.specs.Values.{IsNamedSignal}
use Rattle.state_machines.specs.declared.drawn.Drawn.{Drawn}

-- the value of signal s that is this number
abbrev pub number_value : Design → ℕ → ℕ → Vector
number_value d s n = record { bits = bits_as d s n; signed = (signal_at d s).signed }

-- of signal s by this name in instance i: the state that is this number
abbrev pub state_drawn : Design → ℕ → List ℕ → ℕ → ℕ → Drawn
state_drawn d i name s v = drawn_of i name s (number_value d s v) (number_value d s v)

-- and the arc from one state to another
abbrev pub arc_drawn : Design → ℕ → List ℕ → ℕ → ℕ × ℕ → Drawn
arc_drawn d i name s a = drawn_of i name s (number_value d s a.0) (number_value d s a.1)

abbrev pub states_drawn : Design → ℕ → List ℕ → ℕ → List ℕ → List Drawn
states_drawn d i name s vs = map (state_drawn d i name s) vs

abbrev pub arcs_drawn : Design → ℕ → List ℕ → ℕ → List (ℕ × ℕ) → List Drawn
arcs_drawn d i name s pairs = map (arc_drawn d i name s) pairs

-- the signal has values that are these numbers
abbrev pub AreNumbers : Design → ℕ → List ℕ → Type 0
AreNumbers d s vs = All (λ v. v < 2 ^ (signal_at d s).width) vs

abbrev pub AreNumberPairs : Design → ℕ → List (ℕ × ℕ) → Type 0
AreNumberPairs d s pairs = All (λ a. (a.0 < 2 ^ (signal_at d s).width) × (a.1 < 2 ^ (signal_at d s).width)) pairs

-- e is a state or an arc that is drawn for the signals s and t, under this name in instance i
abbrev pub IsDrawnIn : Design → ℕ → List ℕ → ℕ → ℕ → Drawn → Type 0
IsDrawnIn d i name s t e = ((v : ℕ) × IsState d s t v × (e ≡ state_drawn d i name s v)) ⊎ ((v w : ℕ) × IsArc d s t v w × (e ≡ arc_drawn d i name s (v, w)))

-- exactly these are drawn in the instance
abbrev pub AreDrawnIn : Design → ℕ → List ℕ → ℕ → ℕ → List Drawn → Type 0
AreDrawnIn d i name s t es = (e : Drawn) → In e es ↔ IsDrawnIn d i name s t e

-- e is drawn for the signals of these names in instance i, which is of the module, under the first name
abbrev pub IsDrawnOf : Design → List ℕ → List ℕ → List ℕ → ℕ → Drawn → Type 0
IsDrawnOf d of_module current next i e = (s t : ℕ) × IsMachine d of_module i current next s t × IsDrawnIn d i current s t e

-- exactly these are drawn in instance i
abbrev pub AreDrawnOf : Design → List ℕ → List ℕ → List ℕ → ℕ → List Drawn → Type 0
AreDrawnOf d of_module current next i es = (e : Drawn) → In e es ↔ IsDrawnOf d of_module current next i e

-- e is drawn in some instance of the module
abbrev pub IsDrawing : Design → List ℕ → List ℕ → List ℕ → Drawn → Type 0
IsDrawing d of_module current next e = (i : ℕ) × IsDrawnOf d of_module current next i e

-- exactly these are drawn in the instances of the module
abbrev pub AreDrawings : Design → List ℕ → List ℕ → List ℕ → List Drawn → Type 0
AreDrawings d of_module current next es = (e : Drawn) → In e es ↔ IsDrawing d of_module current next e

-- in instance i the names are those of two signals of one width
abbrev pub HasMachine : Design → List ℕ → List ℕ → List ℕ → ℕ → Type 0
HasMachine d of_module current next i = (s t : ℕ) × IsMachine d of_module i current next s t

-- the module has an instance, and in each the names are those of two signals of one width
pub record IsPlaced (d : Design) (of_module current next : List ℕ) : Type 0 where
  pub some : (i : ℕ) × IsInstanceOf d i of_module
  pub all : (i : ℕ) → IsInstanceOf d i of_module → HasMachine d of_module current next i

-- in instance i this is the first of the names that is at fault
abbrev pub IsNoMachineIn : Design → List ℕ → List ℕ → ℕ → MachinePart → Type 0
IsNoMachineIn d current next i part.Module = ⊥
IsNoMachineIn d current next i part.In = NamesNone d i current
IsNoMachineIn d current next i part.Out = (s : ℕ) × IsNamedSignal d i current s × NamesNoneAs d i next s

-- the module has no instance; or a name is at fault in an instance, the first in which one is
abbrev pub IsNoMachine : Design → List ℕ → List ℕ → List ℕ → MachinePart → Type 0
IsNoMachine d of_module current next part.Module = (i : ℕ) → IsInstanceOf d i of_module → ⊥
IsNoMachine d of_module current next at =
    (i : ℕ) × IsInstanceOf d i of_module × IsNoMachineIn d current next i at × ((j : ℕ) → j < i → IsInstanceOf d j of_module → HasMachine d of_module current next j)
