-- The coverage points of a design with state machines that are named and states and arcs that are drawn.
use Rattle.std.specs.Prelude.{◌≡◌, ◌≢◌, ◌⊎◌, ◌↔◌, ◌<◌, ℕ, List, length, map, reverse}
use Rattle.four_state.specs.Vector.{Vector}
use Rattle.four_state.specs.declared.bit.Bit.{Bit}
use Rattle.four_state.specs.declared.bit.Bit.TheVariants.{One, X, Z, Zero}
use Rattle.design_model.specs.Design.{Design, In, signal_at}
use Rattle.design_model.specs.Points.{IsPoint, StateNames}
use Rattle.design_model.specs.declared.point.Point.{Point}
use Rattle.design_model.specs.declared.point.Point.TheVariants.{State as state_point, Arc as arc_point}
use Rattle.state_machines.specs.Machines.{StateMachines}
use Rattle.state_machines.specs.Values.{IsNamedSignal}
use Rattle.state_machines.specs.declared.drawn.Drawn.{Drawn}

-- the digit of a bit as a byte: 0, 1, x or z
abbrev pub digit_of : Bit → ℕ
digit_of Zero = 48
digit_of One = 49
digit_of X = 120
digit_of Z = 122

-- the digits of a value, the highest first: the name of a state that is drawn
abbrev pub digits_of : Vector → List ℕ
digits_of v = map digit_of (reverse v.bits)

-- the value is one of signal s: it has its width and sign
abbrev pub IsValueOf : Design → ℕ → Vector → Type 0
IsValueOf d s v = (length v.bits ≡ (signal_at d s).width) × (v.signed ≡ (signal_at d s).signed)

-- in its instance the name is that of its signal, and its values are values of the signal
pub record IsOfDesign (d : Design) (e : Drawn) : Type 0 where
  pub instance : e.instance < length d.instances
  pub signal : IsNamedSignal d e.instance e.name e.signal
  pub from : IsValueOf d e.signal e.from
  pub to : IsValueOf d e.signal e.to

-- it is of signal s, by this name in instance i
abbrev pub IsDrawnAt : Drawn → ℕ → List ℕ → ℕ → Type 0
IsDrawnAt e i name s = (e.instance ≡ i) × (e.name ≡ name) × (e.signal ≡ s)

-- the point is a state or an arc that is drawn; an arc is between two different values
abbrev pub IsDrawnPoint : Design → List Drawn → Point → Type 0
IsDrawnPoint d es (state_point i name s state x) = (e : Drawn) × In e es × IsOfDesign d e × IsDrawnAt e i name s × (state ≡ digits_of x) × ((e.from ≡ x) ⊎ (e.to ≡ x))
IsDrawnPoint d es (arc_point i name s from to x y) =
    (e : Drawn) × In e es × IsOfDesign d e × IsDrawnAt e i name s × (from ≡ digits_of x) × (to ≡ digits_of y) × (e.from ≡ x) × (e.to ≡ y) × (x.bits ≢ y.bits)
IsDrawnPoint d es x = ⊥

-- the coverage points of a design with these state machines: a state or an arc is one of a machine that is named, or is drawn
abbrev pub IsPointWith : Design → StateMachines → Point → Type 0
IsPointWith d ms (state_point i name s state x) = IsPoint d ms.named (state_point i name s state x) ⊎ IsDrawnPoint d ms.drawn (state_point i name s state x)
IsPointWith d ms (arc_point i name s from to x y) = IsPoint d ms.named (arc_point i name s from to x y) ⊎ IsDrawnPoint d ms.drawn (arc_point i name s from to x y)
IsPointWith d ms x = IsPoint d ms.named x

-- no state that is named has the digits of one that is drawn
abbrev pub AreNamedApart : StateMachines → Type 0
AreNamedApart ms = (m : StateNames) (name : List ℕ) (e : Drawn) → In m ms.named → In name m.names → In e ms.drawn → (name ≢ digits_of e.from) × (name ≢ digits_of e.to)

-- what is drawn is of the design, and has other names than what is named
pub record AreDrawable (d : Design) (ms : StateMachines) : Type 0 where
  pub of_design : (e : Drawn) → In e ms.drawn → IsOfDesign d e
  pub apart : AreNamedApart ms

-- the same machines are named, and the same states and arcs are drawn
pub record AreAlike (ms ns : StateMachines) : Type 0 where
  pub named : ms.named ≡ ns.named
  pub drawn : (e : Drawn) → In e ms.drawn ↔ In e ns.drawn
