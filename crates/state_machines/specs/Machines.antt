-- State machines in the order in which they were first named, and what is drawn.
use Rattle.std.specs.Prelude.{◌&&◌, if◌then◌else◌, ℕ, Bool, List, [], ◌∷◌, bytes_eq}
use Rattle.four_state.specs.Vector.{Vector}
use Rattle.design_model.specs.Points.{StateNames}
use Rattle.state_machines.specs.declared.drawn.Drawn.{Drawn}

-- the machines that are named, and the states and arcs that are drawn
pub record StateMachines : Type 0 where
  pub named : List StateNames
  pub drawn : List Drawn

-- none
abbrev pub no_machines : StateMachines
no_machines = record { named = []; drawn = [] }

-- what is drawn of a signal by its name in an instance: a state of each value, and the arc between them if they differ
abbrev pub drawn_of : ℕ → List ℕ → ℕ → Vector → Vector → Drawn
drawn_of i name s x y = record { instance = i; name = name; signal = s; from = x; to = y }

-- the machine of this variable of a module, with these states
abbrev pub machine_of : List ℕ → List ℕ → List (List ℕ) → StateNames
machine_of m v names = record { of_module = m; variable = v; names = names }

-- what a list gives past its end
abbrev pub no_machine : StateNames
no_machine = machine_of [] [] []

-- two machines are of one variable of a module
abbrev pub is_same_variable : StateNames → StateNames → Bool
is_same_variable m n = bytes_eq m.of_module n.of_module && bytes_eq m.variable n.variable

-- with a machine more; a later one of the same variable replaces the earlier, in its place
abbrev pub with_machine : StateNames → List StateNames → List StateNames
with_machine m [] = m ∷ []
with_machine m (n ∷ ns) = if is_same_variable m n then record n { names = m.names } ∷ ns else n ∷ with_machine m ns
