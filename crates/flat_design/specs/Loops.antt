-- The turns of a loop in a scope: the values of its variable, or what is wrong with its header (clause 9.6).
use Rattle.std.specs.Prelude.{ℕ, ◌*◌, suc, Bool, true, false, not, ◌&&◌, ◌||◌, if◌then◌else◌, List, [], ◌∷◌, ◌++◌, length, bytes_eq, Option, Some, None, Result, Ok, Err}
use Rattle.cov_host.specs.declared.place.Place.{Place}
use Rattle.four_state.specs.Vector.{Vector}
use Rattle.tree_sizes.specs.Sizes.{header_size}
use Rattle.four_state.specs.declared.bit.Bit.TheVariants.{X}
use Rattle.verilog_tree.specs.declared.item.Named.{Named}
use Rattle.verilog_tree.specs.Tree.{Expr, identifier, Header}
use Rattle.elab_const.specs.Calls as const
use Rattle.elab_const.specs.Loops.{turns_answer}
use Rattle.elab_const.specs.declared.fault.ConstFault.{ConstFault}
use Rattle.elab_const.specs.declared.fault.ConstKind.TheVariants.{LoopNotConstant}
use Rattle.flat_design.specs.Expressions.{faults, undeclared, names_no_constant}
use Rattle.flat_design.specs.Fault.{Fault, fault_at, of_constant, answer_faults, fault_if, none, Undeclared, WrongUse}
use Rattle.flat_design.specs.Identifiers.{base_name}
use Rattle.flat_design.specs.Scope.{Scope, Entry, a_turn, a_loop_variable, a_faulty_one, look_up, names, names_faulty, with_turn}

-- a plain name
abbrev pub is_identifier : Expr → Bool
is_identifier (identifier p x) = true
is_identifier e = false

-- the header uses one plain name in both places
abbrev pub is_over_one_name : Header → Bool
is_over_one_name h = is_identifier h.name && is_identifier h.target && bytes_eq (base_name h.name).name (base_name h.target).name

-- the loop is over a name without declaration, over the variable of an outer loop, or over what is no loop variable
abbrev pub variable_faults : Option Entry → Place → Named → List Fault
variable_faults None p x = fault_at Undeclared x ∷ []
variable_faults (Some a_loop_variable) p x = []
variable_faults (Some (a_turn v)) p x = fault_at WrongUse x ∷ []
variable_faults (Some a_faulty_one) p x = []
variable_faults (Some _) p x = of_constant LoopNotConstant p ∷ []

-- an expression of a header may name constants alone
abbrev pub named_faults : Scope → Place → Expr → List Fault
named_faults g p e = undeclared g e ++ fault_if (names_no_constant g e) (of_constant LoopNotConstant p) ++ faults g e

-- the scope in some turn; which value the variable has does not matter
abbrev pub in_some_turn : Header → Scope → Scope
in_some_turn h g = with_turn (base_name h.name).name (record { bits = X ∷ []; signed = true }) g

-- the faults of what a header loops over
abbrev pub over_faults : Scope → Header → List Fault
over_faults g h = if is_over_one_name h then variable_faults (look_up g (base_name h.name).name) h.place (base_name h.name) else of_constant LoopNotConstant h.place ∷ []

-- the faults of the names of a header
abbrev pub header_faults : Scope → Header → List Fault
header_faults g h = over_faults g h ++ named_faults g h.place h.first ++ named_faults (in_some_turn h g) h.place h.test ++ named_faults (in_some_turn h g) h.place h.step

-- a header names something whose declaration has a fault
abbrev pub header_names_faulty : Scope → Header → Bool
header_names_faulty g h = names_faulty g h.name || names_faulty g h.first || names_faulty (in_some_turn h g) h.test || names_faulty (in_some_turn h g) h.step

-- the turns, or the first fault of a constant; without faults of names alone
abbrev pub answer : Scope → Header → Result (List Vector) ConstFault
answer g h = if none (header_faults g h) && not (header_names_faulty g h) then const.told (turns_answer (names g) h) else Ok []

-- the values, none where there is a fault
abbrev pub values_of : Result (List Vector) ConstFault → List Vector
values_of (Ok vs) = vs
values_of (Err f) = []

-- the values of the variable, one for each turn; a loop whose header has a fault has no turns
abbrev pub turns : Scope → Header → List Vector
turns g h = values_of (answer g h)

-- what is wrong with a header
abbrev pub turn_faults : Scope → Header → List Fault
turn_faults g h = header_faults g h ++ answer_faults (answer g h)

-- how often a header is gone through: once and in each turn, or up to the limit of turns
abbrev pub times : Result (List Vector) ConstFault → ℕ
times (Ok vs) = suc (length vs)
times (Err f) = 1025

-- the text of a header, as often as it is gone through
abbrev pub turns_size : Scope → Header → ℕ
turns_size g h = header_size h * times (answer g h)
