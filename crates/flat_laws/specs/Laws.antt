-- What holds of the definitions: how line points and counted nodes are numbered, what constants and turns are, and how much text is gone through.
use Rattle.std.specs.Prelude.{◌≡◌, ℕ, ◌+◌, ◌<◌, ◌≤◌, true, List, [], ◌∷◌, None}
use Rattle.event_machine.specs.Cell.{Values}
use Rattle.four_state.specs.Vector.{Vector}
use Rattle.four_state.specs.declared.bit.Bit.{Bit}
use Rattle.design_model.specs.Design.{Design}
use Rattle.design_model.specs.Numbered as numbered
use Rattle.design_model.specs.Numbered.{LineAt}
use Rattle.design_model.specs.Value.{value}
use Rattle.verilog_tree.specs.Tree.{Expr, Statement}
use Rattle.elab_const.specs.Faults.{fault_of, is_constant}
use Rattle.elab_const.specs.Meaning.{meaning, vector_in}
use Rattle.elab_const.specs.Scope as constants
use Rattle.elab_const.specs.declared.width.Shape.{Shape}
use Rattle.flat_design.specs.Bodies.{Met, met_text, statement}
use Rattle.flat_design.specs.Numbering.{lines, statement_nodes}
use Rattle.flat_design.specs.Scope.{Scope, is_thing_entry, look_up, names, with_turn}
use Rattle.flat_design.specs.Terms.{term}

-- each number is from the first on and below the second
abbrev pub AreWithin : ℕ → ℕ → List LineAt → Type 0
AreWithin low high [] = Unit {0}
AreWithin low high (x ∷ xs) = (low ≤ x.line) × (x.line < high) × AreWithin low high xs

-- the line points of a flat statement that is numbered from l on have numbers from l on, as many as the statement has line points
abbrev pub LineLaw : Scope → Statement → Type 0
LineLaw g s = (base l n : ℕ) → AreWithin l (l + lines s) (numbered.lines (statement base g s l n))

-- the two scopes have the same signals and memories, by their names
abbrev pub HaveSameThings : Scope → Scope → Type 0
HaveSameThings g h = (x : List ℕ) → is_thing_entry (look_up g x) ≡ is_thing_entry (look_up h x)

-- a statement has as many counted nodes in each scope with these signals and memories
abbrev pub NodeLaw : Scope → Scope → Type 0
NodeLaw g h = HaveSameThings g h → (s : Statement) → statement_nodes g s ≡ statement_nodes h s

-- in each context the term of a constant expression without a fault has the value of the expression, in every design and state
abbrev pub ConstantLaw : Scope → Expr → Type 0
ConstantLaw g e =
    is_constant (names g) e ≡ true → fault_of (names g) e ≡ None → (base : ℕ) (d : Design) (v : Values Bit) (n : ℕ) (s : Shape)
    → value d v (term base g e n s) ≡ (vector_in (meaning (names g) e) s).bits

-- in a turn the names that have a value are those of the scope, and the variable with the value of the turn
abbrev pub TurnLaw : Scope → Type 0
TurnLaw g = (x y : List ℕ) (v : Vector) → names (with_turn x v g) y ≡ constants.with_turn x v (names g) y

-- how much text was met
abbrev pub text_count : Met → ℕ
text_count (met_text p n) = n
text_count _ = 0
