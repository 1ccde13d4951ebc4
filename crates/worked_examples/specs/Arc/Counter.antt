-- A signal of two bits with the case `case (s) 3'd1: s = 2; 3'd5: s = 3; default: s = 0; endcase` in a block.
use Rattle.std.specs.Prelude.{◌≡◌, ℕ, Bool, true, false, List, [], ◌∷◌, None}
use Rattle.four_state.specs.Vector.{Vector}
use Rattle.four_state.specs.declared.bit.Bit.{Bit}
use Rattle.four_state.specs.declared.bit.Bit.TheVariants.{One, Zero}
use Rattle.four_state.specs.declared.operator.CaseKind.TheVariants.{Exact}
use Rattle.design_model.specs.Design.{Design, nowhere}
use Rattle.design_model.specs.declared.design.Signal.{Signal}
use Rattle.design_model.specs.Tree.{Arms, Head, Stmt, Term, a_stmt, a_term, all_of, arm, block, comb, no_arms, no_stmts, no_terms, number, select, set, signal}
use Rattle.fsm_extract.specs.Arcs.{IsArc, Matches}
use Rattle.fsm_extract.specs.Walked.{process_arcs, process_states}

abbrev pub two_bits : Signal
two_bits = record { instance = 0; name = []; high = 1; low = 0; ranged = true; width = 2; signed = false; input = false }

-- what a term of this width has
abbrev pub of_width : ℕ → Head
of_width w = record { place = nowhere; width = w; signed = false; node = None }

-- an unsigned constant
abbrev pub constant : ℕ → List Bit → Term
constant w bits = number (of_width w) (record { bits = bits; signed = false })

-- the assignment of a constant to the whole signal
abbrev pub becomes : List Bit → Stmt
becomes bits = set nowhere 1 true (all_of 0) (constant 2 bits)

-- the labels 3'd1 and 3'd5, and none
abbrev pub arms : Arms
arms =
    arm (a_term (constant 3 (One ∷ Zero ∷ Zero ∷ [])) no_terms) (becomes (Zero ∷ One ∷ []))
    (arm (a_term (constant 3 (One ∷ Zero ∷ One ∷ [])) no_terms) (becomes (One ∷ One ∷ [])) (arm no_terms (becomes (Zero ∷ Zero ∷ [])) no_arms))

abbrev pub a_case : Stmt
a_case = select nowhere 1 Exact (signal (of_width 3) 0) arms

abbrev pub counter : Design
counter = record { top = []; instances = []; signals = two_bits ∷ []; memories = []; processes = comb 0 [] (block nowhere (a_stmt a_case no_stmts)) ∷ []; constants = []; aliases = [] }

-- the arc from 1 to 2 is drawn, and of the text no other arc and no other label
pub record IsArcExample : Type 0 where
  pub arc : IsArc counter 0 0 1 2
  pub arcs : process_arcs counter 0 0 counter.processes ≡ (1, 2) ∷ []
  pub states : process_states counter 0 counter.processes ≡ 1 ∷ []

-- 3'd1 matches the value 1, and 3'd5 matches no value
pub record IsLabelExample : Type 0 where
  pub one : Matches counter 0 (of_width 3) 1 (constant 3 (One ∷ Zero ∷ Zero ∷ []))
  pub none : (v : ℕ) → Matches counter 0 (of_width 3) v (constant 3 (One ∷ Zero ∷ One ∷ [])) → ⊥
