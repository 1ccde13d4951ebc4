-- The arms of a case, worked out on the controller: clk is signal 0, rst is 1, go is 2, st is 3, n is 4, last is 5.
--   always @(posedge clk) if (rst) begin st <= 0; n <= 0; end else case (st)
--     0: if (go) st <= 1;
--     1: begin n <= n + 1; if (last) st <= 2; end
--     default: st <= 0;
--   endcase
use Rattle.std.specs.Prelude.{◌≡◌, ◌⊎◌, ◌∷◌, ℕ, true, false, [], codes}
use Rattle.four_state.specs.declared.bit.Bit.{Bit}
use Rattle.four_state.specs.declared.bit.Bit.TheVariants.{One, Zero}
use Rattle.four_state.specs.declared.edge.Edge.TheVariants.{Pos}
use Rattle.four_state.specs.declared.operator.Binary.TheVariants.{Add}
use Rattle.four_state.specs.declared.operator.CaseKind.TheVariants.{Exact}
use Rattle.design_model.specs.Tree.{Term, a_stmt, a_term, all_of, arm, binary, block, branch, clocked, no_arms, no_stmts, no_terms, number, select, set, signal}
use Rattle.design_model.specs.Design.{Design, a_signal, body_at}
use Rattle.point_words.specs.declared.line_word.LineWord.TheVariants.{Assign}
use Rattle.design_model.specs.declared.point.Point.{Point}
use Rattle.design_model.specs.declared.point.Point.TheVariants.{Line as line_point}
use Rattle.design_model.specs.Reads.{PartialMap}
use Rattle.design_model.specs.Open.{IsOpen, IsSurelyOpen}
use Rattle.design_model.specs.ExampleParts.{at, counted, one_bit, one_instance, two_bits, wide}

-- the number with these two bits, the lowest first
abbrev pub two : Bit → Bit → Term
two low high = number wide (record { bits = low ∷ high ∷ []; signed = false })

-- the design
abbrev pub controller : Design
controller =
    record {
      top = codes "ctl";
      instances = one_instance (codes "ctl");
      signals = one_bit (codes "clk") true ∷ one_bit (codes "rst") true ∷ one_bit (codes "go") true ∷ two_bits (codes "st") ∷ two_bits (codes "n") ∷ one_bit (codes "last") false ∷ [];
      memories = [];
      processes =
          clocked 0 ((Pos, 0) ∷ [])
          (branch (at 5) 1 (signal (counted 1) 1) (block (at 14) (a_stmt (set (at 20) 2 false (all_of 3) (two Zero Zero)) (a_stmt (set (at 32) 3 false (all_of 4) (two Zero Zero)) no_stmts)))
          (a_stmt (select (at 45) 4 Exact (signal wide 3)
          (arm (a_term (two Zero Zero) no_terms) (branch (at 60) 5 (signal (counted 2) 2) (set (at 68) 6 false (all_of 3) (two One Zero)) no_stmts)
          (arm (a_term (two One Zero) no_terms) (block (at 80) (a_stmt (set (at 86) 7 false (all_of 4) (binary wide Add (signal wide 4) (two One Zero))) (a_stmt (branch (at 98) 8 (signal (counted 3) 5) (set (at 108) 9 false (all_of 3) (two Zero One)) no_stmts) no_stmts)))
          (arm no_terms (set (at 130) 10 false (all_of 3) (two Zero Zero)) no_arms)))) no_stmts)) ∷ [];
      constants = [];
      aliases = [];
    }

-- known are rst, which is 0, and st, which is 1
abbrev pub in_run : PartialMap
in_run x bits = ((x ≡ a_signal 1) × (bits ≡ Zero ∷ [])) ⊎ ((x ≡ a_signal 3) × (bits ≡ One ∷ Zero ∷ []))

-- the line point with this number
abbrev pub line : ℕ → Point
line n = line_point 0 n (at 0) Assign

-- Lines of the other arms, and of the reset, are not open; those of the arm that matches are surely open up to the undecided test; what follows that is open, and not surely.
pub record IsArmsExample : Type 0 where
  pub reset_not_open : IsOpen controller in_run (body_at controller 0) (line 2) → ⊥
  pub other_arm_not_open : IsOpen controller in_run (body_at controller 0) (line 5) → ⊥
  pub default_not_open : IsOpen controller in_run (body_at controller 0) (line 10) → ⊥
  pub arm_surely_open : IsSurelyOpen controller in_run (body_at controller 0) (line 7)
  pub behind_test_open : IsOpen controller in_run (body_at controller 0) (line 9)
  pub behind_test_not_sure : IsSurelyOpen controller in_run (body_at controller 0) (line 9) → ⊥
