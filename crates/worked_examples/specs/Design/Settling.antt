-- The register that the dump lacks, where both inputs of its gate move in one step: clk is signal 0, a is 1, b is 2, q is 3, y is 4.
--   always @* y = a & b;
--   always @(posedge clk) if (y) q <= 1; else q <= 0;
use Rattle.std.specs.Prelude.{◌∷◌, if◌then◌else◌, ℕ, false, [], nat_le, nat_lt, codes}
use Rattle.event_machine.specs.Habit.{Free, Habit}
use Rattle.four_state.specs.declared.bit.Bit.TheVariants.{One, X, Zero}
use Rattle.design_model.specs.Design.{a_signal, body_at, cell}
use Rattle.point_words.specs.declared.line_word.LineWord.TheVariants.{Assign}
use Rattle.point_words.specs.declared.node_case.NodeCase.{NodeCase}
use Rattle.point_words.specs.declared.node_case.NodeCase.TheVariants.{BothTrue, RightFalse}
use Rattle.design_model.specs.declared.point.Point.{Point}
use Rattle.design_model.specs.declared.point.Point.TheVariants.{Line as line_point, Logic as logic_point, Toggle as toggle_point}
use Rattle.design_model.specs.Shows.{BoundDump}
use Rattle.design_model.specs.MayMove.{IsCleanAt}
use Rattle.design_model.specs.Early.{IsEarlyAt}
use Rattle.design_model.specs.Clear.{clear}
use Rattle.design_model.specs.Open.{IsOpen, IsReached, IsSurelyOpen, KnownAtEnd, KnownOnEntry}
use Rattle.design_model.specs.Doubt.{IsInDoubt}
use Rattle.design_model.specs.ExampleParts.{at}
use Rattle.design_model.specs.Pipe.{pipe, pipe_values}

-- #0 clk 0, a 0, b 1, q x; #5 a 1, b 0; #10 clk 1, q 0; #15 clk 0
abbrev pub settling_dump : BoundDump
settling_dump =
    record {
      stretches = (0 ∷ 5 ∷ 10 ∷ 15 ∷ []) ∷ [];
      bound = λ s. nat_lt s 4;
      round = λ t. 0;
      values = λ t.
          if nat_le 15 t then pipe_values Zero One Zero Zero X else
          (if nat_le 10 t then pipe_values One One Zero Zero X else (if nat_le 5 t then pipe_values Zero One Zero X X else pipe_values Zero Zero One X X));
    }

-- the logic points of a & b
abbrev pub case_of : NodeCase → Point
case_of x = logic_point 0 1 (at 0) (codes "&") x

-- the line points of q <= 1 and q <= 0
abbrev pub line_one : Point
line_one = line_point 1 3 (at 32) Assign

abbrev pub line_zero : Point
line_zero = line_point 1 4 (at 45) Assign

-- At 5 the gate is scored on settled values: the case of a false right operand is reached, and that of two true ones is not open.
-- y is clear from 5 on, with the value 0, and was not before, so it is in doubt for its fall. At 10 the block knows y: line 3 is not open, and line 4 is reached.
pub record IsSettlingExample : Type 0 where
  pub reached : IsReached pipe Free settling_dump 5 0 (case_of RightFalse)
  pub gate_not_open : IsOpen pipe (KnownAtEnd pipe Free settling_dump 5 0) (body_at pipe 0) (case_of BothTrue) → ⊥
  pub is_clear : clear pipe Free settling_dump 9 (a_signal 4) (Zero ∷ [])
  pub doubt : IsInDoubt pipe Free settling_dump (toggle_point 4 0 false) 5 4
  pub clean : IsCleanAt pipe settling_dump 10 1 (cell 0 0)
  pub none_early : (h : Habit) (x : ℕ) → IsEarlyAt pipe h settling_dump 10 1 (cell 0 0) x → ⊥
  pub not_open : IsOpen pipe (KnownOnEntry pipe Free settling_dump 10 1) (body_at pipe 1) line_one → ⊥
  pub surely_open : IsSurelyOpen pipe (KnownOnEntry pipe Free settling_dump 10 1) (body_at pipe 1) line_zero
