-- A register that the dump lacks, worked out: clk is signal 0, a is 1, b is 2, q is 3, y is 4.
--   always @* y = a & b;
--   always @(posedge clk) if (y) q <= 1; else q <= 0;
use Rattle.std.specs.Prelude.{◌≡◌, ◌∷◌, if◌then◌else◌, true, false, [], nat_le, nat_lt, slice_index_or, codes}
use Rattle.event_machine.specs.Cell.{Values}
use Rattle.event_machine.specs.Habit.{Free}
use Rattle.four_state.specs.declared.bit.Bit.{Bit}
use Rattle.four_state.specs.declared.bit.Bit.TheVariants.{One, X, Zero}
use Rattle.four_state.specs.declared.edge.Edge.TheVariants.{Pos}
use Rattle.four_state.specs.declared.operator.Binary.TheVariants.{BitwiseAnd}
use Rattle.design_model.specs.Tree.{a_stmt, all_of, binary, branch, clocked, comb, no_stmts, set, signal}
use Rattle.design_model.specs.Design.{Design, a_signal, body_at}
use Rattle.design_model.specs.Execution.{BothTrue, at_line, at_node, execution, reads}
use Rattle.design_model.specs.Reads.{HasValue}
use Rattle.design_model.specs.Shows.{BoundDump}
use Rattle.design_model.specs.Points.{toggle_point}
use Rattle.design_model.specs.Clear.{clear}
use Rattle.design_model.specs.Doubt.{IsInDoubt}
use Rattle.design_model.specs.ExampleParts.{at, bit_number, counted, one_bit, one_instance, plain}

-- the design
abbrev pub pipe : Design
pipe =
    record {
      top = codes "pipe";
      instances = one_instance (codes "pipe");
      signals = one_bit (codes "clk") true ∷ one_bit (codes "a") true ∷ one_bit (codes "b") true ∷ one_bit (codes "q") false ∷ one_bit (codes "y") false ∷ [];
      memories = [];
      processes = comb 0 [] (set (at 13) 1 true (all_of 4) (binary (counted 1) BitwiseAnd (signal plain 1) (signal plain 2))) ∷ clocked 0 ((Pos, 0) ∷ []) (branch (at 25) 2 (signal (counted 2) 4) (set (at 32) 3 false (all_of 3) (bit_number One)) (a_stmt (set (at 45) 4 false (all_of 3) (bit_number Zero)) no_stmts)) ∷ [];
      constants = [];
      aliases = [];
    }

-- the values in which clk, a, b, q and y are these
abbrev pub pipe_values : Bit → Bit → Bit → Bit → Bit → Values Bit
pipe_values clk a b q y c = slice_index_or (clk ∷ a ∷ b ∷ q ∷ y ∷ []) c.thing X

-- #0 clk 0, a 0, b 1, q x; #5 a 1; #10 clk 1, q 1; #15 clk 0
abbrev pub pipe_dump : BoundDump
pipe_dump =
    record {
      stretches = (0 ∷ 5 ∷ 10 ∷ 15 ∷ []) ∷ [];
      bound = λ s. nat_lt s 4;
      values = λ t. if nat_le 15 t then pipe_values Zero One One One X else (if nat_le 10 t then pipe_values One One One One X else (if nat_le 5 t then pipe_values Zero One One X X else pipe_values Zero Zero One X X));
      round = λ t. 0;
    }

-- y is not clear at 4, so it is in doubt at 5 for its rise; at 5 it is clear, with the value 1.
pub record IsPipeExample : Type 0 where
  pub visits : (execution pipe (body_at pipe 0) (pipe_values Zero One One X X)).visits ≡ at_line 1 ∷ reads (a_signal 1) false ∷ reads (a_signal 2) false ∷ at_node 1 BothTrue ∷ []
  pub not_clear : HasValue (clear pipe Free pipe_dump 4) (a_signal 4) → ⊥
  pub doubt : IsInDoubt pipe Free pipe_dump (toggle_point 4 0 true) 5 4
  pub is_clear : clear pipe Free pipe_dump 5 (a_signal 4) (One ∷ [])
