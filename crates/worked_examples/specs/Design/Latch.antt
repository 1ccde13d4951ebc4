-- A latch that the dump lacks, worked out: clk is signal 0, en is 1, d is 2, q is 3, y is 4, z is 5.
--   always @* if (en) y = d;
--   always @(posedge clk) if (y) q <= 1; else q <= 0;
--   assign z = y;
use Rattle.std.specs.Prelude.{◌∷◌, if◌then◌else◌, ℕ, true, false, [], nat_le, nat_lt, slice_index_or, codes}
use Rattle.event_machine.specs.Cell.{Values}
use Rattle.event_machine.specs.Habit.{Free}
use Rattle.four_state.specs.declared.bit.Bit.{Bit}
use Rattle.four_state.specs.declared.bit.Bit.TheVariants.{One, X, Zero}
use Rattle.four_state.specs.declared.edge.Edge.TheVariants.{Pos}
use Rattle.design_model.specs.Tree.{a_stmt, all_of, assign, branch, clocked, comb, no_stmts, set, signal}
use Rattle.design_model.specs.Design.{Design, a_signal, body_at, cell}
use Rattle.point_words.specs.declared.node_case.NodeCase.TheVariants.{ValueTrue}
use Rattle.point_words.specs.declared.line_word.LineWord.TheVariants.{Assign, If}
use Rattle.design_model.specs.Reads.{HasValue}
use Rattle.design_model.specs.Shows.{BoundDump}
use Rattle.design_model.specs.declared.point.Point.TheVariants.{Line as line_point, Logic as logic_point, Toggle as toggle_point}
use Rattle.design_model.specs.MayMove.{IsCleanAt}
use Rattle.design_model.specs.Clear.{clear}
use Rattle.design_model.specs.Open.{IsOpen, IsSurelyOpen, KnownAtEnd}
use Rattle.design_model.specs.Doubt.{IsInDoubt}
use Rattle.design_model.specs.ExampleParts.{at, bit_number, counted, one_bit, one_instance, plain}

-- the design
abbrev pub latch : Design
latch =
    record {
      top = codes "lat";
      instances = one_instance (codes "lat");
      signals = one_bit (codes "clk") true ∷ one_bit (codes "en") true ∷ one_bit (codes "d") true ∷ one_bit (codes "q") false ∷ one_bit (codes "y") false ∷ one_bit (codes "z") false ∷ [];
      memories = [];
      processes =
          comb 0 [] (branch (at 13) 1 (signal (counted 1) 1) (set (at 21) 2 true (all_of 4) (signal plain 2)) no_stmts)
          ∷ clocked 0 ((Pos, 0) ∷ []) (branch (at 25) 3 (signal (counted 2) 4) (set (at 32) 4 false (all_of 3) (bit_number One))
          (a_stmt (set (at 45) 5 false (all_of 3) (bit_number Zero)) no_stmts))
          ∷ assign 0 (all_of 5) (signal (counted 3) 4) true ∷ [];
      constants = [];
      aliases = [];
    }

-- the values in which clk, en, d, q, y and z are these
abbrev pub latch_values : Bit → Bit → Bit → Bit → Bit → Bit → Values Bit
latch_values clk en d q y z c = slice_index_or (clk ∷ en ∷ d ∷ q ∷ y ∷ z ∷ []) c.thing X

-- #0 clk 0, en 0, d 0, q x; #5 d 1; #10 clk 1, q 0; #15 clk 0
abbrev pub latch_dump : BoundDump
latch_dump =
    record {
      stretches = (0 ∷ 5 ∷ 10 ∷ 15 ∷ []) ∷ [];
      bound = λ s. nat_lt s 4;
      round = λ t. 0;
      values = λ t. if nat_le 15 t then latch_values Zero Zero One Zero X X else (if nat_le 10 t then latch_values One Zero One Zero X X else (if nat_le 5 t then latch_values Zero Zero One X X X else latch_values Zero Zero Zero X X X));
    }

-- y is never clear: at 10 it is in doubt for q <= 1, at 5 for its rise and for the value of the net that reads it. As en is 0 the write of y is not open at 5, and the test of en is surely open.
pub record IsLatchExample : Type 0 where
  pub never_clear : (t : ℕ) → HasValue (clear latch Free latch_dump t) (a_signal 4) → ⊥
  pub clean : IsCleanAt latch latch_dump 10 1 (cell 0 0)
  pub doubt_line : IsInDoubt latch Free latch_dump (line_point 1 4 (at 32) Assign) 10 4
  pub doubt_toggle : IsInDoubt latch Free latch_dump (toggle_point 4 0 true) 5 4
  pub doubt_net : IsInDoubt latch Free latch_dump (logic_point 2 3 (at 0) (codes "y") ValueTrue) 5 4
  pub not_open : IsOpen latch (KnownAtEnd latch Free latch_dump 5 0) (body_at latch 0) (line_point 0 2 (at 21) Assign) → ⊥
  pub surely_open : IsSurelyOpen latch (KnownAtEnd latch Free latch_dump 5 0) (body_at latch 0) (line_point 0 1 (at 13) If)
