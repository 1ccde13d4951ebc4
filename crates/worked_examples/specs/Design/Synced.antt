-- A synchronised reset, worked out: clk is signal 0, r is 1, d is 2, n is 3, q is 4.
--   always @(posedge clk) n <= r;
--   always @(posedge clk or negedge n) if (!n) q <= 0; else q <= d;
use Rattle.std.specs.Prelude.{◌∷◌, if◌then◌else◌, ℕ, true, false, [], nat_le, nat_lt, slice_index_or, codes}
use Rattle.event_machine.specs.Cell.{Values}
use Rattle.event_machine.specs.Habit.{Free, Habit}
use Rattle.four_state.specs.declared.bit.Bit.{Bit}
use Rattle.four_state.specs.declared.bit.Bit.TheVariants.{One, X, Zero}
use Rattle.four_state.specs.declared.edge.Edge.TheVariants.{Neg, Pos}
use Rattle.four_state.specs.declared.operator.Unary.TheVariants.{LogicalNot}
use Rattle.design_model.specs.Tree.{Term, a_stmt, all_of, branch, clocked, no_stmts, set, signal, unary}
use Rattle.design_model.specs.Design.{Design, body_at, cell}
use Rattle.point_words.specs.declared.line_word.LineWord.TheVariants.{Assign}
use Rattle.design_model.specs.declared.point.Point.{Point}
use Rattle.design_model.specs.declared.point.Point.TheVariants.{Line as line_point}
use Rattle.design_model.specs.Shows.{BoundDump}
use Rattle.design_model.specs.MayMove.{CanWakeAt, IsCleanAt, IsSingleAt}
use Rattle.design_model.specs.Early.{IsEarlyAt}
use Rattle.design_model.specs.Open.{IsNotClean, IsOpen, IsReached, IsSurelyOpen, KnownOnEntry}
use Rattle.design_model.specs.Doubt.{IsInDoubt}
use Rattle.design_model.specs.ExampleParts.{at, bit_number, counted, one_bit, one_instance, plain}

-- !n
abbrev pub no_reset : Term
no_reset = unary (counted 1) LogicalNot (signal plain 3)

-- the design
abbrev pub synced : Design
synced =
    record {
      top = codes "sr";
      instances = one_instance (codes "sr");
      signals = one_bit (codes "clk") true ∷ one_bit (codes "r") true ∷ one_bit (codes "d") true ∷ one_bit (codes "n") false ∷ one_bit (codes "q") false ∷ [];
      memories = [];
      processes =
          clocked 0 ((Pos, 0) ∷ []) (set (at 25) 1 false (all_of 3) (signal plain 1))
          ∷ clocked 0 ((Pos, 0) ∷ (Neg, 3) ∷ []) (branch (at 36) 2 no_reset (set (at 44) 3 false (all_of 4) (bit_number Zero))
          (a_stmt (set (at 57) 4 false (all_of 4) (signal plain 2)) no_stmts)) ∷ [];
      constants = [];
      aliases = [];
    }

-- clk and q have these values, and r, d and n are 1
abbrev pub synced_values : Bit → Bit → Values Bit
synced_values clk q c = slice_index_or (clk ∷ One ∷ One ∷ One ∷ q ∷ []) c.thing X

-- #0 clk 0, r 1, d 1, n 1, q 0; #5 clk 1, q 1; #10 clk 0; each step is judged by this round of single cells
abbrev pub synced_dump : ℕ → BoundDump
synced_dump n =
    record {
      stretches = (0 ∷ 5 ∷ 10 ∷ []) ∷ [];
      bound = λ s. nat_lt s 5;
      round = λ t. n;
      values = λ t. if nat_le 10 t then synced_values Zero One else (if nat_le 5 t then synced_values One One else synced_values Zero Zero);
    }

-- the line points of q <= 0 and q <= d
abbrev pub line_reset : Point
line_reset = line_point 1 3 (at 44) Assign

abbrev pub line_data : Point
line_data = line_point 1 4 (at 57) Assign

-- n may fall and rise within the step by the first round, so both event signals can wake the block of q, and clk is in doubt for its line.
-- In the next round n is single: it stays 1, so clk alone wakes the block, nothing is early, line 3 is not open, and line 4 is reached.
pub record IsSyncedExample : Type 0 where
  pub by_clk : CanWakeAt synced (synced_dump 0) 5 (cell 0 0) 1
  pub by_n : CanWakeAt synced (synced_dump 0) 5 (cell 3 0) 1
  pub not_clean : IsNotClean synced (synced_dump 0) 5 1
  pub doubt : IsInDoubt synced Free (synced_dump 0) line_data 5 0
  pub single : IsSingleAt synced (synced_dump 1) 5 (cell 3 0)
  pub clean : IsCleanAt synced (synced_dump 1) 5 1 (cell 0 0)
  pub none_early : (h : Habit) (x : ℕ) → IsEarlyAt synced h (synced_dump 1) 5 1 (cell 0 0) x → ⊥
  pub not_open : IsOpen synced (KnownOnEntry synced Free (synced_dump 1) 5 1) (body_at synced 1) line_reset → ⊥
  pub surely_open : IsSurelyOpen synced (KnownOnEntry synced Free (synced_dump 1) 5 1) (body_at synced 1) line_data
  pub reached : IsReached synced Free (synced_dump 1) 5 1 line_data
