-- A register with an asynchronous reset, worked out: clk is signal 0, rst_n is 1, d is 2, q is 3.
--   always @(posedge clk or negedge rst_n) if (!rst_n) q <= 0; else q <= d;
use Rattle.std.specs.Prelude.{◌∷◌, if◌then◌else◌, ℕ, true, false, [], nat_le, nat_lt, slice_index_or, codes}
use Rattle.event_machine.specs.Cell.{Values}
use Rattle.event_machine.specs.Habit.{Free, Habit}
use Rattle.four_state.specs.declared.bit.Bit.{Bit}
use Rattle.four_state.specs.declared.bit.Bit.TheVariants.{One, X, Zero}
use Rattle.four_state.specs.declared.edge.Edge.TheVariants.{Neg, Pos}
use Rattle.four_state.specs.declared.operator.Unary.TheVariants.{LogicalNot}
use Rattle.design_model.specs.Tree.{a_stmt, all_of, branch, clocked, no_stmts, set, signal, unary}
use Rattle.design_model.specs.Design.{Design, body_at, cell}
use Rattle.point_words.specs.declared.line_word.LineWord.TheVariants.{Assign, If}
use Rattle.design_model.specs.Shows.{BoundDump}
use Rattle.design_model.specs.declared.point.Point.{Point}
use Rattle.design_model.specs.declared.point.Point.TheVariants.{Line as line_point}
use Rattle.design_model.specs.MayMove.{CanWakeAt, IsCleanAt}
use Rattle.design_model.specs.Early.{IsEarlyAt}
use Rattle.design_model.specs.Open.{IsNotClean, IsOpen, IsOpenFor, IsReached, IsSurelyOpen, KnownOnEntry}
use Rattle.design_model.specs.Doubt.{IsInDoubt}
use Rattle.design_model.specs.ExampleParts.{at, bit_number, counted, one_bit, one_instance, plain}

-- the design
abbrev pub reset : Design
reset =
    record {
      top = codes "ffr";
      instances = one_instance (codes "ffr");
      signals = one_bit (codes "clk") true ∷ one_bit (codes "rst_n") true ∷ one_bit (codes "d") true ∷ one_bit (codes "q") false ∷ [];
      memories = [];
      processes =
          clocked 0 ((Pos, 0) ∷ (Neg, 1) ∷ []) (branch (at 5) 1 (unary (counted 1) LogicalNot (signal plain 1)) (set (at 17) 2 false (all_of 3) (bit_number Zero))
          (a_stmt (set (at 30) 3 false (all_of 3) (signal plain 2)) no_stmts)) ∷ [];
      constants = [];
      aliases = [];
    }

-- the values in which clk, rst_n, d and q are these
abbrev pub reset_values : Bit → Bit → Bit → Bit → Values Bit
reset_values clk rst_n d q c = slice_index_or (clk ∷ rst_n ∷ d ∷ q ∷ []) c.thing X

-- #0 clk 0, rst_n this bit, d 1, q 0; #5 clk 1, rst_n that bit; #10 clk 0
abbrev pub reset_dump : Bit → Bit → BoundDump
reset_dump before after =
    record {
      stretches = (0 ∷ 5 ∷ 10 ∷ []) ∷ [];
      bound = λ s. nat_lt s 4;
      round = λ t. 0;
      values = λ t. if nat_le 10 t then reset_values Zero after One Zero else (if nat_le 5 t then reset_values One after One Zero else reset_values Zero before One Zero);
    }

-- rst_n falls as clk rises
abbrev pub both_dump : BoundDump
both_dump = reset_dump One Zero

-- rst_n rises as clk rises
abbrev pub release_dump : BoundDump
release_dump = reset_dump Zero One

-- rst_n stays 1
abbrev pub steady_dump : BoundDump
steady_dump = reset_dump One One

-- the line points of the if, of q <= 0, and of q <= d
abbrev pub line_if : Point
line_if = line_point 0 1 (at 5) If

abbrev pub line_reset : Point
line_reset = line_point 0 2 (at 17) Assign

abbrev pub line_data : Point
line_data = line_point 0 3 (at 30) Assign

-- Both event signals can wake the block, so it is not clean: each point is open, clk is in doubt, and no point is reached, though line 1 is on each path.
pub record IsBothExample : Type 0 where
  pub by_clk : CanWakeAt reset both_dump 5 (cell 0 0) 0
  pub by_rst_n : CanWakeAt reset both_dump 5 (cell 1 0) 0
  pub not_clean : IsNotClean reset both_dump 5 0
  pub each_open : (x : Point) → IsOpenFor reset Free both_dump 5 0 x
  pub doubt : IsInDoubt reset Free both_dump line_if 5 0
  pub surely_open : IsSurelyOpen reset (KnownOnEntry reset Free both_dump 5 0) (body_at reset 0) line_if
  pub none_reached : (x : Point) → IsReached reset Free both_dump 5 0 x → ⊥

-- The rise of rst_n is not its edge, so the block is clean: line 1 is surely open and reached, and rst_n, which is early, is in doubt for line 2.
pub record IsReleaseExample : Type 0 where
  pub clean : IsCleanAt reset release_dump 5 0 (cell 0 0)
  pub early : IsEarlyAt reset Free release_dump 5 0 (cell 0 0) 1
  pub surely_open : IsSurelyOpen reset (KnownOnEntry reset Free release_dump 5 0) (body_at reset 0) line_if
  pub reached : IsReached reset Free release_dump 5 0 line_if
  pub doubt : IsInDoubt reset Free release_dump line_reset 5 1

-- Where rst_n stays 1 the block is clean and knows it: the line of the reset is not open, and the other is surely open and reached.
pub record IsSteadyResetExample : Type 0 where
  pub clean : IsCleanAt reset steady_dump 5 0 (cell 0 0)
  pub none_early : (h : Habit) (x : ℕ) → IsEarlyAt reset h steady_dump 5 0 (cell 0 0) x → ⊥
  pub not_open : IsOpen reset (KnownOnEntry reset Free steady_dump 5 0) (body_at reset 0) line_reset → ⊥
  pub surely_open : IsSurelyOpen reset (KnownOnEntry reset Free steady_dump 5 0) (body_at reset 0) line_data
  pub reached : IsReached reset Free steady_dump 5 0 line_data
