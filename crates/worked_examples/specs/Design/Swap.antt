-- Two registers that swap, worked out: clk is signal 0, a is 1, b is 2.
--   always @(posedge clk) a <= b;
--   always @(posedge clk) b <= a;
use Rattle.std.specs.Prelude.{◌∷◌, if◌then◌else◌, ℕ, true, false, [], nat_le, nat_lt, slice_index_or, codes}
use Rattle.event_machine.specs.Cell.{Values}
use Rattle.event_machine.specs.Habit.{Free, Habit}
use Rattle.four_state.specs.declared.bit.Bit.{Bit}
use Rattle.four_state.specs.declared.bit.Bit.TheVariants.{One, X, Zero}
use Rattle.four_state.specs.declared.edge.Edge.TheVariants.{Pos}
use Rattle.design_model.specs.Tree.{all_of, clocked, set, signal}
use Rattle.design_model.specs.Design.{Design, body_at, cell}
use Rattle.point_words.specs.declared.line_word.LineWord.TheVariants.{Assign}
use Rattle.design_model.specs.declared.point.Point.TheVariants.{Line as line_point}
use Rattle.design_model.specs.Shows.{BoundDump, IsContradicted}
use Rattle.design_model.specs.MayMove.{IsCleanAt}
use Rattle.design_model.specs.Early.{IsEarlyAt}
use Rattle.design_model.specs.Clear.{IsForced}
use Rattle.design_model.specs.Open.{IsOpen, IsReached, IsSurelyOpen, KnownOnEntry}
use Rattle.design_model.specs.ExampleParts.{at, one_bit, one_instance, plain}

-- the design
abbrev pub swap : Design
swap =
    record {
      top = codes "swap";
      instances = one_instance (codes "swap");
      signals = one_bit (codes "clk") true ∷ one_bit (codes "a") false ∷ one_bit (codes "b") false ∷ [];
      memories = [];
      processes = clocked 0 ((Pos, 0) ∷ []) (set (at 25) 1 false (all_of 1) (signal plain 2)) ∷ clocked 0 ((Pos, 0) ∷ []) (set (at 35) 2 false (all_of 2) (signal plain 1)) ∷ [];
      constants = [];
      aliases = [];
    }

-- the values in which clk, a and b are these
abbrev pub swap_values : Bit → Bit → Bit → Values Bit
swap_values clk a b c = slice_index_or (clk ∷ a ∷ b ∷ []) c.thing X

-- #0 clk 0, a 0, b 1; #5 clk 1, a 1, b this bit; #10 clk 0
abbrev pub swap_dump : Bit → BoundDump
swap_dump b =
    record {
      stretches = (0 ∷ 5 ∷ 10 ∷ []) ∷ [];
      bound = λ s. nat_lt s 3;
      round = λ t. 0;
      values = λ t. if nat_le 10 t then swap_values Zero One b else (if nat_le 5 t then swap_values One One b else swap_values Zero Zero One);
    }

-- The block of b is clean, with nothing early, so its line, which is on the only path, is surely open and reached, and the line of a is not open for it.
-- b is forced to 0 at 5, whatever the dump has there: no run shows a dump that has 1 up to 5.
pub record IsSwapExample : Type 0 where
  pub clean : (b : Bit) → IsCleanAt swap (swap_dump b) 5 1 (cell 0 0)
  pub none_early : (b : Bit) (h : Habit) (x : ℕ) → IsEarlyAt swap h (swap_dump b) 5 1 (cell 0 0) x → ⊥
  pub not_open : (b : Bit) → IsOpen swap (KnownOnEntry swap Free (swap_dump b) 5 1) (body_at swap 1) (line_point 0 1 (at 25) Assign) → ⊥
  pub surely_open : (b : Bit) → IsSurelyOpen swap (KnownOnEntry swap Free (swap_dump b) 5 1) (body_at swap 1) (line_point 1 2 (at 35) Assign)
  pub reached : (b : Bit) → IsReached swap Free (swap_dump b) 5 1 (line_point 1 2 (at 35) Assign)
  pub forced : (b : Bit) → IsForced swap Free (swap_dump b) 5 2 (Zero ∷ [])
  pub contradicted : IsContradicted swap Free (swap_dump One) 5
