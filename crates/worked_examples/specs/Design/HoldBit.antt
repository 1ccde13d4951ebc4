-- A register with an enable that tests one bit of a vector, worked out: clk is signal 0, en is 1, a, with two bits, is 2, q is 3, p is 4.
--   always @(posedge clk) begin if (a[1]) q <= 1; else if (en) q <= 0; p <= en; end
use Rattle.std.specs.Prelude.{◌∷◌, ◌⊎◌, ◌≡◌, if◌then◌else◌, ℕ, true, false, List, [], nat_le, nat_lt, slice_index_or, codes}
use Rattle.event_machine.specs.Cell.{Cell, Values}
use Rattle.event_machine.specs.Habit.{Free}
use Rattle.four_state.specs.declared.bit.Bit.{Bit}
use Rattle.four_state.specs.declared.bit.Bit.TheVariants.{One, X, Zero}
use Rattle.four_state.specs.declared.edge.Edge.TheVariants.{Pos}
use Rattle.design_model.specs.Tree.{Term, a_stmt, all_of, bit, block, branch, clocked, no_stmts, set, signal}
use Rattle.design_model.specs.Design.{Design, body_at, cell}
use Rattle.point_words.specs.declared.line_word.LineWord.TheVariants.{Assign}
use Rattle.design_model.specs.declared.point.Point.{Point}
use Rattle.design_model.specs.declared.point.Point.TheVariants.{Line as line_point}
use Rattle.design_model.specs.Shows.{BoundDump, Shows}
use Rattle.design_model.specs.Run.{IsRun, Run}
use Rattle.design_model.specs.Points.{IsHit}
use Rattle.design_model.specs.Lawful.{IsLawfulDesign}
use Rattle.design_model.specs.MayMove.{IsCleanAt}
use Rattle.design_model.specs.Early.{IsEarlyAt}
use Rattle.design_model.specs.Open.{IsOpen, IsSurelyOpen, KnownOnEntry}
use Rattle.design_model.specs.Doubt.{IsInDoubt}
use Rattle.design_model.specs.ExampleParts.{at, bit_number, counted, one_bit, one_instance, plain, two_bits, wide}

-- a[1]
abbrev pub high_bit : Term
high_bit = bit (counted 1) (signal wide 2) (bit_number One)

-- the design
abbrev pub hold_bit : Design
hold_bit =
    record {
      top = codes "hold";
      instances = one_instance (codes "hold");
      signals = one_bit (codes "clk") true ∷ one_bit (codes "en") true ∷ two_bits (codes "a") ∷ one_bit (codes "q") false ∷ one_bit (codes "p") false ∷ [];
      memories = [];
      processes =
          clocked 0 ((Pos, 0) ∷ []) (block (at 3)
          (a_stmt (branch (at 5) 1 high_bit (set (at 15) 2 false (all_of 3) (bit_number One))
          (a_stmt (branch (at 23) 3 (signal (counted 2) 1) (set (at 31) 4 false (all_of 3) (bit_number Zero)) no_stmts) no_stmts))
          (a_stmt (set (at 39) 5 false (all_of 4) (signal plain 1)) no_stmts))) ∷ [];
      constants = [];
      aliases = [];
    }

-- clk, a, the lowest bit first, and q have these values, and en and p are 0
abbrev pub hold_bit_values : Bit → List Bit → Bit → Values Bit
hold_bit_values clk a q c = slice_index_or (slice_index_or ((clk ∷ []) ∷ (Zero ∷ []) ∷ a ∷ (q ∷ []) ∷ (Zero ∷ []) ∷ []) c.thing []) c.place X

-- #0 clk 0, en 0, a 10, q 0, p 0; #5 clk 1, a 11, q 1; #10 clk 0
abbrev pub hold_bit_dump : BoundDump
hold_bit_dump =
    record {
      stretches = (0 ∷ 5 ∷ 10 ∷ []) ∷ [];
      bound = λ s. nat_lt s 5;
      round = λ t. 0;
      values = λ t. if nat_le 10 t then hold_bit_values Zero (One ∷ One ∷ []) One else (if nat_le 5 t then hold_bit_values One (One ∷ One ∷ []) One else hold_bit_values Zero (Zero ∷ One ∷ []) Zero);
    }

-- a bit of a has on entry its old or its new value
abbrev pub IsOldOrNew : Values Bit → Cell → Type 0
IsOldOrNew v c = (v c ≡ hold_bit_dump.values 4 c) ⊎ (v c ≡ hold_bit_dump.values 5 c)

-- the line points of the three assignments
abbrev pub line_one : Point
line_one = line_point 0 2 (at 15) Assign

abbrev pub line_zero : Point
line_zero = line_point 0 4 (at 31) Assign

abbrev pub line_last : Point
line_last = line_point 0 5 (at 39) Assign

-- a changes in its low bit, so it is early, and in doubt for line 2. As en is 0 line 4 is not open, and line 5 is surely open.
-- But bit 1 is 1 whether the block has it old or new, so line 2 is hit in every run that shows the dump.
pub record IsHoldBitExample : Type 0 where
  pub lawful : IsLawfulDesign hold_bit
  pub clean : IsCleanAt hold_bit hold_bit_dump 5 0 (cell 0 0)
  pub early : (x : ℕ) → IsEarlyAt hold_bit Free hold_bit_dump 5 0 (cell 0 0) x → x ≡ 2
  pub doubt : IsInDoubt hold_bit Free hold_bit_dump line_one 5 2
  pub not_open : IsOpen hold_bit (KnownOnEntry hold_bit Free hold_bit_dump 5 0) (body_at hold_bit 0) line_zero → ⊥
  pub surely_open : IsSurelyOpen hold_bit (KnownOnEntry hold_bit Free hold_bit_dump 5 0) (body_at hold_bit 0) line_last
  pub hit : (r : Run) → IsRun hold_bit Free r → Shows hold_bit hold_bit_dump r → IsHit hold_bit hold_bit_dump r line_one
