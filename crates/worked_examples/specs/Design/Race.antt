-- A blocking write that another block reads at the same edge, worked out: clk is signal 0, d is 1, a is 2, b is 3.
--   always @(posedge clk) a = d;
--   always @(posedge clk) if (a) b <= 1; else b <= 0;
use Rattle.std.specs.Prelude.{◌∷◌, if◌then◌else◌, ℕ, true, false, [], nat_le, nat_lt, slice_index_or, codes}
use Rattle.event_machine.specs.Cell.{Values}
use Rattle.event_machine.specs.Habit.{Free, Habit}
use Rattle.four_state.specs.declared.bit.Bit.{Bit}
use Rattle.four_state.specs.declared.bit.Bit.TheVariants.{One, X, Zero}
use Rattle.four_state.specs.declared.edge.Edge.TheVariants.{Pos}
use Rattle.design_model.specs.Tree.{a_stmt, all_of, branch, clocked, no_stmts, set, signal}
use Rattle.design_model.specs.Design.{Design, body_at, cell}
use Rattle.point_words.specs.declared.line_word.LineWord.TheVariants.{Assign, If}
use Rattle.design_model.specs.declared.point.Point.{Point}
use Rattle.design_model.specs.declared.point.Point.TheVariants.{Line as line_point}
use Rattle.design_model.specs.Shows.{BoundDump}
use Rattle.design_model.specs.MayMove.{IsCleanAt}
use Rattle.design_model.specs.Early.{IsEarlyAt}
use Rattle.design_model.specs.Open.{IsOpen, IsReached, IsSurelyOpen, KnownOnEntry}
use Rattle.design_model.specs.Doubt.{IsInDoubt}
use Rattle.design_model.specs.ExampleParts.{at, bit_number, counted, one_bit, one_instance, plain}

-- the design
abbrev pub race : Design
race =
    record {
      top = codes "race";
      instances = one_instance (codes "race");
      signals = one_bit (codes "clk") true ∷ one_bit (codes "d") true ∷ one_bit (codes "a") false ∷ one_bit (codes "b") false ∷ [];
      memories = [];
      processes =
          clocked 0 ((Pos, 0) ∷ []) (set (at 25) 1 true (all_of 2) (signal plain 1))
          ∷ clocked 0 ((Pos, 0) ∷ []) (branch (at 35) 2 (signal (counted 1) 2) (set (at 42) 3 false (all_of 3) (bit_number One))
          (a_stmt (set (at 55) 4 false (all_of 3) (bit_number Zero)) no_stmts)) ∷ [];
      constants = [];
      aliases = [];
    }

-- the values in which clk, d, a and b are these
abbrev pub race_values : Bit → Bit → Bit → Bit → Values Bit
race_values clk d a b c = slice_index_or (clk ∷ d ∷ a ∷ b ∷ []) c.thing X

-- #0 clk 0, d 1, a 0, b 0; #5 clk 1, a 1, b 1; #10 clk 0
abbrev pub race_dump : BoundDump
race_dump =
    record {
      stretches = (0 ∷ 5 ∷ 10 ∷ []) ∷ [];
      bound = λ s. nat_lt s 4;
      round = λ t. 0;
      values = λ t. if nat_le 10 t then race_values Zero One One One else (if nat_le 5 t then race_values One One One One else race_values Zero One Zero Zero);
    }

-- the line points of a = d, of the if, and of b <= 1
abbrev pub line_write : Point
line_write = line_point 0 1 (at 25) Assign

abbrev pub line_if : Point
line_if = line_point 1 2 (at 35) If

abbrev pub line_one : Point
line_one = line_point 1 3 (at 42) Assign

-- For the reader a is early, whatever the habit, so its if is surely open and reached and a is in doubt for a branch;
-- for the writer nothing is early, and its line is surely open and reached. The line of the write is not open for the reader, nor that of the if for the writer.
pub record IsRaceExample : Type 0 where
  pub writer_clean : IsCleanAt race race_dump 5 0 (cell 0 0)
  pub reader_clean : IsCleanAt race race_dump 5 1 (cell 0 0)
  pub early : (h : Habit) → IsEarlyAt race h race_dump 5 1 (cell 0 0) 2
  pub none_early : (h : Habit) (x : ℕ) → IsEarlyAt race h race_dump 5 0 (cell 0 0) x → ⊥
  pub write_not_open : IsOpen race (KnownOnEntry race Free race_dump 5 1) (body_at race 1) line_write → ⊥
  pub if_not_open : IsOpen race (KnownOnEntry race Free race_dump 5 0) (body_at race 0) line_if → ⊥
  pub write_surely_open : IsSurelyOpen race (KnownOnEntry race Free race_dump 5 0) (body_at race 0) line_write
  pub write_reached : IsReached race Free race_dump 5 0 line_write
  pub if_surely_open : IsSurelyOpen race (KnownOnEntry race Free race_dump 5 1) (body_at race 1) line_if
  pub if_reached : IsReached race Free race_dump 5 1 line_if
  pub doubt : IsInDoubt race Free race_dump line_one 5 2
