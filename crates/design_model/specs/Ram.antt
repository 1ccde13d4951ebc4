-- A memory, worked out: clk is signal 0, we 1, wa 2, ra 3, d 4, q 5, and m is memory 6 with the words 0 to 3.
--   always @(posedge clk) if (we) m[wa] <= d; else if (m[ra]) q <= 1; else q <= 0;
use Rattle.std.specs.Prelude.{◌≡◌, ◌<◌, ◌∷◌, if◌then◌else◌, ℕ, suc, true, false, List, [], nat_le, nat_lt, slice_index_or, codes}
use Rattle.event_machine.specs.Cell.{Values}
use Rattle.event_machine.specs.Habit.{Free}
use Rattle.four_state.specs.declared.bit.Bit.{Bit}
use Rattle.four_state.specs.declared.bit.Bit.TheVariants.{One, X, Zero}
use Rattle.four_state.specs.declared.edge.Edge.TheVariants.{Pos}
use Rattle.design_model.specs.Tree.{a_stmt, all_of, branch, clocked, no_stmts, set, signal, word, word_of}
use Rattle.design_model.specs.Design.{Design, a_word}
use Rattle.design_model.specs.Numbered.{Assign}
use Rattle.design_model.specs.Shows.{BoundDump}
use Rattle.design_model.specs.Points.{line_point, word_point}
use Rattle.design_model.specs.Clear.{clear}
use Rattle.design_model.specs.Open.{IsReached}
use Rattle.design_model.specs.ExampleParts.{at, bit_number, counted, one_bit, one_instance, plain, two_bits, wide}

-- the design
abbrev pub ram : Design
ram =
    record {
      top = codes "ram";
      instances = one_instance (codes "ram");
      signals = one_bit (codes "clk") true ∷ one_bit (codes "we") true ∷ two_bits (codes "wa") ∷ two_bits (codes "ra") ∷ one_bit (codes "d") true ∷ one_bit (codes "q") false ∷ [];
      memories = record { instance = 0; name = codes "m"; first = 0; last = 3; high = 0; low = 0; ranged = false; width = 1; signed = false } ∷ [];
      processes = clocked 0 ((Pos, 0) ∷ []) (branch (at 5) 1 (signal (counted 1) 1) (set (at 13) 2 false (word_of 6 (signal wide 2)) (signal plain 4)) (a_stmt (branch (at 20) 3 (word (counted 2) 6 (signal wide 3)) (set (at 30) 4 false (all_of 5) (bit_number One)) (a_stmt (set (at 45) 5 false (all_of 5) (bit_number Zero)) no_stmts)) no_stmts)) ∷ [];
      constants = [];
      aliases = [];
    }

-- clk, we and q have these values, wa and ra are 11, d is 1, and the memory has these words
abbrev pub ram_values : Bit → Bit → Bit → List Bit → Values Bit
ram_values clk we q words c = slice_index_or (slice_index_or ((clk ∷ []) ∷ (we ∷ []) ∷ (One ∷ One ∷ []) ∷ (One ∷ One ∷ []) ∷ (One ∷ []) ∷ (q ∷ []) ∷ words ∷ []) c.thing []) c.place X

-- #0 clk 0, we 1, wa 11, ra 11, d 1, q 0; #5 clk 1; #10 clk 0, we 0; #15 clk 1, q 1; #20 clk 0
abbrev pub ram_dump : BoundDump
ram_dump =
    record {
      stretches = (0 ∷ 5 ∷ 10 ∷ 15 ∷ 20 ∷ []) ∷ [];
      bound = λ s. nat_lt s 6;
      values = λ t. if nat_le 20 t then ram_values Zero Zero One [] else (if nat_le 15 t then ram_values One Zero One [] else (if nat_le 10 t then ram_values Zero Zero Zero [] else (if nat_le 5 t then ram_values One One Zero [] else ram_values Zero One Zero [])));
      round = λ t. 0;
    }

-- Word 3 is clear from 5 on, with the value 1, and no other word is; at 15 its read and line 4 are reached.
pub record IsRamExample : Type 0 where
  pub written : clear ram Free ram_dump 5 (a_word 6 3) (One ∷ [])
  pub kept : clear ram Free ram_dump 14 (a_word 6 3) (One ∷ [])
  pub no_other : (k m i : ℕ) (bits : List Bit) → k < 10 → clear ram Free ram_dump (suc (suc (suc (suc (suc k))))) (a_word m i) bits → (a_word m i ≡ a_word 6 3) × (bits ≡ One ∷ [])
  pub reached_read : IsReached ram Free ram_dump 15 0 (word_point 6 3 false)
  pub reached_line : IsReached ram Free ram_dump 15 0 (line_point 0 4 (at 30) Assign)
