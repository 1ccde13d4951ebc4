-- The memory of which another word than the one written is read, and of which none is written, as the index is not known:
-- clk is signal 0, we 1, wa 2, ra 3, d 4, q 5, and m is memory 6 with the words 0 to 3.
--   always @(posedge clk) if (we) m[wa] <= d; else if (m[ra]) q <= 1; else q <= 0;
use Rattle.std.specs.Prelude.{◌∷◌, if◌then◌else◌, ℕ, List, [], nat_le, nat_lt, slice_index_or, true, false}
use Rattle.event_machine.specs.Cell.{Values}
use Rattle.event_machine.specs.Habit.{Free, Habit}
use Rattle.four_state.specs.declared.bit.Bit.{Bit}
use Rattle.four_state.specs.declared.bit.Bit.TheVariants.{One, X, Zero}
use Rattle.design_model.specs.Design.{a_word, body_at, cell}
use Rattle.point_words.specs.declared.line_word.LineWord.TheVariants.{Assign, If}
use Rattle.design_model.specs.declared.point.Point.{Point}
use Rattle.design_model.specs.declared.point.Point.TheVariants.{Line as line_point, Word as word_point}
use Rattle.design_model.specs.Reads.{HasValue}
use Rattle.design_model.specs.Shows.{BoundDump}
use Rattle.design_model.specs.MayMove.{IsCleanAt}
use Rattle.design_model.specs.Early.{IsEarlyAt}
use Rattle.design_model.specs.Clear.{clear}
use Rattle.design_model.specs.Open.{IsOpen, IsReached, IsSurelyOpen, KnownOnEntry}
use Rattle.design_model.specs.Doubt.{IsInDoubt}
use Rattle.design_model.specs.ExampleParts.{at}
use Rattle.design_model.specs.Ram.{ram}

-- clk, we, wa and ra, the lowest bit first, q and the words have these values, and d is 1
abbrev pub words_values : Bit → Bit → List Bit → List Bit → Bit → List Bit → Values Bit
words_values clk we wa ra q words c = slice_index_or (slice_index_or ((clk ∷ []) ∷ (we ∷ []) ∷ wa ∷ ra ∷ (One ∷ []) ∷ (q ∷ []) ∷ words ∷ []) c.thing []) c.place X

-- #0 clk 0, we 1, wa and ra these, d 1, q 0; #5 clk 1; #10 clk 0, we 0; #15 clk 1; #20 clk 0
abbrev pub words_dump : List Bit → List Bit → BoundDump
words_dump wa ra =
    record {
      stretches = (0 ∷ 5 ∷ 10 ∷ 15 ∷ 20 ∷ []) ∷ [];
      bound = λ s. nat_lt s 6;
      round = λ t. 0;
      values = λ t.
          if nat_le 20 t then words_values Zero Zero wa ra Zero [] else
          (if nat_le 15 t then words_values One Zero wa ra Zero [] else
          (if nat_le 10 t then words_values Zero Zero wa ra Zero [] else (if nat_le 5 t then words_values One One wa ra Zero [] else words_values Zero One wa ra Zero [])));
    }

-- word 3 is written, and word 2 is read
abbrev pub other_dump : BoundDump
other_dump = words_dump (One ∷ One ∷ []) (Zero ∷ One ∷ [])

-- the word to be written is not known, and word 3 is read
abbrev pub unknown_dump : BoundDump
unknown_dump = words_dump (X ∷ One ∷ []) (One ∷ One ∷ [])

-- the line points of m[wa] <= d, of if (m[ra]), and of q <= 1
abbrev pub line_write : Point
line_write = line_point 0 2 (at 13) Assign

abbrev pub line_test : Point
line_test = line_point 0 3 (at 20) If

abbrev pub line_one : Point
line_one = line_point 0 4 (at 30) Assign

-- Word 2 is never written, so it is not clear when it is read at 15, and m is in doubt for what depends on it. The read of word 2 is
-- reached, that of word 3 is not open, nor is the write; the line of the read is surely open.
pub record IsOtherWordExample : Type 0 where
  pub clean : IsCleanAt ram other_dump 15 0 (cell 0 0)
  pub none_early : (h : Habit) (x : ℕ) → IsEarlyAt ram h other_dump 15 0 (cell 0 0) x → ⊥
  pub not_clear : HasValue (clear ram Free other_dump 14) (a_word 6 2) → ⊥
  pub read_reached : IsReached ram Free other_dump 15 0 (word_point 6 2 false)
  pub doubt : IsInDoubt ram Free other_dump line_one 15 6
  pub read_not_open : IsOpen ram (KnownOnEntry ram Free other_dump 15 0) (body_at ram 0) (word_point 6 3 false) → ⊥
  pub not_open : IsOpen ram (KnownOnEntry ram Free other_dump 15 0) (body_at ram 0) line_write → ⊥
  pub surely_open : IsSurelyOpen ram (KnownOnEntry ram Free other_dump 15 0) (body_at ram 0) line_test

-- A write by an index with an x writes no word: no word's write is open at 5, though its line is reached. So no word is ever clear, and m is in doubt at 15.
pub record IsUnknownWordExample : Type 0 where
  pub line_reached : IsReached ram Free unknown_dump 5 0 line_write
  pub none_written : (i : ℕ) → IsOpen ram (KnownOnEntry ram Free unknown_dump 5 0) (body_at ram 0) (word_point 6 i true) → ⊥
  pub not_clear : (i : ℕ) → HasValue (clear ram Free unknown_dump 14) (a_word 6 i) → ⊥
  pub doubt : IsInDoubt ram Free unknown_dump line_one 15 6
  pub surely_open : IsSurelyOpen ram (KnownOnEntry ram Free unknown_dump 15 0) (body_at ram 0) line_test
