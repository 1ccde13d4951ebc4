-- A bit of a word of a memory, worked out: clk is signal 0, i is 1, j is 2, q is 3, and m is memory 4 with the words 0 to 3 of two bits.
--   always @(posedge clk) q <= m[i][j];
use Rattle.std.specs.Prelude.{◌≡◌, ◌∷◌, true, false, List, [], slice_index_or, codes}
use Rattle.event_machine.specs.Cell.{Values}
use Rattle.four_state.specs.declared.bit.Bit.{Bit}
use Rattle.four_state.specs.declared.bit.Bit.TheVariants.{One, X, Zero}
use Rattle.four_state.specs.declared.edge.Edge.TheVariants.{Pos}
use Rattle.design_model.specs.Tree.{all_of, bit, clocked, set, signal, word}
use Rattle.design_model.specs.Design.{Design, a_signal, a_word, body_at}
use Rattle.design_model.specs.Execution.{at_line, execution, reads}
use Rattle.design_model.specs.ExampleParts.{at, one_bit, one_instance, plain, two_bits, wide}

-- the design
abbrev pub word_bit : Design
word_bit =
    record {
      top = codes "word_bit";
      instances = one_instance (codes "word_bit");
      signals = one_bit (codes "clk") true ∷ two_bits (codes "i") ∷ one_bit (codes "j") true ∷ one_bit (codes "q") false ∷ [];
      memories = record { instance = 0; name = codes "m"; first = 0; last = 3; high = 1; low = 0; ranged = true; width = 2; signed = false } ∷ [];
      processes = clocked 0 ((Pos, 0) ∷ []) (set (at 25) 1 false (all_of 3) (bit plain (word wide 4 (signal wide 1)) (signal plain 2))) ∷ [];
      constants = [];
      aliases = [];
    }

-- clk, i, the lowest bit first, j and q have these values, and the memory these bits
abbrev pub word_bit_values : Bit → List Bit → Bit → Bit → List Bit → Values Bit
word_bit_values clk i j q words c = slice_index_or (slice_index_or ((clk ∷ []) ∷ i ∷ (j ∷ []) ∷ (q ∷ []) ∷ words ∷ []) c.thing []) c.place X

-- The index of the bit is read, then that of the word, then the word; an index with an x reads no word.
pub record IsWordBitExample : Type 0 where
  pub order : (clk q : Bit) (words : List Bit)
      → (execution word_bit (body_at word_bit 0) (word_bit_values clk (Zero ∷ One ∷ []) One q words)).visits ≡ at_line 1 ∷ reads (a_signal 2) false ∷ reads (a_signal 1) false ∷ reads (a_word 4 2) false ∷ []
  pub no_word : (clk q : Bit) (words : List Bit)
      → (execution word_bit (body_at word_bit 0) (word_bit_values clk (X ∷ One ∷ []) One q words)).visits ≡ at_line 1 ∷ reads (a_signal 2) false ∷ reads (a_signal 1) false ∷ []
