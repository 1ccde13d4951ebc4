-- Selects on rising ranges and partly outside ones (IEEE 1364-2001, 4.2.1): f is signal 0 with the range [3:0], r is 1 with the range [0:3], and m is memory 2 with the words 1 down to 0 of the range [0:3].
use Rattle.std.specs.Prelude.{◌≡◌, ◌∷◌, ℕ, Bool, true, false, List, [], None, slice_index_or, codes}
use Rattle.event_machine.specs.Cell.{Values, Write}
use Rattle.four_state.specs.declared.bit.Bit.{Bit}
use Rattle.four_state.specs.declared.bit.Bit.TheVariants.{One, X, Zero}
use Rattle.design_model.specs.declared.design.Signal.{Signal}
use Rattle.design_model.specs.Tree.{Head, Term, bit, bits_of, number, part, signal, slide, word, word_of as target_word}
use Rattle.design_model.specs.Design.{Design, cell}
use Rattle.design_model.specs.Value.{value}
use Rattle.design_model.specs.Assignment.{target_writes}
use Rattle.design_model.specs.ExampleParts.{at, one_instance, plain, wide}

-- a signal of four bits with this range
abbrev pub four_bits : List ℕ → ℕ → ℕ → Signal
four_bits name high low = record { instance = 0; name = name; high = high; low = low; ranged = true; width = 4; signed = false; input = true }

-- the design
abbrev pub ranges : Design
ranges =
    record {
      top = codes "ranges";
      instances = one_instance (codes "ranges");
      signals = four_bits (codes "f") 3 0 ∷ four_bits (codes "r") 0 3 ∷ [];
      memories = record { instance = 0; name = codes "m"; first = 1; last = 0; high = 0; low = 3; ranged = true; width = 4; signed = false } ∷ [];
      processes = [];
      constants = [];
      aliases = [];
    }

-- a term of four bits
abbrev pub four : Head
four = record { place = at 0; width = 4; signed = false; node = None }

-- a number of four bits, the lowest first
abbrev pub nibble : Bit → Bit → Bit → Bit → Term
nibble a b c d = number four (record { bits = a ∷ b ∷ c ∷ d ∷ []; signed = false })

-- the numbers from 0 to 4
abbrev pub n0 : Term
n0 = nibble Zero Zero Zero Zero

abbrev pub n1 : Term
n1 = nibble One Zero Zero Zero

abbrev pub n2 : Term
n2 = nibble Zero One Zero Zero

abbrev pub n3 : Term
n3 = nibble One One Zero Zero

abbrev pub n4 : Term
n4 = nibble Zero Zero One Zero

-- the values in which f, r and word 1 of m have these bits, the lowest first
abbrev pub ranges_values : List Bit → Values Bit
ranges_values bits c = slice_index_or (slice_index_or (bits ∷ bits ∷ (X ∷ X ∷ X ∷ X ∷ bits) ∷ []) c.thing []) c.place X

-- x[i], x[i:j], and x[i +: 2] or with false x[i -: 2]
abbrev pub bit_of : ℕ → Term → Term
bit_of x i = bit plain (signal four x) i

abbrev pub part_of : ℕ → Term → Term → Term
part_of x i j = part wide (signal four x) i j

abbrev pub two_of : ℕ → Term → Bool → Term
two_of x i up = slide wide (signal four x) i n2 up

-- m[i]
abbrev pub word_of : Term → Term
word_of i = word four 2 i

-- the value of a term where f, r and word 1 of m have the bits p, q, s and t, the lowest first
abbrev pub read : Bit → Bit → Bit → Bit → Term → List Bit
read p q s t x = value ranges (ranges_values (p ∷ q ∷ s ∷ t ∷ [])) x

-- a write to a place of signal x
abbrev pub write : ℕ → ℕ → Bit → Write Bit
write x k b = record { cell = cell x k; value = b }

-- the writes of two bits to the bits of x from index i up
abbrev pub writes_two : ℕ → Term → Bit → Bit → List (Write Bit)
writes_two x i a b = target_writes ranges (ranges_values []) (bits_of x i 2) (a ∷ b ∷ [])

-- In a falling range the bit with the least index is the lowest, in a rising range it is the highest; a select takes the bits in their order in the vector.
-- What falls outside reads x, and is not written; a select of a word of a memory goes by the range of its words.
pub record IsRangesExample : Type 0 where
  pub first_bit : (p q s t : Bit) → read p q s t (bit_of 0 n0) ≡ p ∷ []
  pub first_bit_rising : (p q s t : Bit) → read p q s t (bit_of 1 n0) ≡ t ∷ []
  pub last_bit_rising : (p q s t : Bit) → read p q s t (bit_of 1 n3) ≡ p ∷ []
  pub outside_bit : (p q s t : Bit) → read p q s t (bit_of 0 n4) ≡ X ∷ []
  pub outside_bit_rising : (p q s t : Bit) → read p q s t (bit_of 1 n4) ≡ X ∷ []
  pub middle : (p q s t : Bit) → read p q s t (part_of 0 n2 n1) ≡ q ∷ s ∷ []
  pub middle_rising : (p q s t : Bit) → read p q s t (part_of 1 n1 n2) ≡ q ∷ s ∷ []
  pub up : (p q s t : Bit) → read p q s t (two_of 0 n2 true) ≡ s ∷ t ∷ []
  pub up_rising : (p q s t : Bit) → read p q s t (two_of 1 n2 true) ≡ p ∷ q ∷ []
  pub down : (p q s t : Bit) → read p q s t (two_of 0 n1 false) ≡ p ∷ q ∷ []
  pub down_rising : (p q s t : Bit) → read p q s t (two_of 1 n1 false) ≡ s ∷ t ∷ []
  pub partly_above : (p q s t : Bit) → read p q s t (two_of 0 n3 true) ≡ t ∷ X ∷ []
  pub partly_above_rising : (p q s t : Bit) → read p q s t (two_of 1 n3 true) ≡ X ∷ p ∷ []
  pub partly_below : (p q s t : Bit) → read p q s t (two_of 0 n0 false) ≡ X ∷ p ∷ []
  pub partly_below_rising : (p q s t : Bit) → read p q s t (two_of 1 n0 false) ≡ t ∷ X ∷ []
  pub whole_word : (p q s t : Bit) → read p q s t (word_of n1) ≡ p ∷ q ∷ s ∷ t ∷ []
  pub bit_of_word_rising : (p q s t : Bit) → read p q s t (bit plain (word_of n1) n0) ≡ t ∷ []
  pub outside_word : (p q s t : Bit) → read p q s t (word_of n2) ≡ X ∷ X ∷ X ∷ X ∷ []
  pub written : (a b : Bit) → writes_two 0 n1 a b ≡ write 0 1 a ∷ write 0 2 b ∷ []
  pub written_rising : (a b : Bit) → writes_two 1 n2 a b ≡ write 1 1 a ∷ write 1 2 b ∷ []
  pub written_partly : (a b : Bit) → writes_two 0 n3 a b ≡ write 0 3 a ∷ []
  pub written_partly_rising : (a b : Bit) → writes_two 1 n4 a b ≡ write 1 0 b ∷ []
  pub written_word : (a b e f : Bit) → target_writes ranges (ranges_values []) (target_word 2 n1) (a ∷ b ∷ e ∷ f ∷ []) ≡ write 2 4 a ∷ write 2 5 b ∷ write 2 6 e ∷ write 2 7 f ∷ []
  pub outside_not_written : (a b e f : Bit) → target_writes ranges (ranges_values []) (target_word 2 n2) (a ∷ b ∷ e ∷ f ∷ []) ≡ []
