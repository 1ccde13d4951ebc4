-- The value of a term in a state (IEEE 1364-2001, clause 4).
use Rattle.std.specs.Prelude.{◌+◌, ◌-◌, ◌&&◌, ◌++◌, ◌+ℤ◌, ◌-ℤ◌, if◌then◌else◌, ℕ, zero, suc, Bool, List, [], ℤ, pos, negsuc, Option, Some, None, min, max, nat_le}
use Rattle.event_machine.specs.Cell.{Values}
use Rattle.four_state.specs.Arithmetic.{natural}
use Rattle.four_state.specs.Operators.{binary_value, choice_value, unary_value}
use Rattle.four_state.specs.Parts.{bits_from, index}
use Rattle.four_state.specs.Vector.{extend, fill, truth}
use Rattle.four_state.specs.declared.bit.Bit.{Bit}
use Rattle.four_state.specs.declared.bit.Bit.TheVariants.{X}
use Rattle.design_model.specs.Tree.{Head, Term, Terms, a_term, binary, bit, choice, concat, no_terms, number, part, repeat, sign, signal, slide, unary, word}
use Rattle.design_model.specs.Design.{Design, Memory, memory_at, signal_at, signal_bits, word_bits}
pub use Rattle.design_model.specs.declared.design.Range.{Range}

-- what every term has
abbrev pub head : Term → Head
head (number h n) = h
head (signal h s) = h
head (word h m i) = h
head (bit h t i) = h
head (part h t i j) = h
head (slide h t b w up) = h
head (unary h op t) = h
head (binary h op t u) = h
head (choice h c t u) = h
head (concat h ts) = h
head (repeat h n ts) = h
head (sign h s t) = h

-- the range of what a select is taken of
abbrev pub range_of : Design → Term → Range
range_of d (signal h s) = record { high = (signal_at d s).high; low = (signal_at d s).low }
range_of d (word h m i) = record { high = (memory_at d m).high; low = (memory_at d m).low }
range_of d t = record { high = (head t).width - 1; low = 0 }

-- how far the bit with this index is above the lowest bit of the range
abbrev pub offset : Range → ℤ → ℤ
offset r i = if nat_le r.low r.high then i -ℤ pos r.low else pos r.low -ℤ i

-- the same, all x without an offset
abbrev pub bits_from_option : List Bit → Option ℤ → ℕ → List Bit
bits_from_option bs None w = fill w X
bits_from_option bs (Some from) w = bits_from bs from w

-- the offset of an index, if it is known
abbrev pub offset_option : Range → Option ℤ → Option ℤ
offset_option r None = None
offset_option r (Some i) = Some (offset r i)

-- the least of the w indexes that +: counts up from the base, or -: down
abbrev pub least_index : Bool → ℤ → ℕ → ℤ
least_index up b w = if up then b else b -ℤ pos (w - 1)

-- the offset of the lowest of w bits from the base, up or down
abbrev pub slide_offset : Range → Bool → ℕ → Option ℤ → Option ℤ
slide_offset r up w None = None
slide_offset r up w (Some b) =
    let least = least_index up b w in
    Some (offset r (if nat_le r.low r.high then least else least +ℤ pos (w - 1)))

-- the word of the memory that an index names
abbrev pub named_word : Memory → Option ℤ → Option ℕ
named_word m None = None
named_word m (Some (negsuc k)) = None
named_word m (Some (pos k)) = if nat_le (min m.first m.last) k && nat_le k (max m.first m.last) then Some k else None

-- the bits of a word, all x if there is no word
abbrev pub option_word : Design → Values Bit → ℕ → Option ℕ → List Bit
option_word d v m None = fill (memory_at d m).width X
option_word d v m (Some i) = word_bits d v m i

-- this number of copies, one after the other
abbrev pub copies : ℕ → List Bit → List Bit
copies zero bs = []
copies (suc n) bs = bs ++ copies n bs

-- the width of a part by its two ends
abbrev pub part_width : List Bit → List Bit → ℕ
part_width a b = max (natural a) (natural b) - min (natural a) (natural b) + 1

-- the value of a term: that of its form, extended to the term's width by the term's sign
abbrev mutual
  pub value : Design → Values Bit → Term → List Bit
  value d v (number h n) = extend h.width h.signed n.bits
  value d v (signal h s) = extend h.width h.signed (signal_bits d v s)
  value d v (word h m i) = extend h.width h.signed (option_word d v m (named_word (memory_at d m) (index (head i).signed (value d v i))))
  value d v (bit h t i) = extend h.width h.signed (bits_from_option (value d v t) (offset_option (range_of d t) (index (head i).signed (value d v i))) 1)
  value d v (part h t i j) =
      extend h.width h.signed (bits_from_option (value d v t) (offset_option (range_of d t) (index (head j).signed (value d v j))) (part_width (value d v i) (value d v j)))
  value d v (slide h t b w up) =
      extend h.width h.signed (bits_from_option (value d v t) (slide_offset (range_of d t) up (natural (value d v w)) (index (head b).signed (value d v b))) (natural (value d v w)))
  value d v (unary h op t) = extend h.width h.signed (unary_value op (value d v t))
  value d v (binary h op t u) = extend h.width h.signed (binary_value op (head t).signed (value d v t) (value d v u))
  value d v (choice h c t u) = extend h.width h.signed (choice_value (truth (value d v c)) (value d v t) (value d v u))
  value d v (concat h ts) = extend h.width h.signed (joined d v ts)
  value d v (repeat h n ts) = extend h.width h.signed (copies (natural (value d v n)) (joined d v ts))
  value d v (sign h s t) = extend h.width h.signed (value d v t)

  -- the values of terms side by side, the first one highest
  pub joined : Design → Values Bit → Terms → List Bit
  joined d v no_terms = []
  joined d v (a_term t ts) = joined d v ts ++ value d v t

-- the word that an index names in this state
abbrev pub word_named : Design → Values Bit → ℕ → Term → Option ℕ
word_named d v m i = named_word (memory_at d m) (index (head i).signed (value d v i))
