-- Memories of which the words are partly known: what an index reads, and what a write leaves of each word.
use Rattle.std.specs.Prelude.{◌≡◌, ℕ, ◌+◌, ◌-◌, ◌≤◌, min, max, Bool, if◌then◌else◌, List, [], ◌∷◌, length, replicate, slice_index_or, Option, Some, None}
use Rattle.body_replay.specs.event_machine.Cell.{Cell}
use Rattle.four_state.specs.declared.bit.Bit.{Bit}
use Rattle.four_state.specs.declared.bit.Bit.TheVariants.{X}
use Rattle.four_state.specs.Vector.{fill}
use Rattle.four_state.specs.Parts.{index}
use Rattle.known_state.specs.Partly.{Partly, is_whole, with_blame}
use Rattle.known_state.specs.Join.{joined}
use Rattle.body_replay.specs.design_model.Design.{Design, memory_at, no_memory}
use Rattle.body_replay.specs.design_model.declared.design.Memory.{Memory}
use Rattle.body_replay.specs.design_model.Value.{named_word}
use Rattle.body_replay.specs.KnownBits.{KnownBits, AllAllow, whole_bits, sure, unknown, on_whole}
use Rattle.body_replay.specs.Store.{Kept, KnownWrite, is_word, kept_word, may_name, weaken, words, write_word}
use Rattle.memory_rebuild.specs.declared.shape.Shape.{Shape}

-- a memory with the bits of each of its words, the one with the least index first
pub record KnownWords : Type 0 where
  pub shape : Shape
  pub words : List KnownBits

-- a memory with these bounds, as a design has it
abbrev pub memory_of : Shape → Memory
memory_of s = record no_memory { first = s.first; last = s.last; width = s.width; signed = s.signed }

-- the least index of a word
abbrev pub least : Shape → ℕ
least s = min s.first s.last

-- the number of words
abbrev pub count : Shape → ℕ
count s = max s.first s.last - min s.first s.last + 1

-- a word has this index
abbrev pub IsIndex : Shape → ℕ → Type 0
IsIndex s i = (min s.first s.last ≤ i) × (i ≤ max s.first s.last)

-- the bits of the word with this index
abbrev pub word_at : KnownWords → ℕ → KnownBits
word_at r i = slice_index_or r.words (i - least r.shape) (unknown r.shape.width)

-- each word has the width of the memory's words
abbrev pub HaveWidth : KnownWords → Type 0
HaveWidth r = (i : ℕ) → length (word_at r i) ≡ r.shape.width

-- no bit of any word is sure
abbrev pub unwritten : Shape → KnownWords
unwritten s = record { shape = s; words = replicate (count s) (unknown s.width) }

-- the word that an index names, if all its bits are sure
abbrev pub named_by : Shape → Bool → List Bit → Option ℕ
named_by s signed bs = named_word (memory_of s) (index signed bs)

-- some value that the index may have names word i
abbrev pub may_be : Shape → Partly → ℕ → Bool
may_be s k i = may_name (memory_of s) k.signed k.bits i

-- the bits of the named word; an index that names none reads x (IEEE 1364-2001, 4.2.2)
abbrev pub option_word : KnownWords → Option ℕ → KnownBits
option_word r None = sure (fill r.shape.width X)
option_word r (Some i) = word_at r i

-- the join of x and of those of the words that pass the test
abbrev pub join_of : KnownWords → (ℕ → Bool) → List ℕ → KnownBits
join_of r may [] = sure (fill r.shape.width X)
join_of r may (i ∷ is) = if may i then joined (word_at r i) (join_of r may is) else join_of r may is

-- the bits that an index reads: of the word that it names, or the join of x and all words that it may name
abbrev pub bits_read : KnownWords → Partly → KnownBits
bits_read r k = on_whole (whole_bits k.bits) (λ bs. option_word r (named_by r.shape k.signed bs)) (join_of r (may_be r.shape k) (words (memory_of r.shape)))

-- the thing to blame for a read that is not wholly sure: that of the index where the index is not, or else that of the memory
abbrev pub blame_read : KnownWords → Partly → ℕ
blame_read r k = if is_whole k then r.shape.blame else k.blame

-- what an index reads
abbrev pub read_of : KnownWords → Partly → Partly
read_of r k = with_blame (bits_read r k) r.shape.signed (blame_read r k)

-- what is left of the bits of a word that is surely written: those of the value, or what both have in common
abbrev pub bits_left : Bool → KnownBits → KnownBits → KnownBits
bits_left certain value old = if certain then value else joined old value

-- the bits of word i after a write: a word that the index only may name is joined with the value
abbrev pub word_after : KnownWords → Partly → KnownBits → Bool → ℕ → KnownBits
word_after r k value certain i =
    let old = word_at r i in
    on_whole (whole_bits k.bits) (λ bs. if is_word (named_by r.shape k.signed bs) i then bits_left certain value old else old) (if may_be r.shape k i then joined old value else old)

-- the true words are among those that the sure bits allow
abbrev pub AllowsWords : KnownWords → (ℕ → List Bit) → Type 0
AllowsWords r v = (i : ℕ) → IsIndex r.shape i → AllAllow (word_at r i) (v i)

-- the true word that is read; x if none is named
abbrev pub true_word : Shape → (ℕ → List Bit) → Option ℕ → List Bit
true_word s v None = fill s.width X
true_word s v (Some i) = v i

-- the true words after the named one is written
abbrev pub true_words : (ℕ → List Bit) → Option ℕ → List Bit → ℕ → List Bit
true_words v o bs i = if is_word o i then bs else v i

-- the words are those of memory m of a design as its cells are kept
pub record StandsFor (d : Design) (k : Kept) (m : ℕ) (r : KnownWords) : Type 0 where
  pub first : r.shape.first ≡ (memory_at d m).first
  pub last : r.shape.last ≡ (memory_at d m).last
  pub width : r.shape.width ≡ (memory_at d m).width
  pub words : (i : ℕ) → IsIndex r.shape i → word_at r i ≡ kept_word d k m i

-- nothing is known of the cells of memory m
abbrev pub IsForgotten : Kept → ℕ → Type 0
IsForgotten k m = (c : Cell) → c.thing ≡ m → k c ≡ None

-- the writes to the cells of memory m that put a value into the word of an index
abbrev pub cell_writes : Design → ℕ → Partly → KnownBits → Bool → List KnownWrite
cell_writes d m k value certain = if certain then write_word d m k.signed k.bits value else weaken (write_word d m k.signed k.bits value)
