-- What is known of each cell, the words of partly known memories, and what terms and targets give on it.
use Rattle.std.specs.Prelude.{ℕ, ◌+◌, ◌-◌, ◌==◌, min, max, Bool, true, false, ◌&&◌, if◌then◌else◌, List, [], ◌∷◌, ◌++◌, map, length, take, drop, ℤ, pos, ◌+ℤ◌, Option, Some, None}
use Rattle.std.specs.List.{range_with_len}
use Rattle.design_model.specs.event_machine.Cell.{Cell, Values, same_cell}
use Rattle.design_model.specs.four_state.declared.bit.Bit.{Bit}
use Rattle.design_model.specs.four_state.declared.bit.Bit.TheVariants.{X}
use Rattle.design_model.specs.four_state.declared.truth.Truth.{Truth}
use Rattle.design_model.specs.four_state.Vector.{fill}
use Rattle.design_model.specs.four_state.declared.operator.Binary.{Binary}
use Rattle.design_model.specs.four_state.Arithmetic.{natural, low_bits}
use Rattle.design_model.specs.four_state.Parts.{index, within}
use Rattle.known_state.specs.Partly.{allows_bits}
use Rattle.known_state.specs.Join.{join_bit, joined}
use Rattle.design_model.specs.Tree.{Head, Term, number, signal, word, bit, part, slide, unary, binary, choice, concat, repeat, sign, Terms, no_terms, a_term, Target, all_of, bits_of, word_of, several, Targets, no_targets, a_target}
use Rattle.design_model.specs.declared.design.Memory.{Memory}
use Rattle.design_model.specs.Design.{Design, signal_at, memory_at, signal_cells, word_cells}
use Rattle.design_model.specs.Value.{head, range_of, offset_option, slide_offset, named_word, part_width}
use Rattle.design_model.specs.Assignment.{option_cell, signal_range, target_width, targets_width}
use Rattle.body_replay.specs.KnownBits.{KnownBits, Allows, whole_bits, sure, unknown, on_whole, known_truth, extend_partly, unary_partly, binary_partly, fits, choose_partly, select_option, copies_partly}

-- what is known of each cell
abbrev pub Kept : Type 0
Kept = Cell → Option Bit

-- the state is one of those that are allowed
abbrev pub AllowsState : Kept → Values Bit → Type 0
AllowsState b v = (c : Cell) → Allows (b c) (v c)

-- the indexes of the words of a memory
abbrev pub words : Memory → List ℕ
words m = range_with_len (min m.first m.last) (max m.first m.last - min m.first m.last + 1)

-- the index names word i
abbrev pub is_word : Option ℕ → ℕ → Bool
is_word None i = false
is_word (Some k) i = k == i

-- some allowed value of the index names word i: only the number i itself, written with as many bits, can
abbrev pub may_name : Memory → Bool → KnownBits → ℕ → Bool
may_name m signed ps i =
    let bs = low_bits (length ps) i in
    allows_bits ps bs && is_word (named_word m (index signed bs)) i

-- the bits of a word of a memory, as they are known
abbrev pub kept_word : Design → Kept → ℕ → ℕ → KnownBits
kept_word d b m i = map b (word_cells d m i)

-- the bits of the named word; an index that names none reads x (IEEE 1364-2001, 4.2.2)
abbrev pub option_kept : Design → Kept → ℕ → Option ℕ → KnownBits
option_kept d b m None = sure (fill (memory_at d m).width X)
option_kept d b m (Some i) = kept_word d b m i

-- the join of x and of those of the words that pass the test
abbrev pub join_words : Design → Kept → ℕ → (ℕ → Bool) → List ℕ → KnownBits
join_words d b m may [] = sure (fill (memory_at d m).width X)
join_words d b m may (i ∷ is) = if may i then joined (kept_word d b m i) (join_words d b m may is) else join_words d b m may is

-- a read of a memory
abbrev pub read_word : Design → Kept → ℕ → Bool → KnownBits → KnownBits
read_word d b m signed ps =
    on_whole (whole_bits ps) (λ is. option_kept d b m (named_word (memory_at d m) (index signed is))) (join_words d b m (may_name (memory_at d m) signed ps) (words (memory_at d m)))

-- where the condition is undecided, sides of different widths, which lawful designs have not, are not known
abbrev pub choice_of : Head → Option Truth → KnownBits → KnownBits → KnownBits
choice_of h (Some x) ps qs = extend_partly h.width h.signed (choose_partly (Some x) ps qs)
choice_of h None ps qs = if length ps == length qs then extend_partly h.width h.signed (choose_partly None ps qs) else unknown h.width

-- c ? a : b of partly known operands
abbrev pub choice_partly : Head → KnownBits → KnownBits → KnownBits → KnownBits
choice_partly h c ps qs = choice_of h (known_truth c) ps qs

-- operands that have other widths than the operator takes, which lawful designs have not, give nothing that is known
abbrev pub binary_of : Head → Binary → Bool → KnownBits → KnownBits → KnownBits
binary_of h op signed ps qs = if fits op ps qs then extend_partly h.width h.signed (binary_partly op signed ps qs) else unknown h.width

-- the value of a term
abbrev mutual
  pub known_value : Design → Kept → Term → KnownBits
  known_value d b (number h n) = extend_partly h.width h.signed (sure n.bits)
  known_value d b (signal h s) = extend_partly h.width h.signed (map b (signal_cells d s))
  known_value d b (word h m i) = extend_partly h.width h.signed (read_word d b m (head i).signed (known_value d b i))
  known_value d b (bit h t i) =
      on_whole (whole_bits (known_value d b i)) (λ is. extend_partly h.width h.signed (select_option (known_value d b t) (offset_option (range_of d t) (index (head i).signed is)) 1)) (unknown h.width)
  known_value d b (part h t i j) =
      on_whole (whole_bits (known_value d b i)) (λ is. on_whole (whole_bits (known_value d b j)) (λ js. extend_partly h.width h.signed (select_option (known_value d b t) (offset_option (range_of d t) (index (head j).signed js)) (part_width is js))) (unknown h.width)) (unknown h.width)
  known_value d b (slide h t x w up) =
      on_whole (whole_bits (known_value d b x)) (λ xs. on_whole (whole_bits (known_value d b w)) (λ ws. extend_partly h.width h.signed (select_option (known_value d b t) (slide_offset (range_of d t) up (natural ws) (index (head x).signed xs)) (natural ws))) (unknown h.width)) (unknown h.width)
  known_value d b (unary h op t) = extend_partly h.width h.signed (unary_partly op (known_value d b t))
  known_value d b (binary h op t u) = binary_of h op (head t).signed (known_value d b t) (known_value d b u)
  known_value d b (choice h c t u) = choice_partly h (known_value d b c) (known_value d b t) (known_value d b u)
  known_value d b (concat h ts) = extend_partly h.width h.signed (known_joined d b ts)
  known_value d b (repeat h n ts) =
      on_whole (whole_bits (known_value d b n)) (λ ns. extend_partly h.width h.signed (copies_partly (natural ns) (known_joined d b ts))) (unknown h.width)
  known_value d b (sign h s t) = extend_partly h.width h.signed (known_value d b t)

  pub known_joined : Design → Kept → Terms → KnownBits
  known_joined d b no_terms = []
  known_joined d b (a_term t ts) = known_joined d b ts ++ known_value d b t

-- a write of what is known of a bit; one that is not certain may also leave the cell as it was
pub record KnownWrite : Type 0 where
  pub cell : Cell
  pub value : Option Bit
  pub certain : Bool

-- what a write leaves of a bit: its value, or what both values have in common
abbrev pub write_bit : Bool → Option Bit → Option Bit → Option Bit
write_bit true new old = new
write_bit false new old = join_bit old new

-- what is known of each cell after a write
abbrev pub keep_write : Kept → KnownWrite → Kept
keep_write b w c = if same_cell w.cell c then write_bit w.certain w.value (b c) else b c

-- what is known of each cell after these writes, in order
abbrev pub keep_all : Kept → List KnownWrite → Kept
keep_all b [] = b
keep_all b (w ∷ ws) = keep_all (keep_write b w) ws

-- the same writes, none of them certain
abbrev pub weaken : List KnownWrite → List KnownWrite
weaken [] = []
weaken (w ∷ ws) = record w { certain = false } ∷ weaken ws

-- certain writes of the bits to the cells, in order
abbrev pub writes_of : List Cell → KnownBits → List KnownWrite
writes_of [] ps = []
writes_of (c ∷ cs) [] = []
writes_of (c ∷ cs) (p ∷ ps) = record { cell = c; value = p; certain = true } ∷ writes_of cs ps

-- the bits to the cells of signal s from this offset up; what falls outside of its n bits is dropped
abbrev pub known_bit_writes : ℕ → ℕ → ℤ → KnownBits → List KnownWrite
known_bit_writes s n from [] = []
known_bit_writes s n from (p ∷ ps) = writes_of (option_cell s (within n from)) (p ∷ []) ++ known_bit_writes s n (from +ℤ pos 1) ps

-- the same; where the index is no number nothing is written
abbrev pub known_bit_option : ℕ → ℕ → Option ℤ → KnownBits → List KnownWrite
known_bit_option s n None ps = []
known_bit_option s n (Some from) ps = known_bit_writes s n from ps

-- each of the bits may come to each of the cells
abbrev pub perhaps_cell : Cell → KnownBits → List KnownWrite
perhaps_cell c [] = []
perhaps_cell c (p ∷ ps) = record { cell = c; value = p; certain = false } ∷ perhaps_cell c ps

-- each of the bits may come to each of these cells
abbrev pub perhaps_cells : List Cell → KnownBits → List KnownWrite
perhaps_cells [] ps = []
perhaps_cells (c ∷ cs) ps = perhaps_cell c ps ++ perhaps_cells cs ps

-- the bits to the named word, if there is one
abbrev pub known_word_writes : Design → ℕ → Option ℕ → KnownBits → List KnownWrite
known_word_writes d m None ps = []
known_word_writes d m (Some i) ps = writes_of (word_cells d m i) ps

-- the bits may come to each word that passes the test
abbrev pub perhaps_words : Design → ℕ → (ℕ → Bool) → List ℕ → KnownBits → List KnownWrite
perhaps_words d m may [] ps = []
perhaps_words d m may (i ∷ is) ps = if may i then weaken (writes_of (word_cells d m i) ps) ++ perhaps_words d m may is ps else perhaps_words d m may is ps

-- a write of a memory
abbrev pub write_word : Design → ℕ → Bool → KnownBits → KnownBits → List KnownWrite
write_word d m signed is ps =
    on_whole (whole_bits is) (λ bs. known_word_writes d m (named_word (memory_at d m) (index signed bs)) ps) (perhaps_words d m (may_name (memory_at d m) signed is) (words (memory_at d m)) ps)

-- a write of a part of a signal from the bit with this index up; by an unsure index any bit may be written
abbrev pub write_bits : Design → ℕ → Bool → KnownBits → KnownBits → List KnownWrite
write_bits d s signed is ps =
    on_whole (whole_bits is) (λ bs. known_bit_option s (signal_at d s).width (offset_option (signal_range d s) (index signed bs)) ps) (perhaps_cells (signal_cells d s) ps)

-- the writes that put these bits into a target
abbrev mutual
  pub known_writes : Design → Kept → Target → KnownBits → List KnownWrite
  known_writes d b (all_of s) ps = writes_of (signal_cells d s) ps
  known_writes d b (bits_of s low w) ps = write_bits d s (head low).signed (known_value d b low) ps
  known_writes d b (word_of m i) ps = write_word d m (head i).signed (known_value d b i) ps
  known_writes d b (several ts) ps = known_writes_all d b ts ps

  pub known_writes_all : Design → Kept → Targets → KnownBits → List KnownWrite
  known_writes_all d b no_targets ps = []
  known_writes_all d b (a_target t ts) ps = known_writes d b t (drop (targets_width d ts) ps) ++ known_writes_all d b ts (take (targets_width d ts) ps)

-- the bits that an assignment gives its target: the value, extended to the width of the target (IEEE 1364-2001, 4.5)
abbrev pub set_bits : Design → Kept → Target → Term → KnownBits
set_bits d b x t = extend_partly (target_width d x) (head t).signed (known_value d b t)
