-- The writes that put bits into a target (IEEE 1364-2001, clauses 6 and 9.2).
use Rattle.std.specs.Prelude.{◌+◌, ◌∷◌, ◌++◌, ◌+ℤ◌, ℕ, List, [], ℤ, pos, Option, Some, None, take, drop}
use Rattle.event_machine.specs.Cell.{Cell, Values, Write}
use Rattle.four_state.specs.Parts.{index, within}
use Rattle.four_state.specs.declared.bit.Bit.{Bit}
use Rattle.design_model.specs.Tree.{Target, Targets, a_target, all_of, bits_of, no_targets, several, word_of}
use Rattle.design_model.specs.Design.{Design, cell, memory_at, signal_at, signal_cells, word_cells}
use Rattle.design_model.specs.Value.{Range, head, offset_option, value, word_named}

-- a write of each bit to the cell beside it
abbrev pub writes_to : List Cell → List Bit → List (Write Bit)
writes_to [] bs = []
writes_to (c ∷ cs) [] = []
writes_to (c ∷ cs) (b ∷ bs) = record { cell = c; value = b } ∷ writes_to cs bs

-- the cell at a place of signal s, if there is one
abbrev pub option_cell : ℕ → Option ℕ → List Cell
option_cell s None = []
option_cell s (Some k) = cell s k ∷ []

-- the writes of these bits of a signal of width n, from this offset up; a bit outside is not written
abbrev pub bit_writes : ℕ → ℕ → ℤ → List Bit → List (Write Bit)
bit_writes s n from [] = []
bit_writes s n from (b ∷ bs) = writes_to (option_cell s (within n from)) (b ∷ []) ++ bit_writes s n (from +ℤ pos 1) bs

-- the same from an offset, if there is one
abbrev pub bit_writes_option : ℕ → ℕ → Option ℤ → List Bit → List (Write Bit)
bit_writes_option s n None bs = []
bit_writes_option s n (Some from) bs = bit_writes s n from bs

-- the writes of these bits to a word, if there is one
abbrev pub word_writes : Design → ℕ → Option ℕ → List Bit → List (Write Bit)
word_writes d m None bs = []
word_writes d m (Some i) bs = writes_to (word_cells d m i) bs

-- the declared range of a signal
abbrev pub signal_range : Design → ℕ → Range
signal_range d s = record { high = (signal_at d s).high; low = (signal_at d s).low }

-- how many bits a target has
abbrev mutual
  pub target_width : Design → Target → ℕ
  target_width d (all_of s) = (signal_at d s).width
  target_width d (bits_of s low w) = w
  target_width d (word_of m i) = (memory_at d m).width
  target_width d (several ts) = targets_width d ts

  pub targets_width : Design → Targets → ℕ
  targets_width d no_targets = 0
  targets_width d (a_target t ts) = target_width d t + targets_width d ts

-- the writes that put these bits, as many as the target has, into a target
abbrev mutual
  pub target_writes : Design → Values Bit → Target → List Bit → List (Write Bit)
  target_writes d v (all_of s) bs = writes_to (signal_cells d s) bs
  target_writes d v (bits_of s low w) bs = bit_writes_option s (signal_at d s).width (offset_option (signal_range d s) (index (head low).signed (value d v low))) bs
  target_writes d v (word_of m i) bs = word_writes d m (word_named d v m i) bs
  target_writes d v (several ts) bs = targets_writes d v ts bs

  pub targets_writes : Design → Values Bit → Targets → List Bit → List (Write Bit)
  targets_writes d v no_targets bs = []
  targets_writes d v (a_target t ts) bs = target_writes d v t (drop (targets_width d ts) bs) ++ targets_writes d v ts (take (targets_width d ts) bs)
