-- What the bodies of a lawful design read, write and visit.
use Rattle.std.specs.Prelude.{◌≡◌, ◌⊎◌, ◌<◌, ◌+◌, ◌-◌, ◌==◌, ◌&&◌, ◌||◌, ◌++◌, ◌∷◌, if◌then◌else◌, ℕ, suc, Bool, true, false, List, [], length, is_none, max, min, nat_lt}
use Rattle.std.specs.List.{list_any, range_with_len}
use Rattle.event_machine.specs.Cell.{Cell, Values, WritesCell}
use Rattle.event_machine.specs.Habit.{Habit}
use Rattle.event_machine.specs.Machine.{IsTarget, IsWakeCell, output}
use Rattle.four_state.specs.Parts.{index}
use Rattle.four_state.specs.declared.bit.Bit.{Bit}
use Rattle.design_model.specs.Tree.{Target, Targets, Term, a_target, all_of, bit, bits_of, no_targets, part, several, slide, word_of}
use Rattle.design_model.specs.Design.{Design, In, IsClocked, a_signal, body_at, cell, is_assign, is_memory, memory_at, process_at, signal_cells, word_cells}
use Rattle.design_model.specs.Value.{head, value}
use Rattle.design_model.specs.Mentions.{any_set, blank, body_assigns, body_mentions, body_terms, is_constant, mentions}
use Rattle.design_model.specs.Execution.{at_line, execution, reads, writes_word}
use Rattle.design_model.specs.Paths.{ReadsUnwritten}
use Rattle.design_model.specs.Reads.{Agrees, HasValue, PartialMap}
use Rattle.design_model.specs.Machine.{is_level, machine}
use Rattle.design_model.specs.Shows.{BoundDump}
use Rattle.design_model.specs.Clear.{clear, clear_in, clear_start}
use Rattle.design_model.specs.Open.{IsWakeBit}

-- the cells of these words of a memory
abbrev pub words_cells : Design → ℕ → List ℕ → List Cell
words_cells d m [] = []
words_cells d m (i ∷ is) = word_cells d m i ++ words_cells d m is

-- the indexes of a memory's words
abbrev pub word_indexes : Design → ℕ → List ℕ
word_indexes d m = range_with_len (min (memory_at d m).first (memory_at d m).last) (max (memory_at d m).first (memory_at d m).last - min (memory_at d m).first (memory_at d m).last + 1)

-- all cells of a signal or memory
abbrev pub all_cells : Design → ℕ → List Cell
all_cells d x = if nat_lt x (length d.signals) then signal_cells d x else words_cells d x (word_indexes d x)

-- Visits of an Assign: what an Assign visits depends on its wake cells alone.
abbrev pub AssignVisitsLaw : Design → Type 0
AssignVisitsLaw d =
    (p : ℕ) → is_assign (process_at d p) ≡ true → (u v : Values Bit) → ((c : Cell) → IsWakeCell (machine d) p c → u c ≡ v c)
    → (execution d (body_at d p) u).visits ≡ (execution d (body_at d p) v).visits

-- Lines of an Assign: it reaches no line but 0, which is the number of no line point.
abbrev pub AssignLineLaw : Design → Type 0
AssignLineLaw d = (p n : ℕ) (v : Values Bit) → is_assign (process_at d p) ≡ true → In (at_line n) (execution d (body_at d p) v).visits → n ≡ 0

-- Written cells: a process writes cells that the design has.
abbrev pub WrittenCellsLaw : Design → Type 0
WrittenCellsLaw d = (p : ℕ) (v : Values Bit) (c : Cell) → WritesCell (output (machine d) p v) c → In c (all_cells d c.thing)

-- a part of the target is one of signal x at a constant index with an x or z, which writes no bit
abbrev mutual
  pub is_unknown_target : Design → ℕ → Target → Bool
  is_unknown_target d x (all_of s) = false
  is_unknown_target d x (bits_of s low w) = (s == x) && (is_constant low && is_none (index (head low).signed (value d blank low)))
  is_unknown_target d x (word_of m i) = false
  is_unknown_target d x (several ts) = are_unknown_targets d x ts

  pub are_unknown_targets : Design → ℕ → Targets → Bool
  are_unknown_targets d x no_targets = false
  are_unknown_targets d x (a_target t ts) = is_unknown_target d x t || are_unknown_targets d x ts

-- Targets by name: what a process assigns by name it may write by cell, unless it names it at an unknown index.
abbrev pub TargetNamesLaw : Design → Type 0
TargetNamesLaw d = (p x : ℕ) → body_assigns x (body_at d p) ≡ true → ((c : Cell) × (c.thing ≡ x) × IsTarget (machine d) p c) ⊎ (any_set (λ b y t. is_unknown_target d x y) (body_at d p) ≡ true)

-- Targets by cell: what a process may write by cell it assigns by name.
abbrev pub TargetCellsLaw : Design → Type 0
TargetCellsLaw d = (p : ℕ) (c : Cell) → IsTarget (machine d) p c → body_assigns c.thing (body_at d p) ≡ true

-- Written words: a word that an execution writes is one of a memory that the process may write.
abbrev pub WordVisitsLaw : Design → Type 0
WordVisitsLaw d = (p : ℕ) (v : Values Bit) (m i : ℕ) → In (writes_word m i) (execution d (body_at d p) v).visits → (c : Cell) × (c.thing ≡ m) × IsTarget (machine d) p c

-- Mentions of a path: what some path reads, the body mentions.
abbrev pub PathMentionsLaw : Design → Type 0
PathMentionsLaw d = (p y : ℕ) → ReadsUnwritten d (body_at d p) y → body_mentions y (body_at d p) ≡ true

-- Reads of an Assign: it reads each signal that it mentions, and has not written it before.
abbrev pub MentionReadLaw : Design → Type 0
MentionReadLaw d =
    (p x : ℕ) → is_assign (process_at d p) ≡ true → body_mentions x (body_at d p) ≡ true → x < length d.signals → (v : Values Bit)
    → In (reads (a_signal x) false) (execution d (body_at d p) v).visits

-- process p is an Assign that both drives and mentions signal y
abbrev pub DrivesAndMentions : Design → ℕ → ℕ → Type 0
DrivesAndMentions d p y = (is_assign (process_at d p) ≡ true) × (body_mentions y (body_at d p) ≡ true) × (body_assigns y (body_at d p) ≡ true)

-- what is clear at t by this number of rounds
abbrev pub clear_round : Design → Habit → BoundDump → ℕ → ℕ → PartialMap
clear_round d h dump t n = clear_in d h dump t (clear_start d h dump t) n

-- Own signals: where some state agrees with a round, a signal that the dump lacks and an Assign drives and mentions is not clear in the next.
abbrev pub OwnUnclearLaw : Design → Type 0
OwnUnclearLaw d =
    (h : Habit) (dump : BoundDump) (t p y n : ℕ) (v : Values Bit) → DrivesAndMentions d p y → dump.bound y ≡ false
    → Agrees d (clear_round d h dump t n) v → HasValue (clear_round d h dump t (suc n)) (a_signal y) → ⊥

-- so where some state agrees with what is clear, it is not clear
abbrev pub OwnNotClearLaw : Design → Type 0
OwnNotClearLaw d =
    (h : Habit) (dump : BoundDump) (t p y : ℕ) (v : Values Bit) → DrivesAndMentions d p y → dump.bound y ≡ false → Agrees d (clear d h dump t) v → HasValue (clear d h dump t) (a_signal y) → ⊥

-- Settled signals: what an Assign or Comb assigns is a signal.
abbrev pub SettledSignalsLaw : Design → Type 0
SettledSignalsLaw d = (p x : ℕ) → (IsClocked (process_at d p) → ⊥) → body_assigns x (body_at d p) ≡ true → x < length d.signals

-- the term is a select of y by a constant index with an x or z, which selects no bit
abbrev pub is_unknown_select : Design → ℕ → Term → Bool
is_unknown_select d y (bit h t i) = mentions y t && (is_constant i && is_none (index (head i).signed (value d blank i)))
is_unknown_select d y (part h t i j) = mentions y t && is_none (index (head j).signed (value d blank j))
is_unknown_select d y (slide h t b w up) = mentions y t && (is_constant b && is_none (index (head b).signed (value d blank b)))
is_unknown_select d y _ = false

-- Own wake bits: of a signal that an Assign drives and mentions it has a wake bit, one that it does not drive; or it selects it by a constant index with an x or z.
abbrev pub OwnWakeLaw : Design → Type 0
OwnWakeLaw d = (p y : ℕ) → DrivesAndMentions d p y → ((k : ℕ) × IsWakeBit d p (cell y k)) ⊎ (list_any (is_unknown_select d y) (body_terms (body_at d p)) ≡ true)

-- Listed memories: a list of names has signals alone, so a memory that wakes a process is one that it mentions.
abbrev pub ListedMemoryLaw : Design → Type 0
ListedMemoryLaw d = (p m : ℕ) → is_level (process_at d p) m ≡ true → is_memory d m ≡ true → body_mentions m (body_at d p) ≡ true
