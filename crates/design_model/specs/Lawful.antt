-- Lawful designs.
use Rattle.std.specs.Prelude.{◌≡◌, ◌+◌, ◌-◌, ◌<◌, ◌≤◌, ◌==◌, ◌&&◌, ◌||◌, ◌∷◌, ℕ, Bool, true, false, not, List, [], map, length, min, max, nat_le, nat_lt, sum_by, count_by}
use Rattle.std.specs.List.{list_all}
use Rattle.event_machine.specs.Cell.{Cell, Write}
use Rattle.four_state.specs.Arithmetic.{natural}
use Rattle.four_state.specs.Parts.{index}
use Rattle.four_state.specs.Vector.{fill}
use Rattle.four_state.specs.declared.bit.Bit.{Bit}
use Rattle.four_state.specs.declared.bit.Bit.TheVariants.{X}
use Rattle.design_model.specs.Tree.{Arms, Process, Stmt, Stmts, Target, Targets, Term, Terms, a_stmt, a_target, a_term, all_of, arm, assign, binary, bit, bits_of, block, branch, choice, clocked, comb, concat, empty, no_arms, no_stmts, no_targets, no_terms, number, part, repeat, select, set, several, sign, signal, slide, turns, unary, word, word_of}
use Rattle.design_model.specs.Design.{Alias, AreDistinct, Design, In, Instance, IsAssign, IsComb, Memory, Signal, body_at, is_number, names_of, path_of, process_at, signal_at}
use Rattle.design_model.specs.Value.{head, part_width, slide_offset, value}
use Rattle.design_model.specs.Assignment.{bit_writes_option, signal_range}
use Rattle.design_model.specs.Mentions.{any_set, blank, body_assigns, body_blocks, body_queues, has_cell, is_constant, may_write, static_writes}
use Rattle.design_model.specs.Numbered.{LineAt, NodeAt, lines_of, nodes_of}
use Rattle.design_model.specs.Machine.{events_of}
use Rattle.design_model.specs.Shape.{is_body}
use Rattle.design_model.specs.WellFormed.{is_well_formed_body}

-- the term is a signal
abbrev pub is_plain : Term → Bool
is_plain (signal h s) = true
is_plain _ = false

-- writes to the bits that a part of signal s by a constant base and a width names
abbrev pub slide_writes : Design → ℕ → Bool → Term → ℕ → List (Write Bit)
slide_writes d s up b w = bit_writes_option s (signal_at d s).width (slide_offset (signal_range d s) up w (index (head b).signed (value d blank b))) (fill w X)

-- a bit that a term may read; by an index that is not constant any bit of the signal
abbrev mutual
  pub may_read : Design → Term → Cell → Bool
  may_read d (number h n) c = false
  may_read d (signal h s) c = c.thing == s
  may_read d (word h m i) c = (c.thing == m) || may_read d i c
  may_read d (bit h t i) c = may_read d i c || (may_read d t c && (not (is_plain t && is_constant i) || has_cell (static_writes d (bits_of c.thing i 1)) c))
  may_read d (part h t i j) c = may_read d t c && (not (is_plain t) || has_cell (static_writes d (bits_of c.thing j (part_width (value d blank i) (value d blank j)))) c)
  may_read d (slide h t b w up) c = may_read d b c || (may_read d t c && (not (is_plain t && is_constant b) || has_cell (slide_writes d c.thing up b (natural (value d blank w))) c))
  may_read d (unary h op t) c = may_read d t c
  may_read d (binary h op t u) c = may_read d t c || may_read d u c
  may_read d (choice h x t u) c = may_read d x c || (may_read d t c || may_read d u c)
  may_read d (concat h ts) c = some_may_read d ts c
  may_read d (repeat h n ts) c = some_may_read d ts c
  may_read d (sign h s t) c = may_read d t c

  pub some_may_read : Design → Terms → Cell → Bool
  some_may_read d no_terms c = false
  some_may_read d (a_term t ts) c = may_read d t c || some_may_read d ts c

-- a target of signals alone, with constant indexes
abbrev mutual
  pub is_fixed_target : Target → Bool
  is_fixed_target (all_of s) = true
  is_fixed_target (bits_of s low w) = is_constant low
  is_fixed_target (word_of m i) = false
  is_fixed_target (several ts) = are_fixed_targets ts

  pub are_fixed_targets : Targets → Bool
  are_fixed_targets no_targets = true
  are_fixed_targets (a_target t ts) = is_fixed_target t && are_fixed_targets ts

-- the writes write no cell twice
abbrev pub each_once : List (Write Bit) → Bool
each_once [] = true
each_once (w ∷ ws) = not (has_cell ws w.cell) && each_once ws

-- an Assign names each bit once and by constant indexes, and a Comb has no nonblocking assignment
abbrev pub target_once : Process → Design → Bool
target_once (assign i x t counted) d = is_fixed_target x && each_once (static_writes d x)
target_once (comb i wakes s) d = not (any_set (λ blocking x t. not blocking) s)
target_once (clocked i events s) d = true

-- the number of statements, with loops unrolled
abbrev mutual
  pub size : Stmt → ℕ
  size (block p ss) = 1 + sizes ss
  size (branch p n t s other) = 1 + size s + sizes other
  size (select p n kind t arms) = 1 + arm_sizes arms
  size (turns p n ss) = 1 + sizes ss
  size (set p n blocking x t) = 1
  size (empty p) = 1

  pub sizes : Stmts → ℕ
  sizes no_stmts = 0
  sizes (a_stmt s ss) = size s + sizes ss

  pub arm_sizes : Arms → ℕ
  arm_sizes no_arms = 0
  arm_sizes (arm labels s arms) = size s + arm_sizes arms

-- the statements of a process; an Assign has no statement
abbrev pub size_of : Process → ℕ
size_of (assign i x t counted) = 0
size_of (comb i wakes s) = size s
size_of (clocked i events s) = size s

-- the instance that a process is in
abbrev pub instance_of : Process → ℕ
instance_of (assign i x t counted) = i
instance_of (comb i wakes s) = i
instance_of (clocked i events s) = i

-- how many numbers a range has
abbrev pub span : ℕ → ℕ → ℕ
span a b = max a b - min a b + 1

-- a signal of 1 to 128 bits, as many as its range has, and one bit without a range
abbrev pub is_signal : Design → Signal → Bool
is_signal d s = nat_lt s.instance (length d.instances) && nat_le 1 s.width && nat_le s.width 128 && (s.width == span s.high s.low) && (s.ranged || ((s.high == 0) && (s.low == 0)))

-- a memory of at most 65,536 words of 1 to 128 bits
abbrev pub is_memory_of : Design → Memory → Bool
is_memory_of d m = nat_lt m.instance (length d.instances) && nat_le 1 m.width && nat_le m.width 128 && nat_le (span m.first m.last) 65536 && (m.width == span m.high m.low) && (m.ranged || ((m.high == 0) && (m.low == 0)))

-- the list of names of a Comb
abbrev pub wakes_of : Process → List ℕ
wakes_of (assign i x t counted) = []
wakes_of (comb i wakes s) = wakes
wakes_of (clocked i events s) = []

-- a path of at most 64 names
abbrev pub is_shallow : List ℕ → Bool
is_shallow path = nat_lt (count_by (λ b. b == 46) path) 64

-- an instance whose path has at most 64 names and 256 bytes
abbrev pub is_instance : Instance → Bool
is_instance i = is_shallow i.path && nat_le (length i.path) 256

-- an alias is in an instance and names a signal
abbrev pub is_alias : Design → Alias → Bool
is_alias d a = nat_lt a.instance (length d.instances) && nat_lt a.signal (length d.signals)

-- what the laws of runs, and each stage after elaboration, take for granted of a design
pub record IsLawfulDesign (d : Design) : Type 0 where
  pub signals : list_all (is_signal d) d.signals ≡ true
  pub memories : list_all (is_memory_of d) d.memories ≡ true
  pub instances : list_all (λ p. nat_lt (instance_of p) (length d.instances)) d.processes ≡ true
  pub bodies : (p : ℕ) → is_body d (body_at d p) ≡ true
  pub constants : list_all (λ c. nat_lt c.instance (length d.instances)) d.constants ≡ true
  pub aliases : list_all (is_alias d) d.aliases ≡ true
  pub well_formed : (p : ℕ) → is_well_formed_body d (body_at d p) ≡ true  -- only counted nodes are numbered, and selects by a constant index are in their ranges
  pub lists : (p : ℕ) → list_all (λ x. nat_lt x (length d.signals)) (wakes_of (process_at d p)) ≡ true  -- a list of names has signals alone
  pub instance_paths : AreDistinct (map (λ i. i.path) d.instances)
  pub names : AreDistinct (names_of d)  -- the names in one instance differ
  pub short_instances : list_all is_instance d.instances ≡ true
  pub short_paths : (x : ℕ) → is_number d x ≡ true → length (path_of d x) ≤ 256
  pub few_signals : length d.signals ≤ 65536
  pub few_processes : length d.processes ≤ 65536
  pub few_words : sum_by (λ m. span m.first m.last) d.memories ≤ 262144
  pub few_instances : length d.instances ≤ 65536
  pub few_statements : sum_by size_of d.processes ≤ 1048576
  pub lines_once : (p q : ℕ) (x y : LineAt) → In x (lines_of (process_at d p)) → In y (lines_of (process_at d q))
      → instance_of (process_at d p) ≡ instance_of (process_at d q) → x.line ≡ y.line → (p ≡ q) × (x ≡ y)
  pub nodes_once : (p q : ℕ) (x y : NodeAt) → In x (nodes_of (process_at d p)) → In y (nodes_of (process_at d q))
      → instance_of (process_at d p) ≡ instance_of (process_at d q) → x.node ≡ y.node → (p ≡ q) × (x ≡ y)
  pub one_writer : (p q x : ℕ) → (IsAssign (process_at d p) → ⊥) → (IsAssign (process_at d q) → ⊥) → body_assigns x (body_at d p) ≡ true → body_assigns x (body_at d q) ≡ true → p ≡ q
  pub one_driver : (p q : ℕ) (c : Cell) → IsAssign (process_at d p) → IsAssign (process_at d q)
      → any_set (λ b x t. may_write d x c) (body_at d p) ≡ true → any_set (λ b x t. may_write d x c) (body_at d q) ≡ true → p ≡ q
  pub apart : (p q x : ℕ) → IsAssign (process_at d p) → body_assigns x (body_at d p) ≡ true → body_assigns x (body_at d q) ≡ true → IsAssign (process_at d q)
  pub no_input : (p s : ℕ) → body_assigns s (body_at d p) ≡ true → (signal_at d s).input ≡ false
  pub not_both : (p q x : ℕ) → body_blocks x (body_at d p) ≡ true → body_queues x (body_at d q) ≡ true → ⊥
  pub targets : (p : ℕ) → target_once (process_at d p) d ≡ true
  pub comb_writes : (p x : ℕ) → IsComb (process_at d p) → body_assigns x (body_at d p) ≡ true → x < length d.signals  -- a Comb writes signals alone
  pub reads_no_own : (p : ℕ) (c : Cell) → IsAssign (process_at d p) → any_set (λ b x t. may_write d x c && may_read d t c) (body_at d p) ≡ false
  pub events : (p : ℕ) → list_all (λ e. nat_lt e.1 (length d.signals) && ((signal_at d e.1).width == 1)) (events_of (process_at d p)) ≡ true
