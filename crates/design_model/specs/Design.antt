-- The elaborated design: its signals, memories and processes, and the cells of its machine that hold their bits.
use Rattle.std.specs.Prelude.{◌≡◌, ◌⊎◌, ◌+◌, ◌-◌, ◌*◌, ◌<◌, ◌≤◌, ◌&&◌, ◌∷◌, ◌++◌, if◌then◌else◌, ℕ, Bool, true, false, List, [], map, length, min, max, nat_le, nat_lt, slice_index_or, ⊤}
use Rattle.std.specs.List.{range_with_len}
use Rattle.cov_host.specs.declared.place.Place.{Place}
use Rattle.event_machine.specs.Cell.{Cell, Values}
use Rattle.four_state.specs.declared.bit.Bit.{Bit}
use Rattle.design_model.specs.Tree.{Process, Stmt, assign, clocked, comb, empty, set}
pub use Rattle.design_model.specs.declared.design.Instance.{Instance}
pub use Rattle.design_model.specs.declared.design.Signal.{Signal}
pub use Rattle.design_model.specs.declared.design.Memory.{Memory}
pub use Rattle.design_model.specs.declared.design.Constant.{Constant}
pub use Rattle.design_model.specs.declared.design.Alias.{Alias}

-- a design after elaboration
pub record Design : Type 0 where
  pub top : List ℕ
  pub instances : List Instance
  pub signals : List Signal
  pub memories : List Memory
  pub processes : List Process
  pub constants : List Constant
  pub aliases : List Alias

-- in place of a signal that a design does not have
abbrev pub no_signal : Signal
no_signal = record { instance = 0; name = []; high = 0; low = 0; ranged = false; width = 0; signed = false; input = false }

-- in place of a memory that a design does not have
abbrev pub no_memory : Memory
no_memory = record { instance = 0; name = []; first = 0; last = 0; high = 0; low = 0; ranged = false; width = 0; signed = false }

-- the signal with this number
abbrev pub signal_at : Design → ℕ → Signal
signal_at d s = slice_index_or d.signals s no_signal

-- the number is that of a memory
abbrev pub is_memory : Design → ℕ → Bool
is_memory d m = nat_le (length d.signals) m && nat_lt m (length d.signals + length d.memories)

-- the memory with this number
abbrev pub memory_at : Design → ℕ → Memory
memory_at d m = if nat_le (length d.signals) m then slice_index_or d.memories (m - length d.signals) no_memory else no_memory

-- the cell at a place of a thing
abbrev pub cell : ℕ → ℕ → Cell
cell x k = record { thing = x; place = k }

-- the cells of a signal, the lowest bit first
abbrev pub signal_cells : Design → ℕ → List Cell
signal_cells d s = map (cell s) (range_with_len 0 (signal_at d s).width)

-- the cells of a memory's word with this index
abbrev pub word_cells : Design → ℕ → ℕ → List Cell
word_cells d m i = map (λ k. cell m (i * (memory_at d m).width + k)) (range_with_len 0 (memory_at d m).width)

-- the bits of a signal
abbrev pub signal_bits : Design → Values Bit → ℕ → List Bit
signal_bits d v s = map v (signal_cells d s)

-- the bits of a word of a memory
abbrev pub word_bits : Design → Values Bit → ℕ → ℕ → List Bit
word_bits d v m i = map v (word_cells d m i)

-- a signal, or one word of a memory
pub data Thing : Type 0 where
  a_signal : ℕ → Thing
  a_word : ℕ → ℕ → Thing

-- the cells of a thing
abbrev pub cells : Design → Thing → List Cell
cells d (a_signal s) = signal_cells d s
cells d (a_word m i) = word_cells d m i

-- the signal or memory of a thing
abbrev pub owner : Thing → ℕ
owner (a_signal s) = s
owner (a_word m i) = m

-- the bits of a thing
abbrev pub thing_bits : Design → Values Bit → Thing → List Bit
thing_bits d v x = map v (cells d x)

-- the thing is one of the design
abbrev pub IsThing : Design → Thing → Type 0
IsThing d (a_signal s) = s < length d.signals
IsThing d (a_word m i) = (is_memory d m ≡ true) × (min (memory_at d m).first (memory_at d m).last ≤ i) × (i ≤ max (memory_at d m).first (memory_at d m).last)

-- no place in a source
abbrev pub nowhere : Place
nowhere = record { source = 0; line = 0; column = 0 }

-- a process that does nothing
abbrev pub no_process : Process
no_process = comb 0 [] (empty nowhere)

-- the process with this number
abbrev pub process_at : Design → ℕ → Process
process_at d p = slice_index_or d.processes p no_process

-- the body of a process; that of an Assign is its one assignment, at line 0, which is the number of no line point
abbrev pub body : Process → Stmt
body (assign i x t counted) = set nowhere 0 true x t
body (comb i wakes s) = s
body (clocked i events s) = s

-- the body of the process with this number
abbrev pub body_at : Design → ℕ → Stmt
body_at d p = body (process_at d p)

-- the process is an Assign
abbrev pub is_assign : Process → Bool
is_assign (assign i x t counted) = true
is_assign (comb i wakes s) = false
is_assign (clocked i events s) = false

-- the process is an Assign
abbrev pub IsAssign : Process → Type 0
IsAssign (assign i x t counted) = ⊤
IsAssign (comb i wakes s) = ⊥
IsAssign (clocked i events s) = ⊥

-- the process is a Comb
abbrev pub IsComb : Process → Type 0
IsComb (assign i x t counted) = ⊥
IsComb (comb i wakes s) = Unit {0}
IsComb (clocked i events s) = ⊥

-- the process is a Clocked
abbrev pub IsClocked : Process → Type 0
IsClocked (assign i x t counted) = ⊥
IsClocked (comb i wakes s) = ⊥
IsClocked (clocked i events s) = ⊤

-- x is in the list
abbrev pub In : {A : Type 0} → A → List A → Type 0
In x [] = ⊥
In x (y ∷ ys) = (y ≡ x) ⊎ In x ys

-- no element is in the list twice
abbrev pub AreDistinct : {A : Type 0} → List A → Type 0
AreDistinct [] = ⊤
AreDistinct (x ∷ xs) = (In x xs → ⊥) × AreDistinct xs

-- in place of an instance that a design does not have
abbrev pub no_instance : Instance
no_instance = record { path = []; «module» = [] }

-- the path of a name in an instance: that of the instance, a dot and the name
abbrev pub path_in : Design → ℕ → List ℕ → List ℕ
path_in d i name = (slice_index_or d.instances i no_instance).path ++ 46 ∷ name

-- the path of a signal or memory
abbrev pub path_of : Design → ℕ → List ℕ
path_of d x = if nat_lt x (length d.signals) then path_in d (signal_at d x).instance (signal_at d x).name else path_in d (memory_at d x).instance (memory_at d x).name

-- the number is that of a signal or of a memory
abbrev pub is_number : Design → ℕ → Bool
is_number d x = nat_lt x (length d.signals + length d.memories)

-- a name with the number of its instance
abbrev pub Named : Type 0
Named = ℕ × List ℕ

-- the names of a design
abbrev pub names_of : Design → List Named
names_of d = map (λ s. (s.instance, s.name)) d.signals ++ map (λ m. (m.instance, m.name)) d.memories ++ map (λ c. (c.instance, c.name)) d.constants ++ map (λ a. (a.instance, a.name)) d.aliases
