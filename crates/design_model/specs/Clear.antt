-- What the dump decides: the least partial map of clear things, and forced values.
use Rattle.std.specs.Prelude.{◌≡◌, ◌≢◌, ◌⊎◌, ◌-◌, ◌<◌, ◌≤◌, ◌&&◌, ◌∷◌, ◌++◌, if◌then◌else◌, ℕ, zero, suc, Bool, true, false, List, [], length}
use Rattle.std.specs.List.{list_all, list_any}
use Rattle.event_machine.specs.Cell.{Cell, Values, Write, join, put_all}
use Rattle.event_machine.specs.Habit.{Habit}
use Rattle.four_state.specs.declared.bit.Bit.{Bit}
use Rattle.design_model.specs.Tree.{Process, Stmt}
use Rattle.design_model.specs.Design.{Design, IsClocked, IsComb, IsThing, Thing, a_signal, a_word, body, body_at, cells, is_assign, owner, process_at, signal_at, signal_bits, signal_cells, thing_bits}
use Rattle.design_model.specs.Mentions.{any_set, body_assigns, body_mentions, may_write}
use Rattle.design_model.specs.Execution.{Execution, covers, execution}
use Rattle.design_model.specs.Paths.{each_writes_whole, reads_signal_before_writing}
use Rattle.design_model.specs.Reads.{Agrees, HasValue, ReadsWithin, PartialMap, nothing_known}
use Rattle.design_model.specs.Machine.{is_level}
use Rattle.design_model.specs.Shows.{BoundDump, IsFirst, IsListed, IsShown, IsWindow}
use Rattle.design_model.specs.MayMove.{CanWakeSome, IsCleanAt, MayMoveAt}
use Rattle.design_model.specs.Early.{IsEarlyAt}

-- an Assign drives signal s
abbrev pub drives : ℕ → Process → Bool
drives s p = is_assign p && body_assigns s (body p)

-- what the Assigns of signal s write on these values
abbrev pub driven_writes : Design → Values Bit → ℕ → List Process → List (Write Bit)
driven_writes d v s [] = []
driven_writes d v s (p ∷ ps) = (if drives s p then (execution d (body p) v).blocking else []) ++ driven_writes d v s ps

-- each bit of signal s is driven
abbrev pub is_driven : Design → ℕ → Bool
is_driven d s = list_all (λ c. list_any (λ p. is_assign p && any_set (λ blocking y t. may_write d y c) (body p)) d.processes) (signal_cells d s)

-- all that an execution writes, the queued updates last
abbrev pub all_writes : Execution → List (Write Bit)
all_writes r = r.blocking ++ join r.nonblocking

-- what a thing is after these writes
abbrev pub bits_after : Design → Values Bit → List (Write Bit) → Thing → List Bit
bits_after d v ws x = thing_bits d (put_all v ws) x

-- a thing is unbound
abbrev pub IsUnbound : BoundDump → Thing → Type 0
IsUnbound dump (a_signal s) = dump.bound s ≡ false
IsUnbound dump (a_word m i) = Unit {0}

-- the number is that of a signal
abbrev pub IsSignal : Design → ℕ → Type 0
IsSignal d s = s < length d.signals

-- x has these bits after these writes: they write it whole, or it was clear
pub record LeavesValue (d : Design) (start : PartialMap) (v : Values Bit) (ws : List (Write Bit)) (x : Thing) (bits : List Bit) : Type 0 where
  pub decided : (covers ws (cells d x) ≡ true) ⊎ HasValue start x
  pub is : (old : Values Bit) → ((w : List Bit) → start x w → thing_bits d old x ≡ w) → bits_after d old ws x ≡ bits

-- a net has the value of its Assigns, where each of its bits is driven and all its Assigns read within the map
pub record IsNetValue (d : Design) (K : PartialMap) (s : ℕ) (bits : List Bit) : Type 0 where
  pub is_signal : IsSignal d s
  pub driven : is_driven d s ≡ true
  pub within : (p : ℕ) → drives s (process_at d p) ≡ true → ReadsWithin d K (body_at d p)
  pub gives : (v : Values Bit) → Agrees d K v → bits_after d v (driven_writes d v s d.processes) (a_signal s) ≡ bits

-- a bound signal that the body mentions has changed over a window step at or before t
pub record HasChanged (dump : BoundDump) (d : Design) (b : Stmt) (t : ℕ) : Type 0 where
  pub by : ℕ
  pub time : ℕ
  pub mentioned : body_mentions by b ≡ true
  pub is_bound : dump.bound by ≡ true
  pub until : time ≤ t
  pub in_window : IsWindow dump time
  pub changed : signal_bits d (dump.values (time - 1)) by ≢ signal_bits d (dump.values time) by

-- a target of Comb p has the value that its body gives it
pub record IsCombValue (d : Design) (dump : BoundDump) (t : ℕ) (K : PartialMap) (p : ℕ) (s : ℕ) (bits : List Bit) : Type 0 where
  pub is_signal : IsSignal d s
  pub is_comb : IsComb (process_at d p)
  pub target : body_assigns s (body_at d p) ≡ true
  pub written_whole : each_writes_whole d (body_at d p) s ≡ true
  pub writes_first : (x : ℕ) → body_assigns x (body_at d p) ≡ true → reads_signal_before_writing d (body_at d p) x ≡ false
  pub all_clear : (x : ℕ) → is_level (process_at d p) x ≡ true → body_assigns x (body_at d p) ≡ false → IsSignal d x → HasValue K (a_signal x)
  pub within : ReadsWithin d K (body_at d p)
  pub has_changed : HasChanged dump d (body_at d p) t
  pub gives : (v : Values Bit) → Agrees d K v → bits_after d v (execution d (body_at d p) v).blocking (a_signal s) ≡ bits

-- what clean block p with trigger c reads: the trigger's new value, and what was clear at the start and is not early
abbrev pub EntryFrom : Design → Habit → BoundDump → ℕ → PartialMap → ℕ → Cell → PartialMap
EntryFrom d h dump t start p c x bits =
    ((x ≡ a_signal c.thing) × (bits ≡ thing_bits d (dump.values t) x)) ⊎ ((x ≢ a_signal c.thing) × (IsEarlyAt d h dump t p c (owner x) → ⊥) × start x bits)

-- Clocked p writes x
pub record IsClockedTarget (d : Design) (p : ℕ) (x : Thing) : Type 0 where
  pub is_thing : IsThing d x
  pub is_clocked : IsClocked (process_at d p)
  pub target : body_assigns (owner x) (body_at d p) ≡ true

-- a target of a clean Clocked p has the value that the body's writes leave
pub record IsWrittenValue (d : Design) (h : Habit) (dump : BoundDump) (t : ℕ) (start : PartialMap) (p : ℕ) (c : Cell) (x : Thing) (bits : List Bit) : Type 0 where
  pub writer : IsClockedTarget d p x
  pub is_clean : IsCleanAt d dump t p c
  pub within : ReadsWithin d (EntryFrom d h dump t start p c) (body_at d p)
  pub gives : (v : Values Bit) → Agrees d (EntryFrom d h dump t start p c) v → LeavesValue d start v (all_writes (execution d (body_at d p) v)) x bits

-- the rules for what is clear at t, from what was clear at the start of t and what is clear already
pub data IsClearBy (d : Design) (h : Habit) (dump : BoundDump) (t : ℕ) (start K : PartialMap) : Thing → List Bit → Type 0 where
  of_dump : (s : ℕ) (bits : List Bit) → IsShown dump t → dump.bound s ≡ true → IsSignal d s → bits ≡ signal_bits d (dump.values t) s → IsClearBy d h dump t start K (a_signal s) bits
  of_assigns : (s : ℕ) (bits : List Bit) → dump.bound s ≡ false → IsNetValue d K s bits → IsClearBy d h dump t start K (a_signal s) bits
  of_comb : (p s : ℕ) (bits : List Bit) → dump.bound s ≡ false → IsCombValue d dump t K p s bits → IsClearBy d h dump t start K (a_signal s) bits
  of_unwoken : (p : ℕ) (x : Thing) (bits : List Bit) → IsWindow dump t → IsUnbound dump x → IsClockedTarget d p x → (CanWakeSome d dump t p → ⊥) → start x bits → IsClearBy d h dump t start K x bits
  of_clean : (p : ℕ) (c : Cell) (x : Thing) (bits : List Bit) → IsWindow dump t → IsUnbound dump x → IsWrittenValue d h dump t start p c x bits → IsClearBy d h dump t start K x bits

-- what is clear at t by this number of rounds of the rules
abbrev pub clear_in : Design → Habit → BoundDump → ℕ → PartialMap → ℕ → PartialMap
clear_in d h dump t start zero = nothing_known
clear_in d h dump t start (suc n) = IsClearBy d h dump t start (clear_in d h dump t start n)

-- what is clear at t, from what was clear at the start of t
abbrev pub clear_from : Design → Habit → BoundDump → ℕ → PartialMap → PartialMap
clear_from d h dump t start x bits = (n : ℕ) × clear_in d h dump t start n x bits

-- what is clear at the end of the step at t: in some round
abbrev pub clear : Design → Habit → BoundDump → ℕ → PartialMap
clear d h dump zero = clear_from d h dump 0 nothing_known
clear d h dump (suc t) = clear_from d h dump (suc t) (clear d h dump t)

-- from what the rules at t begin: nothing at 0, else what is clear the moment before
abbrev pub clear_start : Design → Habit → BoundDump → ℕ → PartialMap
clear_start d h dump zero = nothing_known
clear_start d h dump (suc t) = clear d h dump t

-- what is clear at the start of t
abbrev pub clear_before : Design → Habit → BoundDump → ℕ → PartialMap
clear_before d h dump t = clear d h dump (t - 1)

-- at a window time bound signal s may not move, and its value at the start is forced; else a rule would give it this value
pub data IsForcedBy (d : Design) (h : Habit) (dump : BoundDump) (t : ℕ) (s : ℕ) (bits : List Bit) : Type 0 where
  at_first : IsFirst dump t → IsNetValue d (clear d h dump t) s bits → IsForcedBy d h dump t s bits
  first_comb : (p : ℕ) → IsFirst dump t → IsCombValue d dump t (clear d h dump t) p s bits → IsForcedBy d h dump t s bits
  unmoved : IsWindow dump t → (MayMoveAt d dump t s → ⊥) → bits ≡ signal_bits d (dump.values (t - 1)) s → IsForcedBy d h dump t s bits
  by_net : IsWindow dump t → MayMoveAt d dump t s → IsNetValue d (clear d h dump t) s bits → IsForcedBy d h dump t s bits
  by_comb : (p : ℕ) → IsWindow dump t → MayMoveAt d dump t s → IsCombValue d dump t (clear d h dump t) p s bits → IsForcedBy d h dump t s bits
  by_clocked : (p : ℕ) (c : Cell) → IsWindow dump t → MayMoveAt d dump t s → IsWrittenValue d h dump t (clear_before d h dump t) p c (a_signal s) bits → IsForcedBy d h dump t s bits

-- bound signal s, no input, has this forced value at listed time t
pub record IsForced (d : Design) (h : Habit) (dump : BoundDump) (t : ℕ) (s : ℕ) (bits : List Bit) : Type 0 where
  pub is_bound : dump.bound s ≡ true
  pub no_input : (signal_at d s).input ≡ false
  pub is_signal : IsSignal d s
  pub is_listed : IsListed dump t
  pub is_shown : IsShown dump t
  pub forced : IsForcedBy d h dump t s bits
