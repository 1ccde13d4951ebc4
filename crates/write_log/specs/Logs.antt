-- A log, and what it says in the middle of undecided tests.
use Rattle.std.specs.Prelude.{◌≡◌, ℕ, Bool, true, false, not, if◌then◌else◌, List, [], ◌∷◌, ◌++◌, length, take, drop, Option, Some, None}
use Rattle.std.specs.Option.{unwrap_or}
use Rattle.std.specs.List.{All}
use Rattle.known_state.specs.Partly.{Partly}
use Rattle.value_store.specs.Signals.{Signals, no_value, read_at}
use Rattle.write_log.specs.Entries.{Fits, first_value}
use Rattle.write_log.specs.declared.entry.Overwritten.{Overwritten}
use Rattle.write_log.specs.declared.entry.Test.{Test}

-- a log: what was written and can be undone, what was undone and can be made again, the undecided tests around, the innermost
-- first, for how many entries and tests there is room, and of how many signals it is
pub record LogState : Type 0 where
  pub done : List Overwritten
  pub undone : List Overwritten
  pub tests : List Test
  pub room : ℕ
  pub depth : ℕ
  pub signals : ℕ

-- the log is of these signals, and its entries fit them
pub record IsLogOf (v : Signals) (l : LogState) : Type 0 where
  pub signals : l.signals ≡ length v.kept
  pub done : All (Fits v) l.done
  pub undone : All (Fits v) l.undone

-- a test is around
abbrev pub is_inside : List Test → Bool
is_inside [] = false
is_inside (t ∷ ts) = true

-- the first branch of the innermost test runs
abbrev pub is_first : List Test → Bool
is_first [] = false
is_first (t ∷ ts) = not t.second

-- its second one runs
abbrev pub is_second : List Test → Bool
is_second [] = false
is_second (t ∷ ts) = t.second

-- the log before a signal is written: outside of undecided tests nothing is added
abbrev pub kept_log : LogState → Signals → ℕ → LogState
kept_log l v s = if is_inside l.tests then record l { done = l.done ++ record { signal = s; value = read_at v s } ∷ [] } else l

-- what bodies read of each signal
abbrev pub Readings : Type 0
Readings = ℕ → Partly

-- what they read of the signals of a store
abbrev pub reads_of : Signals → Readings
reads_of v x = read_at v x

-- what they read after these writes are undone
abbrev pub undo : List Overwritten → Readings → Readings
undo es f x = first_value es x (f x)

-- an undecided test that is around: what bodies read when it began, and in its second branch what the first one left
pub record Around : Type 0 where
  pub test : ℕ  -- the thing to blame
  pub before : Readings
  pub left : Option Readings

-- the test that began with so many entries
abbrev pub around_of : Test → List Overwritten → Readings → Around
around_of t undone before = record { test = t.test; before = before; left = if t.second then Some (undo (drop t.undone undone) before) else None }

-- the tests around, by the entries that undo what was done in them, and those that make again what was undone
abbrev pub tests_of : List Test → List Overwritten → List Overwritten → Readings → List Around
tests_of [] done undone now = []
tests_of (t ∷ ts) done undone now =
    around_of t undone (undo (drop t.done done) now) ∷ tests_of ts (take t.done done) (take t.undone undone) (undo (drop t.done done) now)

-- the undecided tests around a log, where this is read now
abbrev pub around : LogState → Readings → List Around
around l now = tests_of l.tests l.done l.undone now

-- what represents a test where there is no test
abbrev pub no_test : Around
no_test = record { test = 0; before = λ x. no_value; left = None }

-- the innermost test
abbrev pub innermost : List Around → Around
innermost [] = no_test
innermost (a ∷ rest) = a

-- what its first branch left
abbrev pub left_of : List Around → Readings
left_of tests = unwrap_or (innermost tests).left (λ x. no_value)
