-- The tables of a design.
use Rattle.std.specs.Prelude.{◌≡◌, ◌<◌, ◌+◌, ◌↔◌, ℕ, Bool, true, false, List, Option, Some, None, length, slice_index_or}
use Rattle.std.specs.List.{Contains}
use Rattle.event_machine.specs.Cell.{Cell}
use Rattle.event_machine.specs.Machine.{IsTarget, Posedge, Negedge}
use Rattle.design_model.specs.Design.{Design, body_at, cell, process_at}
use Rattle.design_model.specs.Machine.{events_of, is_event_signal, is_level, lists_edge, machine}
use Rattle.design_model.specs.Once.{names_once}
use Rattle.early_sets.specs.index_sets.Rows.{row_at}
use Rattle.early_sets.specs.wake_tables.declared.tables.WakeTables.{WakeTables}

-- a test of cells holds of some cell of thing x
abbrev pub HasCell : (Cell → Bool) → ℕ → Type 0
HasCell test x = (c : Cell) × (c.thing ≡ x) × (test c ≡ true)

-- the tables are those of the design, by what wakes each process and by the cells that it may write
pub record AreTablesOf (d : Design) (t : WakeTables) : Type 0 where
  pub things_are : t.things ≡ length d.signals + length d.memories
  pub processes_are : t.processes ≡ length d.processes
  pub level_is : (x p : ℕ) → x < t.things → Contains (row_at t.level x) p ↔ (is_level (process_at d p) x ≡ true)
  pub rising_is : (x p : ℕ) → x < t.things → Contains (row_at t.rising x) p ↔ (lists_edge (process_at d p) Posedge (cell x 0) ≡ true)
  pub falling_is : (x p : ℕ) → x < t.things → Contains (row_at t.falling x) p ↔ (lists_edge (process_at d p) Negedge (cell x 0) ≡ true)
  pub blocking_is : (p x : ℕ) → Contains (row_at t.blocking p) x ↔ HasCell ((machine d).blocking p) x
  pub nonblocking_is : (p x : ℕ) → Contains (row_at t.nonblocking p) x ↔ HasCell ((machine d).nonblocking p) x
  pub events_are : (p : ℕ) → row_at t.events p ≡ events_of (process_at d p)

-- x is a bound event signal that process p, which no level wakes, writes, by its text at most once in each evaluation
pub record IsOnceWriter (d : Design) (bound : ℕ → Bool) (x p : ℕ) : Type 0 where
  pub is_bound : bound x ≡ true
  pub is_event : is_event_signal d x ≡ true
  pub clocked : (y : ℕ) → is_level (process_at d p) y ≡ false
  pub writes : IsTarget (machine d) p (cell x 0)
  pub once : names_once (body_at d p) x ≡ true

-- the list gives for each thing that has such a writer this writer
pub record AreWritersOf (d : Design) (bound : ℕ → Bool) (things : ℕ) (writers : List (Option ℕ)) : Type 0 where
  pub count_is : length writers ≡ things
  pub is : (x p : ℕ) → x < things → (slice_index_or writers x None ≡ Some p) ↔ IsOnceWriter d bound x p
