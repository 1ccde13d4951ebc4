-- What the texts of the processes of a design may write is what their machine may write.
use Rattle.std.specs.Prelude.{◌≡◌, ◌↔◌, ◌+◌, ◌<◌, ℕ, Bool, true, false, length}
use Rattle.std.specs.List.{Contains}
use Rattle.design_model.specs.event_machine.Cell.{Cell}
use Rattle.design_model.specs.Design.{Design, body_at}
use Rattle.design_model.specs.Machine.{machine}
use Rattle.design_targets.specs.Written.{written}

-- a test of cells holds of some cell of signal or memory x
abbrev pub SomeCell : (Cell → Bool) → ℕ → Type 0
SomeCell test x = (c : Cell) × (c.thing ≡ x) × (test c ≡ true)

-- the lists of a process have the signals and memories of the cells that it may write
abbrev pub BlockingLaw : Design → Type 0
BlockingLaw d = (p x : ℕ) → Contains (written true (body_at d p)) x ↔ SomeCell ((machine d).blocking p) x

abbrev pub NonblockingLaw : Design → Type 0
NonblockingLaw d = (p x : ℕ) → Contains (written false (body_at d p)) x ↔ SomeCell ((machine d).nonblocking p) x

-- what a process may write is of the design
abbrev pub WithinLaw : Design → Type 0
WithinLaw d = (b : Bool) (p x : ℕ) → Contains (written b (body_at d p)) x → x < length d.signals + length d.memories
