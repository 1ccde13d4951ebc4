-- What is early for a clean block at a time of the dump.
use Rattle.std.specs.Prelude.{ℕ}
use Rattle.event_machine.specs.Cell.{Cell}
use Rattle.event_machine.specs.Habit.{Habit}
use Rattle.event_machine.specs.Early.{IsEarly}
use Rattle.design_model.specs.Design.{Design}
use Rattle.design_model.specs.Machine.{machine}
use Rattle.design_model.specs.Shows.{BoundDump}
use Rattle.design_model.specs.MayMove.{IsSingleAt, told_at}

-- x is early for block p with trigger c
abbrev pub IsEarlyAt : Design → Habit → BoundDump → ℕ → ℕ → Cell → ℕ → Type 0
IsEarlyAt d h dump t p c x = IsEarly (machine d) (told_at dump t) (IsSingleAt d dump t) h p c x
