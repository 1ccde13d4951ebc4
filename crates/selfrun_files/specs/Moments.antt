-- The moments between the steps.
use Rattle.std.specs.Prelude.{ℕ, zero, suc}
use Rattle.selfrun_files.specs.Samples.{after, inputs_at, start}
use Rattle.selfrun_files.specs.declared.inputs.Inputs.{Inputs}
use Rattle.selfrun_files.specs.declared.moment.Moment.{Moment}
use Rattle.selfrun_files.specs.declared.registers.Registers.{Registers}

-- the moment after this number of steps
abbrev pub moment : ℕ → ℕ → Moment
moment number zero = start number
moment number (suc k) = after (moment number k)

-- the inputs in step k, from 0
abbrev pub inputs_in : ℕ → ℕ → Inputs
inputs_in number k = inputs_at (moment number k)

-- the registers and the words after this number of steps
abbrev pub registers_after : ℕ → ℕ → Registers
registers_after number k = (moment number k).registers
