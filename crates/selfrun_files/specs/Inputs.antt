-- The inputs of the design beside the clock, step by step.
use Rattle.std.specs.Prelude.{ℕ, nat_lt, ◌+◌, ◌*◌, ◌/◌, ◌%◌, ◌^◌, ◌==◌, true, if◌then◌else◌}
use Rattle.selfrun_files.specs.declared.inputs.Inputs.{Inputs}

-- the number that follows
abbrev pub next_number : ℕ → ℕ
next_number x = (1664525 * x + 1013904223) % 2 ^ 32

-- d is bits 31 to 24 of the number of the step, we bit 23 and a bits 22 to 19
abbrev pub drawn : ℕ → Inputs
drawn x = record { we = x / 2 ^ 23 % 2 == 1; a = x / 2 ^ 19 % 16; d = x / 2 ^ 24 }

-- the inputs in the step; the first 16 steps write the words one after the other
abbrev pub inputs_of : ℕ → ℕ → Inputs
inputs_of step x = if nat_lt step 16 then record (drawn x) { we = true; a = step } else drawn x
