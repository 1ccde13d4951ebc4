-- What the dump gives at each time.
-- The codes of variables are bytes: 97 a, 99 c, 100 d, 112 p, 113 q, 119 w.
use Rattle.std.specs.Prelude.{ℕ, zero, suc, ◌+◌, ◌*◌, ◌==◌, Bool, true, false, if◌then◌else◌, List, [], ◌∷◌}
use Rattle.selfrun_files.specs.Inputs.{inputs_of, next_number}
use Rattle.selfrun_files.specs.Registers.{clocked, no_values}
use Rattle.selfrun_files.specs.declared.inputs.Inputs.{Inputs}
use Rattle.selfrun_files.specs.declared.moment.Moment.{Moment}

-- a variable, by its code, is given a bit, or this many lowest bits of a value
pub data Given : Type 0 where
  bit : ℕ → Bool → Given
  vector : ℕ → ℕ → ℕ → Given

-- what is given at a time
pub record Sample : Type 0 where
  pub time : ℕ
  pub given : List Given

-- before the first step
abbrev pub start : ℕ → Moment
start number = record { number = number; step = 0; registers = no_values }

-- the inputs in the step that follows the moment
abbrev pub inputs_at : Moment → Inputs
inputs_at m = inputs_of m.step (next_number m.number)

-- the moment after that step
abbrev pub after : Moment → Moment
after m = record { number = next_number m.number; step = m.step + 1; registers = clocked (inputs_at m) m.registers }

-- the registers are 0
abbrev pub first_values : List Given
first_values = vector 112 8 0 ∷ vector 113 8 0 ∷ []

-- what is given of the registers where a step begins: they are 0 at the first time
abbrev pub given_first : ℕ → List Given
given_first step = if step == 0 then first_values else []

-- the step begins: the clock is 0, and the inputs are those of the step
abbrev pub low : Moment → Sample
low m = record {
  time = 10 * m.step;
  given = bit 99 false ∷ bit 119 (inputs_at m).we ∷ vector 97 4 (inputs_at m).a ∷ vector 100 8 (inputs_at m).d ∷ given_first m.step;
}

-- the step ends: the clock is 1, and the registers are what the edge made of them
abbrev pub high : Moment → Sample
high m = record { time = 10 * m.step + 5; given = bit 99 true ∷ vector 112 8 (after m).registers.p ∷ vector 113 8 (after m).registers.q ∷ [] }

-- the last time: the clock is 0
abbrev pub last : Moment → Sample
last m = record { time = 10 * m.step; given = bit 99 false ∷ [] }

-- what is given in this number of steps from the moment on, and after them
abbrev pub samples : ℕ → Moment → List Sample
samples zero m = last m ∷ []
samples (suc n) m = low m ∷ high m ∷ samples n (after m)
