-- What the dump of a text says of a design.
use Rattle.std.specs.Prelude.{ℕ, nat_le, is_some, Bool, false, if◌then◌else◌, List, [], ◌∷◌, map, slice_index_or, Option, Some, None}
use Rattle.four_state.specs.Vector.{Vector}
use Rattle.four_state.specs.declared.bit.Bit.{Bit}
use Rattle.four_state.specs.declared.bit.Bit.TheVariants.{X}
use Rattle.design_model.specs.Shows.{BoundDump}
use Rattle.design_model.specs.declared.design.Design.{Design}
use Rattle.vcd_reader.specs.Dump.{Dump, DumpStep, times_of, value_at}
use Rattle.signal_binding.specs.Binding.{codes_of}

-- the bit of a value at a place above the lowest one; x where there is no such bit
abbrev pub bit_at : Option Vector → ℕ → Bit
bit_at None place = X
bit_at (Some value) place = slice_index_or value.bits place X

-- the code of the signal with this number, if it has one
abbrev pub code_at : List (Option ℕ) → ℕ → Option ℕ
code_at codes s = slice_index_or codes s None

-- the value of a code at a time, if there is one
abbrev pub value_of_code : List DumpStep → ℕ → Option ℕ → Option Vector
value_of_code steps time None = None
value_of_code steps time (Some code) = value_at steps code time

-- a stretch has begun by a time
abbrev pub has_begun : List DumpStep → ℕ → Bool
has_begun [] time = false
has_begun (step ∷ steps) time = nat_le step.time time

-- the last of some stretches that has begun by a time, and the first where none has
abbrev pub stretch_from : List DumpStep → List (List DumpStep) → ℕ → List DumpStep
stretch_from steps [] time = steps
stretch_from steps (next ∷ later) time = stretch_from (if has_begun next time then next else steps) later time

abbrev pub stretch_at : List (List DumpStep) → ℕ → List DumpStep
stretch_at [] time = []
stretch_at (steps ∷ later) time = stretch_from steps later time

-- what stretches of steps say of signals with these codes: the times, which signals have a code, and their bits at each time; read by first rounds, where nothing is said of others
abbrev pub dump_of : List (Option ℕ) → List (List DumpStep) → BoundDump
dump_of codes stretches = record {
  stretches = map times_of stretches;
  bound = λ s. is_some (code_at codes s);
  values = λ time c. bit_at (value_of_code (stretch_at stretches time) time (code_at codes c.thing)) c.place;
  round = λ time. 0;
}

-- what the dump says of the design, of which the instance is the top
abbrev pub bound_dump : Design → Dump → List ℕ → BoundDump
bound_dump design dump instance = dump_of (codes_of design dump.vars instance) dump.stretches
