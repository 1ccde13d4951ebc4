-- The dump of a selfrun: its variables, and what it says at each time.
-- The codes of variables are bytes: 97 a, 99 c, 100 d, 112 p, 113 q, 119 w.
use Rattle.std.specs.Prelude.{ℕ, ◌==◌, false, if◌then◌else◌, List, [], ◌∷◌, codes, flat_map, map}
use Rattle.four_state.specs.Arithmetic.{low_bits}
use Rattle.four_state.specs.Vector.{Vector, bit_of}
use Rattle.vcd_reader.specs.Dump.{Dump, steps_of}
use Rattle.vcd_reader.specs.declared.entry.Entry.{Entry}
use Rattle.vcd_reader.specs.declared.entry.Entry.TheVariants.{Time, Value}
use Rattle.vcd_reader.specs.declared.vars.Var.{Var}
use Rattle.selfrun_files.specs.Samples.{Given, Sample, bit, samples, start, vector}

-- the name of the instance in the dump
abbrev pub scope : List ℕ
scope = codes "selfrun"

-- a variable of the instance
abbrev pub variable : List ℕ → List ℕ → ℕ → ℕ → Var
variable kind name size code = record { scope = scope; kind = kind; name = name; size = size; code = code }

-- the variables, of which the codes are numbered in order
abbrev pub variables : List Var
variables =
    variable (codes "wire") (codes "clk") 1 0
    ∷ variable (codes "wire") (codes "we") 1 1
    ∷ variable (codes "wire") (codes "a") 4 2
    ∷ variable (codes "wire") (codes "d") 8 3
    ∷ variable (codes "reg") (codes "p") 8 4
    ∷ variable (codes "reg") (codes "q") 8 5 ∷ []

-- the number of a code
abbrev pub number_of : ℕ → ℕ
number_of code = if code == 99 then 0 else if code == 119 then 1 else if code == 97 then 2 else if code == 100 then 3 else if code == 112 then 4 else 5

-- the value that is given
abbrev pub value_given : Given → Vector
value_given (bit code b) = record { bits = bit_of b ∷ []; signed = false }
value_given (vector code width value) = record { bits = low_bits width value; signed = false }

-- the code to which it is given
abbrev pub code_given : Given → ℕ
code_given (bit code b) = number_of code
code_given (vector code width value) = number_of code

-- it is said as a change
abbrev pub entry_of : Given → Entry
entry_of given = Value (code_given given) (value_given given)

-- a time, and what is given at it
abbrev pub sample_entries : Sample → List Entry
sample_entries sample = Time sample.time ∷ map entry_of sample.given

-- what the body says, from the number with this many steps
abbrev pub entries : ℕ → ℕ → List Entry
entries number steps = flat_map sample_entries (samples steps (start number))

-- the dump
abbrev pub selfrun_dump : ℕ → ℕ → Dump
selfrun_dump number steps = record { vars = variables; stretches = steps_of (entries number steps) ∷ [] }
