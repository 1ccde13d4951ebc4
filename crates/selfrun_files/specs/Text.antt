-- The text of the dump (IEEE 1364-2001 clause 18).
-- Bytes are written as numbers: 10 line feed, 32 space, 35 number sign, 48 the digit 0, 98 b.
use Rattle.std.specs.Prelude.{ℕ, zero, suc, ◌+◌, ◌/◌, ◌%◌, ◌^◌, Bool, true, false, List, [], ◌∷◌, ◌++◌, codes, decimal, flat_map}
use Rattle.selfrun_files.specs.Samples.{Given, Sample, bit, samples, start, vector}
use Rattle.selfrun_files.specs.Source.{ended}

-- the lowest bits of a value, this many, as digits, the highest first
abbrev pub bit_digits : ℕ → ℕ → List ℕ
bit_digits zero value = []
bit_digits (suc n) value = (48 + value / 2 ^ n % 2) ∷ bit_digits n value

-- the digit of a bit
abbrev pub digit_of : Bool → ℕ
digit_of true = 49
digit_of false = 48

-- the line that gives a variable a bit
abbrev pub bit_line : ℕ → Bool → List ℕ
bit_line code b = digit_of b ∷ code ∷ 10 ∷ []

-- the line that gives a variable several bits
abbrev pub vector_line : ℕ → ℕ → ℕ → List ℕ
vector_line code width value = 98 ∷ bit_digits width value ++ 32 ∷ code ∷ 10 ∷ []

-- the line that gives a variable its value
abbrev pub line_of : Given → List ℕ
line_of (bit code b) = bit_line code b
line_of (vector code width value) = vector_line code width value

-- the line of a time
abbrev pub time_line : ℕ → List ℕ
time_line time = 35 ∷ decimal time ++ 10 ∷ []

-- a time, and what is given at it
abbrev pub sample_text : Sample → List ℕ
sample_text s = time_line s.time ++ flat_map line_of s.given

-- the variables, which are all signals of the design
abbrev pub header_text : List ℕ
header_text =
    flat_map ended
    (codes "$scope module selfrun $end"
    ∷ codes "$var wire 1 c clk $end"
    ∷ codes "$var wire 1 w we $end"
    ∷ codes "$var wire 4 a a $end"
    ∷ codes "$var wire 8 d d $end"
    ∷ codes "$var reg 8 p p $end"
    ∷ codes "$var reg 8 q q $end"
    ∷ codes "$upscope $end"
    ∷ codes "$enddefinitions $end" ∷ [])

-- the dump from this number with this many steps
abbrev pub dump_text : ℕ → ℕ → List ℕ
dump_text number steps = header_text ++ flat_map sample_text (samples steps (start number))
