-- The dump from the number 1 with two steps.
use Rattle.std.specs.Prelude.{◌≡◌, ◌+◌, ◌*◌, ℕ, length, List, [], ◌∷◌, ◌++◌, codes, flat_map, map}
use Rattle.selfrun_files.specs.Inputs.{next_number}
use Rattle.selfrun_files.specs.Samples.{inputs_at, samples, start, after}
use Rattle.selfrun_files.specs.Source.{ended}
use Rattle.selfrun_files.specs.Text.{dump_text, header_text}

-- the two numbers, and the values of d that they give
pub record AreWorkedNumbers : Type 0 where
  pub first : next_number 1 ≡ 1015568748
  pub second : next_number 1015568748 ≡ 1586005467
  pub first_d : (inputs_at (start 1)).d ≡ 60
  pub second_d : (inputs_at (after (start 1))).d ≡ 94

-- the lines after the header
abbrev pub worked_lines : List (List ℕ)
worked_lines =
    codes "#0" ∷ codes "0c" ∷ codes "1w" ∷ codes "b0000 a" ∷ codes "b00111100 d" ∷ codes "b00000000 p" ∷ codes "b00000000 q"
    ∷ codes "#5" ∷ codes "1c" ∷ codes "b00111100 p" ∷ codes "b00000000 q"
    ∷ codes "#10" ∷ codes "0c" ∷ codes "1w" ∷ codes "b0001 a" ∷ codes "b01011110 d"
    ∷ codes "#15" ∷ codes "1c" ∷ codes "b01011110 p" ∷ codes "b00000000 q"
    ∷ codes "#20" ∷ codes "0c" ∷ []

-- the whole dump
abbrev pub IsWorkedDump : Type 0
IsWorkedDump = dump_text 1 2 ≡ header_text ++ flat_map ended worked_lines

-- how many times a dump with this many steps has
abbrev pub TimesLaw : Type 0
TimesLaw = (number steps : ℕ) → length (map (λ s. s.time) (samples steps (start number))) ≡ 2 * steps + 1
