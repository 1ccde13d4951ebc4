-- A dump with all kinds of words.
use Rattle.std.specs.Prelude.{ℕ, true, false, List, [], ◌∷◌, ◌++◌, codes, Some}
use Rattle.four_state.specs.declared.Bit.{Bit}
use Rattle.four_state.specs.declared.Bit.TheVariants.{Zero, One, X}
use Rattle.vcd_reader.specs.Body.{nothing}
use Rattle.vcd_reader.specs.Reading.{Body}
use Rattle.vcd_reader.specs.declared.entry.Entry.{Entry}
use Rattle.vcd_reader.specs.declared.entry.Entry.TheVariants.{Time, Value, Off, On}

-- the header
abbrev pub header_text : List ℕ
header_text = codes "$date x $end\n$scope module tb $end\n$var wire 1 ! c $end\n$var reg 4 $a v [3:0] $end\n$var real 64 r r $end\n$upscope $end\n$enddefinitions $end\n"

-- the text
abbrev pub example_text : List ℕ
example_text = header_text ++ codes "0!\n#0\n$dumpvars bx1 $a r1.5 r $end\n#5 #5\n$comment #4 $end\n1!\n$dumpoff x! $end\n#8\n$dumpon 0! $end\n#9\n"

-- a change of a code to these bits, the lowest first
abbrev pub changed : ℕ → List Bit → Entry
changed code bits = Value code (record { bits = bits; signed = false })

-- its dump
abbrev pub example_body : Body
example_body = record {
  vars = record { scope = codes "tb"; kind = codes "wire"; name = codes "c"; size = 1; code = 0 }
      ∷ record { scope = codes "tb"; kind = codes "reg"; name = codes "v"; size = 4; code = 1 }
      ∷ record { scope = codes "tb"; kind = codes "real"; name = codes "r"; size = 64; code = 2 } ∷ [];
  codes = record { text = codes "!"; number = 0; size = 1; is_read = true }
      ∷ record { text = codes "$a"; number = 1; size = 4; is_read = true }
      ∷ record { text = codes "r"; number = 2; size = 64; is_read = false } ∷ [];
  items = changed 0 (Zero ∷ []) ∷ Time 0 ∷ changed 1 (One ∷ X ∷ X ∷ X ∷ []) ∷ Time 5 ∷ changed 0 (One ∷ []) ∷ Off ∷ On (Some 8) ∷ changed 0 (Zero ∷ []) ∷ Time 9 ∷ [];
  reading = record { past = record { last = Some 9; is_on = true; stretches = 2 }; begun = nothing };
}
