-- Codes as the table keeps them.
use Rattle.std.specs.Prelude.{ℕ, nat_lt, List, [], ◌∷◌, length, Option}
use Rattle.std.specs.Global.{Vec}
use Rattle.vcd_reader.specs.Codes.{Code}
use Rattle.vcd_reader.specs.Answer.{Answer, fault_if, unless}
use Rattle.vcd_reader.specs.Body.{value_of}
use Rattle.vcd_reader.specs.declared.entry.Entry.{Entry}
use Rattle.vcd_reader.specs.declared.fault.DumpKind.TheVariants.{VectorTooLong}
use Rattle.vcd_reader.specs.declared.codes.Code.{Code as CodeRow}

-- a code without its bytes
abbrev pub without_text : Code → CodeRow
without_text code = record { number = code.number; size = code.size; is_read = code.is_read }

-- a code of these bytes
abbrev pub with_text : List ℕ → CodeRow → Code
with_text text code = record { text = text; number = code.number; size = code.size; is_read = code.is_read }

-- codes beside their bytes
abbrev pub codes_in : List (Vec ℕ) → List CodeRow → List Code
codes_in (text ∷ texts) (code ∷ codes) = with_text text.items code ∷ codes_in texts codes
codes_in _ _ = []

-- the value of a code that is found, for the digits of a change that begins here
abbrev pub value_for : CodeRow → List ℕ → ℕ → Answer (Option Entry)
value_for code word first = unless (fault_if (nat_lt code.size (length word)) VectorTooLong first) (value_of code.is_read code.number code.size word)
