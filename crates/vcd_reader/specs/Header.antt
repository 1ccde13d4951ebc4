-- The header of a dump (IEEE 1364-2001 clause 18.2.3): sections, what they declare, and which of their words is a fault.
-- A section is a keyword, fields and `$end`, which always ends it.
-- Bytes are written as numbers: 36 dollar sign, 46 dot, 91 open bracket; 33 to 126 are printable and no space.
use Rattle.std.specs.Prelude.{ℕ, ◌-◌, ◌==◌, nat_le, nat_lt, Bool, false, not, ◌&&◌, bytes_eq, if◌then◌else◌, List, [], ◌∷◌, ◌++◌, take, length, codes, is_none, Option, Some, None, option_map}
use Rattle.std.specs.List.{list_all, before_first, join_with_byte}
use Rattle.std.specs.Char.{digit_value}
use Rattle.std.specs.Option.{option_map_or}
use Rattle.cov_host.specs.Decimal.{decimal_value}
use Rattle.vcd_reader.specs.Words.{Word}
use Rattle.vcd_reader.specs.Codes.{Code, code_of, with_code, is_unread_kind}
use Rattle.vcd_reader.specs.Answer.{fault_if}
use Rattle.vcd_reader.specs.declared.vars.Var.{Var}
use Rattle.vcd_reader.specs.declared.fault.DumpKind.TheVariants.{BadHeader, LongCode, DeepScope}
use Rattle.vcd_reader.specs.declared.fault.DumpFault.{DumpFault}
use Rattle.vcd_reader.specs.declared.fault.DumpFault.TheVariants.{At}
use Rattle.vcd_reader.specs.declared.keyword.Keyword.{Keyword}
use Rattle.vcd_reader.specs.declared.keyword.Keyword.TheVariants.{Scope, Upscope, Variable, EndDefinitions, Passed}

-- the word that ends a section
abbrev pub END : List ℕ
END = codes "$end"

-- any other word with a dollar sign opens a section that is passed over
abbrev pub passed_keyword : List ℕ → Option Keyword
passed_keyword [] = None
passed_keyword (byte ∷ bytes) = if byte == 36 then Some Passed else None

-- the section that a word opens
abbrev pub keyword_of : List ℕ → Option Keyword
keyword_of word =
    if bytes_eq word (codes "$scope") then Some Scope
    else if bytes_eq word (codes "$upscope") then Some Upscope
    else if bytes_eq word (codes "$var") then Some Variable
    else if bytes_eq word (codes "$enddefinitions") then Some EndDefinitions
    else passed_keyword word

-- what sections have declared: the variables, their codes, and the names of the open scopes, the outermost first
pub record Declared : Type 0 where
  pub vars : List Var
  pub codes : List Code
  pub scopes : List (List ℕ)

-- a word that begins a section: it opens none, or a 65th scope, or it closes a scope where none is open
abbrev pub keyword_fault : ℕ → Option Keyword → ℕ → Option DumpFault
keyword_fault depth None at = Some (At BadHeader at)
keyword_fault depth (Some Scope) at = fault_if (nat_le 64 depth) DeepScope at
keyword_fault depth (Some Upscope) at = fault_if (depth == 0) BadHeader at
keyword_fault depth (Some _) at = None

-- one or more decimal digits
abbrev pub is_decimal : List ℕ → Bool
is_decimal word = nat_lt 0 (length word) && list_all (λ byte. nat_lt (digit_value byte) 10) word

-- a decimal number from 1 to 999,999,999
abbrev pub size_of : List ℕ → Option ℕ
size_of word = if is_decimal word && nat_le 1 (decimal_value word) && nat_le (decimal_value word) 999999999 then Some (decimal_value word) else None

-- a printable byte, which is no space
abbrev pub is_printable : ℕ → Bool
is_printable byte = nat_le 33 byte && nat_le byte 126

-- whether the size is this number
abbrev pub is_of_size : Option ℕ → ℕ → Bool
is_of_size None number = false
is_of_size (Some size) number = size == number

-- a code that was declared with another size
abbrev pub has_other_size : Option ℕ → Option ℕ → Bool
has_other_size size None = false
has_other_size size (Some known) = not (is_of_size size known)

-- the size that a code was declared with
abbrev pub size_in : List Code → List ℕ → Option ℕ
size_in table text = option_map (λ code. code.size) (code_of table text)

-- The code of a variable of this size: the first of its bytes that is not printable or one too many is the fault.
abbrev pub code_fault : List Code → Option ℕ → Word → Option DumpFault
code_fault table size word =
    if not (list_all is_printable (take 9 word.bytes)) then Some (At BadHeader word.at)
    else if nat_lt 8 (length word.bytes) then Some (At LongCode word.at)
    else fault_if (has_other_size size (size_in table word.bytes)) BadHeader word.at

-- the next field of a variable, after these
abbrev pub variable_fault : List Code → List (List ℕ) → Word → Option DumpFault
variable_fault table (kind ∷ []) word = fault_if (is_none (size_of word.bytes)) BadHeader word.at
variable_fault table (kind ∷ size ∷ []) word = code_fault table (size_of size) word
variable_fault table _ word = None

-- The next field of a section, after these: a scope has at most two, and the end of a scope or of the definitions has no fields.
abbrev pub field_fault : List Code → Keyword → List (List ℕ) → Word → Option DumpFault
field_fault table Scope fields word = fault_if (nat_le 2 (length fields)) BadHeader word.at
field_fault table Upscope fields word = Some (At BadHeader word.at)
field_fault table Variable fields word = variable_fault table fields word
field_fault table EndDefinitions fields word = Some (At BadHeader word.at)
field_fault table Passed fields word = None

-- the end of a section after this number of fields: a scope has one at least, a variable four
abbrev pub end_fault : Keyword → ℕ → ℕ → Option DumpFault
end_fault Scope count at = fault_if (count == 0) BadHeader at
end_fault Variable count at = fault_if (nat_lt count 4) BadHeader at
end_fault _ count at = None

-- a reference up to its first bracket
abbrev pub name_of : List ℕ → List ℕ
name_of reference = before_first (λ byte. byte == 91) reference

-- the name of a scope, which is empty where it has a kind alone
abbrev pub scope_name : List (List ℕ) → List ℕ
scope_name (kind ∷ name ∷ others) = name
scope_name _ = []

-- the number that a code has, or gets
abbrev pub number_of : List Code → List ℕ → ℕ
number_of table code = option_map_or (λ known. known.number) (code_of table code) (length table)

-- one variable more, if it has a size
abbrev pub with_variable : Declared → List ℕ → Option ℕ → List ℕ → List ℕ → Declared
with_variable declared kind None code reference = declared
with_variable declared kind (Some size) code reference = record declared {
  vars = declared.vars ++ record { scope = join_with_byte 46 declared.scopes; kind = kind; name = name_of reference; size = size; code = number_of declared.codes code } ∷ [];
  codes = with_code declared.codes code size (not (is_unread_kind kind));
}

-- what a variable declares by its fields
abbrev pub with_fields : Declared → List (List ℕ) → Declared
with_fields declared (kind ∷ size ∷ code ∷ reference ∷ others) = with_variable declared kind (size_of size) code reference
with_fields declared _ = declared

-- one scope more inside the others
abbrev pub with_scope : Declared → List (List ℕ) → Declared
with_scope declared fields = record declared { scopes = declared.scopes ++ scope_name fields ∷ [] }

-- the innermost scope closed
abbrev pub without_scope : Declared → Declared
without_scope declared = record declared { scopes = take (length declared.scopes - 1) declared.scopes }

-- what is declared after a whole section
abbrev pub with_section : Declared → Keyword → List (List ℕ) → Declared
with_section declared Scope fields = with_scope declared fields
with_section declared Upscope fields = without_scope declared
with_section declared Variable fields = with_fields declared fields
with_section declared EndDefinitions fields = declared
with_section declared Passed fields = declared
