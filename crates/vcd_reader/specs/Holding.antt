-- What the parts of the code keep: the bytes of a word of which a few numbers are kept.
-- Bytes are written as numbers: 35 number sign, 66 B, 98 b.
use Rattle.std.specs.Prelude.{◌≡◌, ◌≤◌, ℕ, ◌^◌, min, nat_lt, Bool, true, false, ◌⊎◌, if◌then◌else◌, List, [], ◌∷◌, length, take, Option, Result, Ok, Err}
use Rattle.std.specs.List.{list_all}
use Rattle.std.specs.Char.{digit_value}
use Rattle.cov_host.specs.Decimal.{decimal_value}
use Rattle.four_state.specs.Masks.{is_strange}
use Rattle.vcd_reader.specs.Words.{Word}
use Rattle.vcd_reader.specs.Values.{is_digit, digit_bit, digit_bits}
use Rattle.vcd_reader.specs.Masks.{AreMasksOf}
use Rattle.vcd_reader.specs.Body.{Begun, nothing, digits, passed, comment, behind_letter, is_marker, has_begun, BodyReading, Said}
use Rattle.vcd_reader.specs.Answer.{Answer}
use Rattle.vcd_reader.specs.declared.fault.DumpFault.{DumpFault}
use Rattle.vcd_reader.specs.declared.time_digits.TimeDigits.{TimeDigits}
use Rattle.vcd_reader.specs.declared.digits.Digits.{Digits}
use Rattle.vcd_reader.specs.declared.spelling.Spelling.{Spelling}
use Rattle.vcd_reader.specs.declared.word.Word.{Word as WordRow}
use Rattle.vcd_reader.specs.declared.word.Word.TheVariants as word_row
use Rattle.vcd_reader.specs.declared.reading.VectorStart.{VectorStart}
use Rattle.vcd_reader.specs.declared.reading.Begun.{Begun as BegunRow}
use Rattle.vcd_reader.specs.declared.reading.Begun.TheVariants as begun_row
use Rattle.vcd_reader.specs.declared.reading.Reading.{Reading as ReadingRow}
use Rattle.vcd_reader.specs.declared.reading.Change.{Change}
use Rattle.vcd_reader.specs.declared.says.Says.{Says}
use Rattle.vcd_reader.specs.declared.entry.Entry.{Entry}
use Rattle.vcd_reader.specs.declared.past.Past.{Past}
use Rattle.vcd_reader.specs.declared.filter.Filter.{Filter}
use Rattle.vcd_reader.specs.Hearing.{change_by, heard, said_by}

-- each byte is a decimal digit
abbrev pub all_decimal : List ℕ → Bool
all_decimal word = list_all (λ byte. nat_lt (digit_value byte) 10) word

-- what is kept of the digits of a time
pub record IsTimeDigits (kept : TimeDigits) (word : List ℕ) : Type 0 where
  pub some : kept.is_some ≡ nat_lt 0 (length word)
  pub decimal : kept.is_decimal ≡ all_decimal word
  pub value : kept.is_decimal ≡ true → kept.value ≡ min (decimal_value word) (2 ^ 63)

-- whether the first digit is x or z
abbrev pub begins_strange : List ℕ → Bool
begins_strange [] = false
begins_strange (digit ∷ word) = is_strange (digit_bit digit)

-- what is kept of the digits of a value
pub record AreDigitsOf (kept : Digits) (word : List ℕ) : Type 0 where
  pub count : kept.count ≡ min (length word) (2 ^ 32)
  pub each : kept.are_digits ≡ list_all is_digit word
  pub masks : length word ≤ 128 → AreMasksOf (digit_bits word) kept.masks
  pub goes_on : kept.goes_on ≡ begins_strange word

-- what is kept of another word: its first nine bytes, and whether there are more
pub record IsSpelling (kept : Spelling) (word : List ℕ) : Type 0 where
  pub bytes : take kept.len kept.bytes ≡ take 9 word
  pub len : kept.len ≡ min (length word) 9
  pub is_long : kept.is_long ≡ nat_lt 9 (length word)

-- the word begins with no marker
abbrev pub has_no_marker : List ℕ → Bool
has_no_marker [] = false
has_no_marker (byte ∷ word) = if is_marker byte then false else true

-- the word is one of any bytes, or begins with no marker
abbrev pub is_other : Bool → List ℕ → Bool
is_other has_begun word = if has_begun then nat_lt 0 (length word) else has_no_marker word

-- `#` and the digits of a time
pub record IsTimeWord (kept : TimeDigits) (has_begun : Bool) (bytes : List ℕ) : Type 0 where
  pub first : has_begun ≡ false
  pub word : List ℕ
  pub bytes_are : bytes ≡ 35 ∷ word
  pub digits : IsTimeDigits kept word

-- `b` or `B` and the digits of a value
pub record IsDigitsWord (kept : Digits) (has_begun : Bool) (bytes : List ℕ) : Type 0 where
  pub first : has_begun ≡ false
  pub letter : ℕ
  pub word : List ℕ
  pub is_letter : (letter ≡ 98) ⊎ (letter ≡ 66)
  pub bytes_are : bytes ≡ letter ∷ word
  pub digits : AreDigitsOf kept word

-- another word
pub record IsOtherWord (kept : Spelling) (has_begun : Bool) (bytes : List ℕ) : Type 0 where
  pub other : is_other has_begun bytes ≡ true
  pub spelling : IsSpelling kept bytes

-- what is kept of the word that may go on, where something has begun or not
abbrev pub IsWord : WordRow → Bool → List ℕ → Type 0
IsWord word_row.None has_begun bytes = bytes ≡ []
IsWord (word_row.Time kept) has_begun bytes = IsTimeWord kept has_begun bytes
IsWord (word_row.Digits kept) has_begun bytes = IsDigitsWord kept has_begun bytes
IsWord (word_row.Other kept) has_begun bytes = IsOtherWord kept has_begun bytes

-- what is kept of the first word of a change
pub record IsVectorStart (kept : VectorStart) (first : Word) : Type 0 where
  pub at : kept.at ≡ first.at
  pub word : AreDigitsOf kept.digits (behind_letter first.bytes)

-- what is kept of what has begun
abbrev pub IsBegun : BegunRow → Begun → Type 0
IsBegun begun_row.Nothing nothing = Unit {0}
IsBegun (begun_row.Digits kept) (digits first) = IsVectorStart kept first
IsBegun begun_row.Passed passed = Unit {0}
IsBegun begun_row.Comment comment = Unit {0}
IsBegun _ _ = ⊥

pub record IsReading (kept : ReadingRow) (reading : BodyReading) : Type 0 where
  pub past : kept.past ≡ reading.past
  pub begun : IsBegun kept.begun reading.begun

-- what came before, where nothing has begun
abbrev pub IsAtRest : ReadingRow → Past → Type 0
IsAtRest kept past = IsReading kept (record { past = past; begun = nothing })

-- what was answered, and what is kept, is what is heard of a word that says this
pub record IsSaid (f : Filter) (answered : Says) (kept : ReadingRow) (said : Said) : Type 0 where
  pub says : said_by answered kept ≡ heard f said.0
  pub reading : IsReading kept said.1

-- what was answered is what the definitions answer
abbrev pub Gives : Filter → Result Says DumpFault → ReadingRow → Answer Said → Type 0
Gives f (Ok says) kept (Ok said) = IsSaid f says kept said
Gives f (Err fault) kept (Err other) = fault ≡ other
Gives f _ kept _ = ⊥

-- the same for a change, of which the answer is whether it is heard
abbrev pub GivesChange : Filter → Result Bool DumpFault → Change → Answer (Option Entry) → Type 0
GivesChange f (Ok is_heard) change (Ok says) = change_by is_heard change ≡ heard f says
GivesChange f (Err fault) change (Err other) = fault ≡ other
GivesChange f _ change _ = ⊥
