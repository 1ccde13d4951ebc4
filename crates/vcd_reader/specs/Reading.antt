-- The words of a dump in order: what those so far mean.
use Rattle.std.specs.Prelude.{ℕ, ◌+◌, ◌-◌, nat_lt, Bool, true, false, bytes_eq, if◌then◌else◌, List, [], ◌∷◌, ◌++◌, length, Option, Some, None, Ok, Err}
use Rattle.std.specs.Option.{option_to_list}
use Rattle.vcd_reader.specs.Words.{Word}
use Rattle.vcd_reader.specs.Codes.{Code}
use Rattle.vcd_reader.specs.Header.{END, Declared, keyword_of, keyword_fault, field_fault, end_fault, with_section}
use Rattle.vcd_reader.specs.Body.{BodyReading, Said, next_word, start_body}
use Rattle.vcd_reader.specs.Answer.{Answer, unless}
use Rattle.vcd_reader.specs.declared.vars.Var.{Var}
use Rattle.vcd_reader.specs.declared.entry.Entry.{Entry}
use Rattle.vcd_reader.specs.declared.fault.DumpFault.{DumpFault}
use Rattle.vcd_reader.specs.declared.fault.DumpFault.TheVariants.{At}
use Rattle.vcd_reader.specs.declared.fault.DumpKind.TheVariants.{HeaderTooLong, DumpTooLong}
use Rattle.vcd_reader.specs.declared.keyword.Keyword.{Keyword}
use Rattle.vcd_reader.specs.declared.keyword.Keyword.TheVariants.{EndDefinitions}

-- a section that is open: its keyword and its first four fields
pub record Section : Type 0 where
  pub keyword : Keyword
  pub fields : List (List ℕ)

-- what is declared, and the section that is open
pub record HeaderReading : Type 0 where
  pub declared : Declared
  pub section : Option Section

-- the section with a field more, of which the first four are kept
abbrev pub with_field : Section → List ℕ → Section
with_field section field = record section { fields = if nat_lt (length section.fields) 4 then section.fields ++ field ∷ [] else section.fields }

-- the end of the definitions ends the header
abbrev pub is_last : Keyword → Bool
is_last EndDefinitions = true
is_last _ = false

-- a section that a keyword opens
abbrev pub opened : Declared → Option Keyword → HeaderReading
opened declared None = record { declared = declared; section = None }
opened declared (Some keyword) = record { declared = declared; section = Some (record { keyword = keyword; fields = [] }) }

-- the next word within a section
abbrev pub section_word : Declared → Section → Word → Answer (Bool × HeaderReading)
section_word declared section word =
    if bytes_eq word.bytes END
    then unless (end_fault section.keyword (length section.fields) word.at) (is_last section.keyword, record { declared = with_section declared section.keyword section.fields; section = None })
    else unless (field_fault declared.codes section.keyword section.fields word) (false, record { declared = declared; section = Some (with_field section word.bytes) })

-- the next word where this section is open, or none
abbrev pub word_in : Declared → Option Section → Word → Answer (Bool × HeaderReading)
word_in declared None word = unless (keyword_fault (length declared.scopes) (keyword_of word.bytes) word.at) (false, opened declared (keyword_of word.bytes))
word_in declared (Some section) word = section_word declared section word

-- the next word of the header, and whether it is the last
abbrev pub header_word : HeaderReading → Word → Answer (Bool × HeaderReading)
header_word reading word = word_in reading.declared reading.section word

-- the next word of the header has these bytes and ends here, or there is no next word
abbrev pub last_word : HeaderReading → ℕ → List ℕ → Answer (Bool × HeaderReading)
last_word reading end [] = Ok (false, reading)
last_word reading end (byte ∷ bytes) = header_word reading (record { at = end - length (byte ∷ bytes); bytes = byte ∷ bytes })

-- a dump in its body: the header's variables and codes, what was said so far, and what reading is in the middle of
pub record Body : Type 0 where
  pub vars : List Var
  pub codes : List Code
  pub items : List Entry
  pub reading : BodyReading

-- what words mean: a header that goes on, a body that goes on, or a fault
pub data Meaning : Type 0 where
  header : HeaderReading → Meaning
  body : Body → Meaning
  fault : DumpFault → Meaning

-- after the last word of the header
abbrev pub body_after : Declared → Body
body_after declared = record { vars = declared.vars; codes = declared.codes; items = []; reading = start_body }

abbrev pub after_header_word : Answer (Bool × HeaderReading) → Meaning
after_header_word (Ok (last, reading)) = if last then body (body_after reading.declared) else header reading
after_header_word (Err f) = fault f

abbrev pub after_body_word : Body → Answer Said → Meaning
after_body_word b (Ok (says, reading)) = body (record b { items = b.items ++ option_to_list says; reading = reading })
after_body_word b (Err f) = fault f

-- how many bytes a text can have while its words mean this; a fault leaves no room
abbrev pub room_of : Meaning → ℕ
room_of (header reading) = 67108864
room_of (body b) = 1099511627776
room_of (fault f) = 0

-- the fault where there is no more room
abbrev pub stop_of : Meaning → DumpFault
stop_of (header reading) = At HeaderTooLong 67108864
stop_of (body b) = At DumpTooLong 1099511627776
stop_of (fault f) = f

-- one word more, for which there is room
abbrev pub reading_on : Meaning → Word → Meaning
reading_on (header reading) word = after_header_word (header_word reading word)
reading_on (body b) word = after_body_word b (next_word b.codes b.reading word)
reading_on (fault f) word = fault f

-- one word more
abbrev pub with_word : Meaning → Word → Meaning
with_word means word = if nat_lt (room_of means) (word.at + length word.bytes) then fault (stop_of means) else reading_on means word

-- words after what has a meaning
abbrev pub meaning_after : Meaning → List Word → Meaning
meaning_after before [] = before
meaning_after before (word ∷ words) = meaning_after (with_word before word) words

-- before the first word
abbrev pub start_reading : HeaderReading
start_reading = record { declared = record { vars = []; codes = []; scopes = [] }; section = None }

abbrev pub start : Meaning
start = header start_reading

-- what words mean
abbrev pub meaning_of : List Word → Meaning
meaning_of words = meaning_after start words
