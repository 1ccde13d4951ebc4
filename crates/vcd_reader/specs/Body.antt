-- The body of a dump (IEEE 1364-2001 clauses 18.2.1 and 18.2.2): times, changes, and which word is a fault.
-- Bytes are written as numbers: 35 number sign, 66 B, 82 R, 83 S, 98 b, 114 r, 115 s.
use Rattle.std.specs.Prelude.{ℕ, ◌+◌, ◌==◌, ◌^◌, nat_le, nat_lt, Bool, true, false, not, ◌&&◌, ◌||◌, bytes_eq, if◌then◌else◌, List, [], ◌∷◌, length, codes, Option, Some, None, Ok, Err}
use Rattle.std.specs.List.{list_all}
use Rattle.cov_host.specs.Decimal.{decimal_value}
use Rattle.vcd_reader.specs.Words.{Word}
use Rattle.vcd_reader.specs.Codes.{Code, code_of}
use Rattle.vcd_reader.specs.Values.{is_digit, value_bits}
use Rattle.vcd_reader.specs.Header.{END, is_decimal}
use Rattle.vcd_reader.specs.Answer.{Answer, fault_if, unless}
use Rattle.vcd_reader.specs.declared.fault.DumpKind.TheVariants.{BadChange, UnknownCode, VectorTooLong, TimeBack, LongCode, Gap, TimeTooLarge}
use Rattle.vcd_reader.specs.declared.fault.DumpFault.{DumpFault}
use Rattle.vcd_reader.specs.declared.fault.DumpFault.TheVariants.{At}
use Rattle.vcd_reader.specs.declared.entry.Entry.{Entry}
use Rattle.vcd_reader.specs.declared.entry.Entry.TheVariants as entry
use Rattle.vcd_reader.specs.declared.past.Past.{Past}

-- what the words so far have begun: nothing, a change to the digits of a word, which has its code to come, a change
-- that is passed over, which has its code to come too, or a comment
pub data Begun : Type 0 where
  nothing : Begun
  digits : Word → Begun
  passed : Begun
  comment : Begun

-- what came before, and what has begun
pub record BodyReading : Type 0 where
  pub past : Past
  pub begun : Begun

-- before the first word of the body: the dump is on, and this is its first stretch
abbrev pub start_past : Past
start_past = record { last = None; is_on = true; stretches = 1 }

abbrev pub start_body : BodyReading
start_body = record { past = start_past; begun = nothing }

-- whether something has begun
abbrev pub has_begun : Begun → Bool
has_begun nothing = false
has_begun (digits first) = true
has_begun passed = true
has_begun comment = true

-- what a word says, if it says something, and how reading goes on
abbrev pub Said : Type 0
Said = Option Entry × BodyReading

-- a whole word, after which nothing has begun
abbrev pub said : Option Entry → Past → Said
said says past = (says, record { past = past; begun = nothing })

-- a word with which something begins
abbrev pub begins : Past → Begun → Said
begins past begun = (None, record { past = past; begun = begun })

-- a time that is less than the last one
abbrev pub is_back : Option ℕ → ℕ → Bool
is_back None time = false
is_back (Some last) time = nat_lt time last

-- a time is said where it is another one than the last
abbrev pub new_time : Option ℕ → ℕ → Option Entry
new_time None time = Some (entry.Time time)
new_time (Some last) time = if time == last then None else Some (entry.Time time)

-- the digits of a time that begins here
abbrev pub time_fault : Option ℕ → List ℕ → ℕ → Option DumpFault
time_fault last word at =
    if not (is_decimal word) then Some (At BadChange at)
    else if nat_le (2 ^ 63) (decimal_value word) then Some (At TimeTooLarge at)
    else fault_if (is_back last (decimal_value word)) TimeBack at

-- the value of a change, where the changes of the code are read and it has at most 128 bits
abbrev pub value_of : Bool → ℕ → ℕ → List ℕ → Option Entry
value_of is_read number size word = if is_read && nat_le size 128 then Some (entry.Value number (record { bits = value_bits size word; signed = false })) else None

-- the change of a code, if there is one, to the digits of a word; where the change begins, and where its code is
abbrev pub change_of : Option Code → List ℕ → ℕ → ℕ → Answer (Option Entry)
change_of None word first at = Err (At UnknownCode at)
change_of (Some code) word first at = unless (fault_if (nat_lt code.size (length word)) VectorTooLong first) (value_of code.is_read code.number code.size word)

-- the change to the digits of a word of the code of these bytes
abbrev pub change : List Code → List ℕ → ℕ → List ℕ → ℕ → Answer (Option Entry)
change table word first code at = if nat_lt 8 (length code) then Err (At LongCode at) else change_of (code_of table code) word first at

-- where the dump is off, a time or a change is read and dropped
abbrev pub recorded : Bool → Option Entry → Option Entry
recorded is_on says = if is_on then says else None

-- an item that the last word of it says
abbrev pub saying : Past → Answer (Option Entry) → Answer Said
saying past (Ok says) = Ok (said (recorded past.is_on says) past)
saying past (Err fault) = Err fault

-- whether the digits can be assigned to a vector
abbrev pub are_digits : List ℕ → Bool
are_digits word = nat_lt 0 (length word) && list_all is_digit word

-- the words that begin or end a group of changes, and say nothing
abbrev pub is_group_word : List ℕ → Bool
is_group_word word = bytes_eq word (codes "$dumpvars") || bytes_eq word (codes "$dumpall") || bytes_eq word END

-- how many stretches a dump can have
abbrev pub most_stretches : ℕ
most_stretches = 1024

-- a stretch ends where the dump is on; else this means nothing
abbrev pub goes_off : Past → Said
goes_off past = said (if past.is_on then Some entry.Off else None) (record past { is_on = false })

-- one stretch more begins
abbrev pub with_stretch : Past → Past
with_stretch past = record past { is_on = true; stretches = past.stretches + 1 }

-- a stretch begins at the last time, if there was one, where the dump is off; else this means nothing
abbrev pub goes_on : Past → ℕ → Answer Said
goes_on past at =
    if past.is_on then Ok (said None past)
    else if nat_le most_stretches past.stretches then Err (At Gap at)
    else Ok (said (Some (entry.On past.last)) (with_stretch past))

-- a word with these bytes that should begin with a dollar sign
abbrev pub dollar_word : List ℕ → ℕ → Past → Answer Said
dollar_word word at past =
    if is_group_word word then Ok (said None past)
    else if bytes_eq word (codes "$comment") then Ok (begins past comment)
    else if bytes_eq word (codes "$dumpoff") then Ok (goes_off past)
    else if bytes_eq word (codes "$dumpon") then goes_on past at
    else Err (At BadChange at)

-- the letters of changes of real variables and of strings
abbrev pub is_passed_letter : ℕ → Bool
is_passed_letter byte = byte == 114 || byte == 82 || byte == 115 || byte == 83

-- a word of one digit and a code
abbrev pub scalar : List Code → ℕ → List ℕ → ℕ → Answer (Option Entry)
scalar table digit code at = if length code == 0 then Err (At BadChange at) else change table (digit ∷ []) at code at

-- the first byte of a time or of the digits of a change
abbrev pub is_marker : ℕ → Bool
is_marker byte = byte == 35 || byte == 98 || byte == 66

-- this is the last time
abbrev pub at_time : Past → ℕ → Past
at_time past time = record past { last = Some time }

-- a time
abbrev pub time_word : List ℕ → ℕ → Past → Answer Said
time_word word at past = saying (at_time past (decimal_value word)) (unless (time_fault past.last word at) (new_time past.last (decimal_value word)))

-- the digits of a change, of which the code is to come
abbrev pub digits_word : List ℕ → Word → Past → Answer Said
digits_word word first past = unless (fault_if (not (are_digits word)) BadChange first.at) (begins past (digits first))

-- a word with these bytes, where nothing has begun
abbrev pub first_word : List Code → List ℕ → ℕ → Past → Answer Said
first_word table [] at past = Err (At BadChange at)
first_word table (byte ∷ bytes) at past =
    if byte == 35 then time_word bytes at past
    else if byte == 98 || byte == 66 then digits_word bytes (record { at = at; bytes = byte ∷ bytes }) past
    else if is_digit byte then saying past (scalar table byte bytes at)
    else if is_passed_letter byte then Ok (begins past passed)
    else dollar_word (byte ∷ bytes) at past

-- the digits of a word after its letter
abbrev pub behind_letter : List ℕ → List ℕ
behind_letter [] = []
behind_letter (letter ∷ word) = word

-- the next word, where this has begun
abbrev pub word_after : List Code → Begun → Word → Past → Answer Said
word_after table nothing word past = first_word table word.bytes word.at past
word_after table (digits first) word past = saying past (change table (behind_letter first.bytes) first.at word.bytes word.at)
word_after table passed word past = Ok (said None past)
word_after table comment word past = Ok (if bytes_eq word.bytes END then said None past else begins past comment)

-- the next word
abbrev pub next_word : List Code → BodyReading → Word → Answer Said
next_word table reading word = word_after table reading.begun word reading.past

-- the next word has these bytes, or there is no next word
abbrev pub last_said : List Code → BodyReading → ℕ → List ℕ → Answer Said
last_said table reading at [] = Ok (None, reading)
last_said table reading at (byte ∷ bytes) = next_word table reading (record { at = at; bytes = byte ∷ bytes })
