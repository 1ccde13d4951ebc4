-- No fault of a text is want of memory.
use Rattle.std.proofs.Common.{ℕ, ◌-◌, Bool, true, false, cond, eqb, List, [], ◌∷◌, length, Option, Some, None, Ok, Err, subst}
use Rattle.std.specs.Prelude.{bytes_eq, codes, not, ◌||◌, nat_le}
use Rattle.cov_host.specs.Decimal.{decimal_value}
use Rattle.vcd_reader.specs.Values.{is_digit}
use Rattle.vcd_reader.specs.Words.{Word, words_of}
use Rattle.vcd_reader.specs.Codes.{Code, code_of}
use Rattle.vcd_reader.specs.Answer.{Answer, fault_if, unless}
use Rattle.vcd_reader.specs.Body.{Begun, nothing, digits, passed, comment, Said, time_fault, change_of, change, saying, scalar, time_word, digits_word, new_time, at_time, is_passed_letter, are_digits, is_group_word, most_stretches, with_stretch, goes_off, goes_on, said, begins, dollar_word, first_word, behind_letter, word_after}
use Rattle.vcd_reader.specs.Header.{Declared, keyword_of, keyword_fault, variable_fault, field_fault, end_fault}
use Rattle.vcd_reader.specs.Reading.{HeaderReading, Section, word_in, Body, Meaning, header, body, fault, after_header_word, after_body_word, stop_of, reading_on, with_word, meaning_after, start}
use Rattle.vcd_reader.specs.Text.{Stands, word_at, HasFault, behind_a_word, in_a_word, EndsWithFault, in_the_last_word, cut_short}
use Rattle.vcd_reader.specs.Named.{IsNamed}
use Rattle.vcd_reader.specs.declared.entry.Entry.{Entry}
use Rattle.vcd_reader.specs.declared.entry.Entry.TheVariants as entry
use Rattle.vcd_reader.specs.declared.past.Past.{Past}
use Rattle.vcd_reader.specs.declared.fault.DumpFault.{DumpFault}
use Rattle.vcd_reader.specs.declared.fault.DumpFault.TheVariants.{At}
use Rattle.vcd_reader.specs.declared.fault.DumpKind.{DumpKind}
use Rattle.vcd_reader.specs.declared.fault.DumpKind.TheVariants.{BadHeader, BadChange, UnknownCode, VectorTooLong, TimeBack, LongCode, Gap, DeepScope, TimeTooLarge}
use Rattle.vcd_reader.specs.declared.keyword.Keyword.{Keyword}
use Rattle.vcd_reader.specs.declared.keyword.Keyword.TheVariants.{Scope, Upscope, Variable, EndDefinitions, Passed}

pub data AreNamed {A : Type 0} : Answer A → Type 0 where
  ok : (value : A) → AreNamed (Ok value)
  err : (f : DumpFault) → IsNamed f → AreNamed (Err f)

pub data MayBe : Option DumpFault → Type 0 where
  none : MayBe None
  some : (f : DumpFault) → IsNamed f → MayBe (Some f)

pub data MeansNamed : Meaning → Type 0 where
  of_header : (reading : HeaderReading) → MeansNamed (header reading)
  of_body : (b : Body) → MeansNamed (body b)
  of_fault : (f : DumpFault) → IsNamed f → MeansNamed (fault f)

unless_named : {A : Type 0} (o : Option DumpFault) (value : A) → MayBe o → AreNamed (unless o value)
unless_named o value none = ok value
unless_named o value (some f h) = err f h

tested : (test : Bool) (kind : DumpKind) (at : ℕ) → MayBe (cond test (Some (At kind at)) None)
tested true kind at = some (At kind at) tt
tested false kind at = none

fails_or : (test : Bool) (kind : DumpKind) (at : ℕ) (other : Option DumpFault) → MayBe other → MayBe (cond test (Some (At kind at)) other)
fails_or true kind at other h = some (At kind at) tt
fails_or false kind at other h = h

stops_or : {A : Type 0} (test : Bool) (kind : DumpKind) (at : ℕ) (other : Answer A) → AreNamed other → AreNamed (cond test (Err (At kind at)) other)
stops_or true kind at other h = err (At kind at) tt
stops_or false kind at other h = h

gives_or : {A : Type 0} (test : Bool) (value : A) (other : Answer A) → AreNamed other → AreNamed (cond test (Ok value) other)
gives_or true value other h = ok value
gives_or false value other h = h

either_answer : {A : Type 0} (test : Bool) (x y : Answer A) → AreNamed x → AreNamed y → AreNamed (cond test x y)
either_answer true x y p q = p
either_answer false x y p q = q

-- ---- words of the body

time_fault_named : (last : Option ℕ) (word : List ℕ) (at : ℕ) → MayBe (time_fault last word at)
time_fault_named last word at = fails_or _ BadChange at _ (fails_or _ TimeTooLarge at _ (tested _ TimeBack at))

change_of_named : (o : Option Code) (word : List ℕ) (first at : ℕ) → AreNamed (change_of o word first at)
change_of_named None word first at = err (At UnknownCode at) tt
change_of_named (Some code) word first at = unless_named _ _ (tested _ VectorTooLong first)

change_named : (table : List Code) (word : List ℕ) (first : ℕ) (code : List ℕ) (at : ℕ) → AreNamed (change table word first code at)
change_named table word first code at = stops_or _ LongCode at _ (change_of_named (code_of table code) word first at)

saying_named : (past : Past) (answer : Answer (Option Entry)) → AreNamed answer → AreNamed (saying past answer)
saying_named past answer (ok says) = ok _
saying_named past answer (err f h) = err f h

scalar_named : (table : List Code) (digit : ℕ) (code : List ℕ) (at : ℕ) → AreNamed (scalar table digit code at)
scalar_named table digit code at = stops_or _ BadChange at _ (change_named table (digit ∷ []) at code at)

goes_on_named : (past : Past) (at : ℕ) → AreNamed (goes_on past at)
goes_on_named past at =
    let more : Answer Said = Ok (said (Some (entry.On past.last)) (with_stretch past)) in
    gives_or past.is_on (said None past) _ (stops_or (nat_le most_stretches past.stretches) Gap at more (ok _))

dollar_named : (word : List ℕ) (at : ℕ) (past : Past) → AreNamed (dollar_word word at past)
dollar_named word at past =
    gives_or (is_group_word word) (said None past) _ (gives_or (bytes_eq word (codes "$comment")) (begins past comment) _ (gives_or (bytes_eq word (codes "$dumpoff")) (goes_off past) _
    (either_answer (bytes_eq word (codes "$dumpon")) (goes_on past at) (Err (At BadChange at)) (goes_on_named past at) (err (At BadChange at) tt))))

first_named : (table : List Code) (bytes : List ℕ) (at : ℕ) (past : Past) → AreNamed (first_word table bytes at past)
first_named table [] at past = err (At BadChange at) tt
first_named table (byte ∷ bytes) at past =
    let time : AreNamed (time_word bytes at past) = saying_named (at_time past (decimal_value bytes)) (unless (time_fault past.last bytes at) (new_time past.last (decimal_value bytes))) (unless_named (time_fault past.last bytes at) (new_time past.last (decimal_value bytes)) (time_fault_named past.last bytes at)) in
    let start : AreNamed (digits_word bytes (record { at = at; bytes = byte ∷ bytes }) past) = unless_named (fault_if (not (are_digits bytes)) BadChange at) (begins past (digits (record { at = at; bytes = byte ∷ bytes }))) (tested (not (are_digits bytes)) BadChange at) in
    let change : AreNamed (saying past (scalar table byte bytes at)) = saying_named past (scalar table byte bytes at) (scalar_named table byte bytes at) in
    let other = dollar_word (byte ∷ bytes) at past in
    let real = cond (is_passed_letter byte) (Ok (begins past passed)) other in
    let one = cond (is_digit byte) (saying past (scalar table byte bytes at)) real in
    let vector = cond (eqb byte 98 || eqb byte 66) (digits_word bytes (record { at = at; bytes = byte ∷ bytes }) past) one in
    either_answer (eqb byte 35) (time_word bytes at past) vector time
    (either_answer (eqb byte 98 || eqb byte 66) (digits_word bytes (record { at = at; bytes = byte ∷ bytes }) past) one start
    (either_answer (is_digit byte) (saying past (scalar table byte bytes at)) real change
    (gives_or (is_passed_letter byte) (begins past passed) other (dollar_named (byte ∷ bytes) at past))))

word_named : (table : List Code) (begun : Begun) (word : Word) (past : Past) → AreNamed (word_after table begun word past)
word_named table nothing word past = first_named table word.bytes word.at past
word_named table (digits first) word past = saying_named past _ (change_named table (behind_letter first.bytes) first.at word.bytes word.at)
word_named table passed word past = ok _
word_named table comment word past = ok _

-- ---- words of the header

keyword_named : (depth : ℕ) (keyword : Option Keyword) (at : ℕ) → MayBe (keyword_fault depth keyword at)
keyword_named depth None at = some (At BadHeader at) tt
keyword_named depth (Some Scope) at = tested _ DeepScope at
keyword_named depth (Some Upscope) at = tested _ BadHeader at
keyword_named depth (Some Variable) at = none
keyword_named depth (Some EndDefinitions) at = none
keyword_named depth (Some Passed) at = none

variable_named : (table : List Code) (fields : List (List ℕ)) (word : Word) → MayBe (variable_fault table fields word)
variable_named table [] word = none
variable_named table (kind ∷ []) word = tested _ BadHeader word.at
variable_named table (kind ∷ size ∷ []) word = fails_or _ BadHeader word.at _ (fails_or _ LongCode word.at _ (tested _ BadHeader word.at))
variable_named table (kind ∷ size ∷ code ∷ others) word = none

field_named : (table : List Code) (keyword : Keyword) (fields : List (List ℕ)) (word : Word) → MayBe (field_fault table keyword fields word)
field_named table Scope fields word = tested _ BadHeader word.at
field_named table Upscope fields word = some (At BadHeader word.at) tt
field_named table Variable fields word = variable_named table fields word
field_named table EndDefinitions fields word = some (At BadHeader word.at) tt
field_named table Passed fields word = none

end_named : (keyword : Keyword) (count at : ℕ) → MayBe (end_fault keyword count at)
end_named Scope count at = tested _ BadHeader at
end_named Upscope count at = none
end_named Variable count at = tested _ BadHeader at
end_named EndDefinitions count at = none
end_named Passed count at = none

header_named : (declared : Declared) (section : Option Section) (word : Word) → AreNamed (word_in declared section word)
header_named declared None word = unless_named _ _ (keyword_named (length declared.scopes) (keyword_of word.bytes) word.at)
header_named declared (Some section) word = either_answer _ _ _ (unless_named _ _ (end_named section.keyword (length section.fields) word.at)) (unless_named _ _ (field_named declared.codes section.keyword section.fields word))

-- ---- texts

ended_or_not : (last : Bool) (reading : HeaderReading) → MeansNamed (after_header_word (Ok (last, reading)))
ended_or_not true reading = of_body _
ended_or_not false reading = of_header reading

after_header_named : (answer : Answer (Bool × HeaderReading)) → AreNamed answer → MeansNamed (after_header_word answer)
after_header_named answer (ok read) = ended_or_not read.0 read.1
after_header_named answer (err f h) = of_fault f h

after_body_named : (b : Body) (answer : Answer Said) → AreNamed answer → MeansNamed (after_body_word b answer)
after_body_named b answer (ok said) = of_body _
after_body_named b answer (err f h) = of_fault f h

reading_named : (means : Meaning) (word : Word) → MeansNamed means → MeansNamed (reading_on means word)
reading_named means word (of_header reading) = after_header_named _ (header_named reading.declared reading.section word)
reading_named means word (of_body b) = after_body_named b _ (word_named b.codes b.reading.begun word b.reading.past)
reading_named means word (of_fault f h) = of_fault f h

stop_named : (means : Meaning) → MeansNamed means → IsNamed (stop_of means)
stop_named means (of_header reading) = tt
stop_named means (of_body b) = tt
stop_named means (of_fault f h) = h

either_meaning : (test : Bool) (x y : Meaning) → MeansNamed x → MeansNamed y → MeansNamed (cond test x y)
either_meaning true x y p q = p
either_meaning false x y p q = q

with_word_named : (means : Meaning) (word : Word) → MeansNamed means → MeansNamed (with_word means word)
with_word_named means word h = either_meaning _ _ _ (of_fault (stop_of means) (stop_named means h)) (reading_named means word h)

after_named : (means : Meaning) (words : List Word) → MeansNamed means → MeansNamed (meaning_after means words)
after_named means [] h = h
after_named means (word ∷ words) h = after_named (with_word means word) words (with_word_named means word h)

stands_named : (text word : List ℕ) (means : Meaning) → Stands text means word → MeansNamed means
stands_named text word means s = subst (λ (m : Meaning). MeansNamed m) s.meaning (after_named start (words_of s.front) (of_header _))

pub fault_is_named : (text : List ℕ) (f : DumpFault) → HasFault text f → IsNamed f
fault_is_named text f (behind_a_word before word rest means next space s white e full) = stop_named next (subst (λ (m : Meaning). MeansNamed m) e (after_named means (word_at (length before - length word) word) (stands_named before word means s)))
fault_is_named text f (in_a_word before word rest means byte s black full) = stop_named means (stands_named before word means s)

pub last_fault_is_named : (text : List ℕ) (f : DumpFault) → EndsWithFault text f → IsNamed f
last_fault_is_named text f (in_the_last_word t word means g s whole is) = stop_named (fault g) (subst (λ (m : Meaning). MeansNamed m) is (after_named means (word_at (length t - length word) word) (stands_named t word means s)))
last_fault_is_named text f (cut_short t word means s is) = tt
