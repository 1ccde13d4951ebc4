-- A header that goes on has no more codes than bytes, since each word declares at most one.
use Rattle.std.proofs.Common.{◌≡◌, ℕ, ◌+◌, ◌-◌, ◌<◌, ◌≤◌, ◌^◌, Bool, true, false, cond, bytes_eq, List, [], ◌∷◌, length, Option, None, Some, Ok, inl, inr, subst, arith}
use Rattle.std.specs.Prelude.{not}
use Rattle.std.proofs.lemmas.Bool.{cases_Bool}
use Rattle.vcd_reader.specs.Answer.{unless}
use Rattle.vcd_reader.specs.Codes.{Code, code_of, declared_code, entered, is_unread_kind}
use Rattle.vcd_reader.specs.Header.{Declared, END, end_fault, field_fault, keyword_fault, keyword_of, size_of, with_fields, with_section, with_variable}
use Rattle.vcd_reader.specs.Progress.{counted_codes, is_going, longest_of}
use Rattle.vcd_reader.specs.Reading.{HeaderReading, Section, is_last, last_word, opened, with_field, word_in}
use Rattle.vcd_reader.specs.Words.{Word}
use Rattle.vcd_reader.specs.declared.fault.DumpFault.{DumpFault}
use Rattle.vcd_reader.specs.declared.keyword.Keyword.{Keyword}
use Rattle.vcd_reader.specs.declared.keyword.Keyword.TheVariants.{Scope, Upscope, Variable, EndDefinitions, Passed}
use Rattle.vcd_reader.specs.declared.progress.Progress.{Progress}
use Rattle.vcd_reader.specs.declared.progress.Progress.TheVariants.{Going, Done, AtEnd}

-- one code more, or none
entered_more : (codes : List Code) (new : Code) → length (entered codes new) ≤ length codes + 1
entered_more [] new = omega arith
entered_more (code ∷ codes) new =
    let more : length (entered codes new) ≤ length codes + 1 = entered_more codes new in
    elim (cases_Bool (bytes_eq new.text code.text)) [
      | inl same ↦ rw same (omega arith)
      | inr other ↦ rw other (omega arith)
    ]

variable_more : (declared : Declared) (kind : List ℕ) (size : Option ℕ) (code reference : List ℕ) → length (with_variable declared kind size code reference).codes ≤ length declared.codes + 1
variable_more declared kind None code reference = omega arith
variable_more declared kind (Some size) code reference = entered_more declared.codes (declared_code (length declared.codes) code size (not (is_unread_kind kind)) (code_of declared.codes code))

fields_more : (declared : Declared) (fields : List (List ℕ)) → length (with_fields declared fields).codes ≤ length declared.codes + 1
fields_more declared [] = omega arith
fields_more declared (kind ∷ []) = omega arith
fields_more declared (kind ∷ size ∷ []) = omega arith
fields_more declared (kind ∷ size ∷ code ∷ []) = omega arith
fields_more declared (kind ∷ size ∷ code ∷ reference ∷ others) = variable_more declared kind (size_of size) code reference

section_more : (declared : Declared) (keyword : Keyword) (fields : List (List ℕ)) → length (with_section declared keyword fields).codes ≤ length declared.codes + 1
section_more declared Scope fields = omega arith
section_more declared Upscope fields = omega arith
section_more declared Variable fields = fields_more declared fields
section_more declared EndDefinitions fields = omega arith
section_more declared Passed fields = omega arith

opened_more : (declared : Declared) (keyword : Option Keyword) → length (opened declared keyword).declared.codes ≤ length declared.codes + 1
opened_more declared None = omega arith
opened_more declared (Some keyword) = omega arith

-- what a word leaves, if it is no fault
module _ (given : Bool × HeaderReading) (count : ℕ) where
  unless_more : (fault : Option DumpFault) (answer : Bool × HeaderReading) → length answer.1.declared.codes ≤ count → unless fault answer ≡ Ok given → length given.1.declared.codes ≤ count
  unless_more None answer few e = let is : answer ≡ given = cc in subst (λ (x : Bool × HeaderReading). length x.1.declared.codes ≤ count) is few
  unless_more (Some fault) answer few e = cc

  either_more : (test : Bool) (first second : Option DumpFault) (a b : Bool × HeaderReading) → length a.1.declared.codes ≤ count → length b.1.declared.codes ≤ count → cond test (unless first a) (unless second b) ≡ Ok given → length given.1.declared.codes ≤ count
  either_more true first second a b of_a of_b e = unless_more first a of_a e
  either_more false first second a b of_a of_b e = unless_more second b of_b e

word_more : (declared : Declared) (section : Option Section) (word : Word) (last : Bool) (next : HeaderReading) → word_in declared section word ≡ Ok (last, next) → length next.declared.codes ≤ length declared.codes + 1
word_more declared None word last next e =
    unless_more (last, next) (length declared.codes + 1) (keyword_fault (length declared.scopes) (keyword_of word.bytes) word.at) (false, opened declared (keyword_of word.bytes)) (opened_more declared (keyword_of word.bytes)) e
word_more declared (Some section) word last next e =
    let kept : length declared.codes ≤ length declared.codes + 1 = omega arith in
    either_more (last, next) (length declared.codes + 1) (bytes_eq word.bytes END) (end_fault section.keyword (length section.fields) word.at) (field_fault declared.codes section.keyword section.fields word)
    (is_last section.keyword, record { declared = with_section declared section.keyword section.fields; section = None }) (false, record { declared = declared; section = Some (with_field section word.bytes) })
    (section_more declared section.keyword section.fields) kept e

last_more : (reading : HeaderReading) (end : ℕ) (word : List ℕ) (last : Bool) (next : HeaderReading) → last_word reading end word ≡ Ok (last, next) → length next.declared.codes ≤ length reading.declared.codes + 1
last_more reading end [] last next e =
    let kept : length reading.declared.codes ≤ length reading.declared.codes + 1 = omega arith in
    unless_more (last, next) (length reading.declared.codes + 1) None (false, reading) kept e
last_more reading end (byte ∷ bytes) last next e = word_more reading.declared reading.section (record { at = end - length (byte ∷ bytes); bytes = byte ∷ bytes }) last next e

going_few : (progress : Progress) (count at : ℕ) → is_going progress ≡ true → counted_codes progress count ≤ at → count ≤ at
going_few Going count at going few = few
going_few Done count at going few = cc
going_few AtEnd count at going few = cc

counted_most : (progress : Progress) (count : ℕ) → counted_codes progress count ≤ count
counted_most Going count = omega arith
counted_most Done count = omega arith
counted_most AtEnd count = omega arith

longest_most : (progress : Progress) → longest_of progress < 2 ^ 32
longest_most Going = omega arith
longest_most Done = omega arith
longest_most AtEnd = omega arith

-- before a word there are fewer codes than numbers of 32 bits
pub few_codes : (progress : Progress) (count at : ℕ) → is_going progress ≡ true → counted_codes progress count ≤ at → at ≤ longest_of progress → count < 2 ^ 32
few_codes progress count at going few within =
    let before = going_few progress count at going few in
    let limit = longest_most progress in
    omega (arith, before, within, limit)

-- after a word and the byte that ends it there are no more codes than bytes
pub few_after : (old new : Progress) (reading next : HeaderReading) (at : ℕ) (word : List ℕ) (last : Bool) → is_going old ≡ true → counted_codes old (length reading.declared.codes) ≤ at → last_word reading at word ≡ Ok (last, next) → counted_codes new (length next.declared.codes) ≤ at + 1
few_after old new reading next at word last going few e =
    let before = going_few old (length reading.declared.codes) at going few in
    let more = last_more reading at word last next e in
    let most = counted_most new (length next.declared.codes) in
    omega (arith, before, more, most)
