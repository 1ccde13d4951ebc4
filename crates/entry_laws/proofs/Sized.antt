-- What the words of a header and of a body keep: the codes are sized, times are small, and each change has the width of its code.
use Rattle.std.proofs.Common.{◌≡◌, ◌⊎◌, ℕ, ◌-◌, ◌<◌, ◌≤◌, ◌==◌, Bool, true, false, cond, eqb, List, [], ◌∷◌, ◌++◌, length, map, Option, Some, None, Ok, Err, refl, sym, ap, ◌∙◌, inl, inr, arith}
use Rattle.std.specs.Prelude.{bytes_eq, codes, not, ◌||◌, ◌^◌, nat_lt, nat_le, slice_index_or}
use Rattle.std.specs.List.{All, list_all}
use Rattle.std.specs.Option.{option_to_list}
use Rattle.std.proofs.lemmas.Bool.{cases_lt, false≢true, le-leb, lt-ltb}
use Rattle.std.proofs.lemmas.List.{length-append, length-map, length-replicate, length-reverse}
use Rattle.std.proofs.lemmas.List.Elements.{All-weaker}
use Rattle.cov_host.specs.Decimal.{decimal_value}
use Rattle.four_state.specs.Vector.{Vector, fill, top}
use Rattle.vcd_reader.specs.Answer.{Answer, fault_if, unless}
use Rattle.vcd_reader.specs.Body.{Begun, nothing, digits, passed, comment, Said, said, begins, is_back, new_time, time_fault, value_of, change_of, change, recorded, saying, scalar, at_time, time_word, digits_word, are_digits, is_group_word, most_stretches, with_stretch, goes_off, goes_on, is_passed_letter, dollar_word, first_word, behind_letter, word_after}
use Rattle.vcd_reader.specs.Codes.{Code, code_of, is_unread_kind}
use Rattle.vcd_reader.specs.Header.{END, Declared, code_fault, end_fault, field_fault, has_other_size, is_decimal, is_printable, keyword_fault, keyword_of, name_of, number_of, size_in, size_of, variable_fault, with_section, with_variable}
use Rattle.vcd_reader.specs.Reading.{HeaderReading, Section, header_word, is_last, opened, section_word, with_field, word_in}
use Rattle.vcd_reader.specs.Values.{digit_bit, digit_bits, extension, is_digit, value_bits}
use Rattle.vcd_reader.specs.Words.{Word}
use Rattle.vcd_reader.specs.declared.entry.Entry.{Entry}
use Rattle.vcd_reader.specs.declared.entry.Entry.TheVariants.{Time, Value, Off, On}
use Rattle.vcd_reader.specs.declared.fault.DumpFault.{DumpFault}
use Rattle.vcd_reader.specs.declared.fault.DumpFault.TheVariants.{At}
use Rattle.vcd_reader.specs.declared.fault.DumpKind.TheVariants.{BadChange, BadHeader, Gap, LongCode, TimeBack, TimeTooLarge, VectorTooLong}
use Rattle.vcd_reader.specs.declared.keyword.Keyword.{Keyword}
use Rattle.vcd_reader.specs.declared.keyword.Keyword.TheVariants.{Scope, Upscope, Variable, EndDefinitions, Passed}
use Rattle.vcd_reader.specs.declared.past.Past.{Past}
use Rattle.vcd_reader.specs.declared.vars.Var.{Var}
use Rattle.entry_laws.proofs.Codes.{AreSized, IsSizedIn, declared_more, found_at, sizes_of}
use Rattle.entry_laws.specs.Entries.{FitsCode, IsEntry, IsSmall}

-- ---- the header

-- the code of a section's variable was not declared with another size
abbrev pub FieldsFit : List Code → List (List ℕ) → Type 0
FieldsFit table [] = Unit {0}
FieldsFit table (kind ∷ []) = Unit {0}
FieldsFit table (kind ∷ size ∷ []) = Unit {0}
FieldsFit table (kind ∷ size ∷ code ∷ others) = has_other_size (size_of size) (size_in table code) ≡ false

-- so it is where the section is one of a variable
abbrev pub KeywordFits : List Code → Keyword → List (List ℕ) → Type 0
KeywordFits table Scope fields = Unit {0}
KeywordFits table Upscope fields = Unit {0}
KeywordFits table Variable fields = FieldsFit table fields
KeywordFits table EndDefinitions fields = Unit {0}
KeywordFits table Passed fields = Unit {0}

abbrev pub SectionFits : List Code → Option Section → Type 0
SectionFits table None = Unit {0}
SectionFits table (Some section) = KeywordFits table section.keyword section.fields

-- the codes of what is declared are sized
abbrev pub IsDeclared : Declared → Type 0
IsDeclared declared = AreSized declared.vars declared.codes

-- and the open section fits them
pub record HeaderFits (reading : HeaderReading) : Type 0 where
  pub sized : IsDeclared reading.declared
  pub fits : SectionFits reading.declared.codes reading.section

-- a field more
third : (table : List Code) (kind size : List ℕ) (word : Word) → code_fault table (size_of size) word ≡ None → has_other_size (size_of size) (size_in table word.bytes) ≡ false
third table kind size word e = last (not (list_all is_printable (Rattle.std.specs.Prelude.take 9 word.bytes))) (nat_lt 8 (length word.bytes)) (has_other_size (size_of size) (size_in table word.bytes)) e
  where
    last : (a b c : Bool) → cond a (Some (At BadHeader word.at)) (cond b (Some (At LongCode word.at)) (fault_if c BadHeader word.at)) ≡ None → c ≡ false
    last true b c h = absurd cc
    last false true c h = absurd cc
    last false false true h = absurd cc
    last false false false h = refl

fields_more : (table : List Code) (fields : List (List ℕ)) (word : Word) → variable_fault table fields word ≡ None → FieldsFit table fields → FieldsFit table (cond (nat_lt (length fields) 4) (fields ++ word.bytes ∷ []) fields)
fields_more table [] word none fits = tt
fields_more table (kind ∷ []) word none fits = tt
fields_more table (kind ∷ size ∷ []) word none fits = third table kind size word none
fields_more table (kind ∷ size ∷ code ∷ others) word none fits = either (nat_lt (length (kind ∷ size ∷ code ∷ others)) 4)
  where
    either : (b : Bool) → FieldsFit table (cond b (kind ∷ size ∷ code ∷ others ++ word.bytes ∷ []) (kind ∷ size ∷ code ∷ others))
    either true = fits
    either false = fits

keyword_more : (table : List Code) (keyword : Keyword) (fields : List (List ℕ)) (word : Word) → field_fault table keyword fields word ≡ None → KeywordFits table keyword fields → KeywordFits table keyword (cond (nat_lt (length fields) 4) (fields ++ word.bytes ∷ []) fields)
keyword_more table Scope fields word none fits = tt
keyword_more table Upscope fields word none fits = tt
keyword_more table Variable fields word none fits = fields_more table fields word none fits
keyword_more table EndDefinitions fields word none fits = tt
keyword_more table Passed fields word none fits = tt

-- the end of a section
variable_more : (declared : Declared) (kind : List ℕ) (size : Option ℕ) (code reference : List ℕ) → has_other_size size (size_in declared.codes code) ≡ false → IsDeclared declared → IsDeclared (with_variable declared kind size code reference)
variable_more declared kind None code reference fits is = is
variable_more declared kind (Some size) code reference fits is =
    declared_more declared.vars declared.codes code size (not (is_unread_kind kind)) is fits
    (record { scope = _; kind = kind; name = name_of reference; size = size; code = number_of declared.codes code })
    (refl, refl)

section_ended : (declared : Declared) (keyword : Keyword) (fields : List (List ℕ)) → KeywordFits declared.codes keyword fields → IsDeclared declared → IsDeclared (with_section declared keyword fields)
section_ended declared Scope fields fits is = is
section_ended declared Upscope fields fits is = is
section_ended declared Variable [] fits is = is
section_ended declared Variable (kind ∷ []) fits is = is
section_ended declared Variable (kind ∷ size ∷ []) fits is = is
section_ended declared Variable (kind ∷ size ∷ code ∷ []) fits is = is
section_ended declared Variable (kind ∷ size ∷ code ∷ reference ∷ others) fits is = variable_more declared kind (size_of size) code reference fits is
section_ended declared EndDefinitions fields fits is = is
section_ended declared Passed fields fits is = is

-- what a word of the header leaves, if it is no fault
abbrev pub AnswersFitting : Answer (Bool × HeaderReading) → Type 0
AnswersFitting (Ok read) = HeaderFits read.1
AnswersFitting (Err f) = Unit {0}

unless_fits : (o : Option DumpFault) (last : Bool) (reading : HeaderReading) → (o ≡ None → HeaderFits reading) → AnswersFitting (unless o (last, reading))
unless_fits None last reading h = h refl
unless_fits (Some f) last reading h = tt

opened_fits : (declared : Declared) (keyword : Option Keyword) → IsDeclared declared → HeaderFits (opened declared keyword)
opened_fits declared None is = record { sized = is; fits = tt }
opened_fits declared (Some Scope) is = record { sized = is; fits = tt }
opened_fits declared (Some Upscope) is = record { sized = is; fits = tt }
opened_fits declared (Some Variable) is = record { sized = is; fits = tt }
opened_fits declared (Some EndDefinitions) is = record { sized = is; fits = tt }
opened_fits declared (Some Passed) is = record { sized = is; fits = tt }

section_fits : (declared : Declared) (section : Section) (word : Word) → IsDeclared declared → KeywordFits declared.codes section.keyword section.fields → AnswersFitting (section_word declared section word)
section_fits declared section word is fits = either (bytes_eq word.bytes END)
  where
    ended : HeaderReading
    ended = record { declared = with_section declared section.keyword section.fields; section = None }

    on : HeaderReading
    on = record { declared = declared; section = Some (with_field section word.bytes) }

    either : (b : Bool) → AnswersFitting (cond b (unless (end_fault section.keyword (length section.fields) word.at) (is_last section.keyword, ended)) (unless (field_fault declared.codes section.keyword section.fields word) (false, on)))
    either true = unless_fits (end_fault section.keyword (length section.fields) word.at) (is_last section.keyword) ended (λ none. record { sized = section_ended declared section.keyword section.fields fits is; fits = tt })
    either false = unless_fits (field_fault declared.codes section.keyword section.fields word) false on (λ none. record { sized = is; fits = keyword_more declared.codes section.keyword section.fields word none fits })

word_fits : (declared : Declared) (section : Option Section) (word : Word) → IsDeclared declared → SectionFits declared.codes section → AnswersFitting (word_in declared section word)
word_fits declared None word is fits = unless_fits (keyword_fault (length declared.scopes) (keyword_of word.bytes) word.at) false (opened declared (keyword_of word.bytes)) (λ none. opened_fits declared (keyword_of word.bytes) is)
word_fits declared (Some section) word is fits = section_fits declared section word is fits

-- a word of the header keeps that the codes are sized
pub header_word_fits : (reading : HeaderReading) (word : Word) → HeaderFits reading → AnswersFitting (header_word reading word)
header_word_fits reading word is = word_fits reading.declared reading.section word is.sized is.fits

-- ---- the body

-- the value of digits that are not more than the size has that size
value_long : (size : ℕ) (word : List ℕ) → length word ≤ size → length (value_bits size word) ≡ size
value_long size word l =
    let bits : length (digit_bits word) ≡ length word = length-reverse (map digit_bit word) ∙ length-map word digit_bit in
    let rest : length (fill (size - length word) (extension (top (digit_bits word)))) ≡ size - length word = length-replicate (size - length word) (extension (top (digit_bits word))) in
    length-append (digit_bits word) (fill (size - length word) (extension (top (digit_bits word)))) ∙ omega (arith, bits, rest, l)

-- a value of the size of a code has that of each of its variables
fits_code : (vars : List Var) (table : List Code) (c : Code) (text : List ℕ) (value : Vector) → AreSized vars table → code_of table text ≡ Some c → length value.bits ≡ c.size → value.signed ≡ false → FitsCode vars c.number value
fits_code vars table c text value is found long unsigned =
    let at = found_at table text c found in
    let number : at.place ≡ c.number = sym (is.numbers at.place at.within) ∙ at.number in
    record {
      bits = All-weaker (IsSizedIn table) (λ x. x.code ≡ c.number → length value.bits ≡ x.size)
          (λ x sized same. long ∙ sym at.size ∙ ap (λ k. slice_index_or (sizes_of table) k 0) (number ∙ sym same) ∙ sized.1) vars is.sizes;
      unsigned = unsigned;
    }

-- an entry, if there is one, is as wide as its code
abbrev pub SaysEntry : List Var → Option Entry → Type 0
SaysEntry vars None = Unit {0}
SaysEntry vars (Some entry) = IsEntry vars entry

abbrev pub AnswersEntry : List Var → Answer (Option Entry) → Type 0
AnswersEntry vars (Ok says) = SaysEntry vars says
AnswersEntry vars (Err f) = Unit {0}

module _ (vars : List Var) (table : List Code) (is : AreSized vars table) where
  some_width : (b : Bool) (entry : Entry) → IsEntry vars entry → SaysEntry vars (cond b (Some entry) None)
  some_width true entry h = h
  some_width false entry h = tt

  long_enough : (o : Option DumpFault) (says : Option Entry) → (o ≡ None → SaysEntry vars says) → AnswersEntry vars (unless o says)
  long_enough None says h = h refl
  long_enough (Some f) says h = tt

  not_too_long : (size long first : ℕ) → fault_if (nat_lt size long) VectorTooLong first ≡ None → long ≤ size
  not_too_long size long first e = go (cases_lt size long)
    where
      go : (size < long) ⊎ (long ≤ size) → long ≤ size
      go (inl less) = let no : Some (At VectorTooLong first) ≡ None = sym (ap (λ b. fault_if b VectorTooLong first) (lt-ltb size long less)) ∙ e in absurd cc
      go (inr within) = within

  of_code : (o : Option Code) (text word : List ℕ) (first at : ℕ) → code_of table text ≡ o → AnswersEntry vars (change_of o word first at)
  of_code None text word first at found = tt
  of_code (Some c) text word first at found =
      long_enough (fault_if (nat_lt c.size (length word)) VectorTooLong first) (value_of c.is_read c.number c.size word)
      (λ none. some_width _ (Value c.number (record { bits = value_bits c.size word; signed = false })) (fits_code vars table c text _ is found (value_long c.size word (not_too_long c.size (length word) first none)) refl))

  either_width : (b : Bool) (x y : Answer (Option Entry)) → AnswersEntry vars x → AnswersEntry vars y → AnswersEntry vars (cond b x y)
  either_width true x y p q = p
  either_width false x y p q = q

  change_width : (word : List ℕ) (first : ℕ) (text : List ℕ) (at : ℕ) → AnswersEntry vars (change table word first text at)
  change_width word first text at = either_width (nat_lt 8 (length text)) (Err (At LongCode at)) (change_of (code_of table text) word first at) tt (of_code (code_of table text) text word first at refl)

  scalar_width : (digit : ℕ) (code : List ℕ) (at : ℕ) → AnswersEntry vars (scalar table digit code at)
  scalar_width digit code at = either_width (length code == 0) (Err (At BadChange at)) (change table (digit ∷ []) at code at) tt (change_width (digit ∷ []) at code at)

  -- what a word says, and the last time then, if it is no fault
  abbrev pub SaidEntry : Answer Said → Type 0
  SaidEntry (Ok s) = SaysEntry vars s.0 × IsSmall s.1.past.last
  SaidEntry (Err f) = Unit {0}

  recorded_width : (is_on : Bool) (says : Option Entry) → SaysEntry vars says → SaysEntry vars (recorded is_on says)
  recorded_width true says h = h
  recorded_width false says h = tt

  saying_width : (past : Past) (answer : Answer (Option Entry)) → IsSmall past.last → AnswersEntry vars answer → SaidEntry (saying past answer)
  saying_width past (Ok says) small h = (recorded_width past.is_on says h, small)
  saying_width past (Err f) small h = tt

  either_said : (b : Bool) (x y : Answer Said) → SaidEntry x → SaidEntry y → SaidEntry (cond b x y)
  either_said true x y p q = p
  either_said false x y p q = q

  new_time_width : (last : Option ℕ) (time : ℕ) → time < 2 ^ 63 → SaysEntry vars (new_time last time)
  new_time_width None time small = small
  new_time_width (Some last) time small = either (time == last)
    where
      either : (b : Bool) → SaysEntry vars (cond b None (Some (Time time)))
      either true = tt
      either false = small

  small_time : (last : Option ℕ) (word : List ℕ) (at : ℕ) → time_fault last word at ≡ None → decimal_value word < 2 ^ 63
  small_time last word at none = go (cases_lt (decimal_value word) (2 ^ 63))
    where
      second : (a b c : Bool) (f g h : DumpFault) → cond a (Some f) (cond b (Some g) (cond c (Some h) None)) ≡ None → b ≡ false
      second true b c f g h e = absurd cc
      second false true c f g h e = absurd cc
      second false false c f g h e = refl

      go : (decimal_value word < 2 ^ 63) ⊎ (2 ^ 63 ≤ decimal_value word) → decimal_value word < 2 ^ 63
      go (inl less) = less
      go (inr great) =
          let no = second (not (is_decimal word)) (nat_le (2 ^ 63) (decimal_value word)) (is_back last (decimal_value word)) (At BadChange at) (At TimeTooLarge at) (At TimeBack at) none in
          let yes : nat_le (2 ^ 63) (decimal_value word) ≡ true = le-leb (2 ^ 63) (decimal_value word) great in
          absurd (false≢true (sym no ∙ yes))

  time_width : (word : List ℕ) (at : ℕ) (past : Past) → SaidEntry (time_word word at past)
  time_width word at past = go (time_fault past.last word at) (small_time past.last word at)
    where
      go : (o : Option DumpFault) → (o ≡ None → decimal_value word < 2 ^ 63) → SaidEntry (saying (at_time past (decimal_value word)) (unless o (new_time past.last (decimal_value word))))
      go None small = (recorded_width past.is_on (new_time past.last (decimal_value word)) (new_time_width past.last (decimal_value word) (small refl)), small refl)
      go (Some f) small = tt

  begins_width : (o : Option DumpFault) (past : Past) (begun : Begun) → IsSmall past.last → SaidEntry (unless o (begins past begun))
  begins_width None past begun small = (tt, small)
  begins_width (Some f) past begun small = tt

  on_width : (past : Past) (at : ℕ) → IsSmall past.last → SaidEntry (goes_on past at)
  on_width past at small =
      let begun : Answer Said = Ok (said (Some (On past.last)) (with_stretch past)) in
      let more : Answer Said = cond (nat_le most_stretches past.stretches) (Err (At Gap at)) begun in
      either_said past.is_on (Ok (said None past)) more (tt, small)
      (either_said (nat_le most_stretches past.stretches) (Err (At Gap at)) begun tt (small, small))

  dollar_width : (word : List ℕ) (at : ℕ) (past : Past) → IsSmall past.last → SaidEntry (dollar_word word at past)
  dollar_width word at past small =
      let bad : Answer Said = Err (At BadChange at) in
      let goes : Answer Said = cond (bytes_eq word (codes "$dumpon")) (goes_on past at) bad in
      let stops : Answer Said = cond (bytes_eq word (codes "$dumpoff")) (Ok (goes_off past)) goes in
      let begun : Answer Said = cond (bytes_eq word (codes "$comment")) (Ok (begins past comment)) stops in
      either_said (is_group_word word) (Ok (said None past)) begun (tt, small)
      (either_said (bytes_eq word (codes "$comment")) (Ok (begins past comment)) stops (tt, small)
      (either_said (bytes_eq word (codes "$dumpoff")) (Ok (goes_off past)) goes (some_width past.is_on Off tt, small)
      (either_said (bytes_eq word (codes "$dumpon")) (goes_on past at) bad (on_width past at small) tt)))

  first_width : (bytes : List ℕ) (at : ℕ) (past : Past) → IsSmall past.last → SaidEntry (first_word table bytes at past)
  first_width [] at past small = tt
  first_width (byte ∷ bytes) at past small =
      let other : Answer Said = dollar_word (byte ∷ bytes) at past in
      let real : Answer Said = cond (is_passed_letter byte) (Ok (begins past passed)) other in
      let one : Answer Said = cond (is_digit byte) (saying past (scalar table byte bytes at)) real in
      let first : Word = record { at = at; bytes = byte ∷ bytes } in
      let vector : Answer Said = cond (eqb byte 98 || eqb byte 66) (digits_word bytes first past) one in
      either_said (eqb byte 35) (time_word bytes at past) vector (time_width bytes at past)
      (either_said (eqb byte 98 || eqb byte 66) (digits_word bytes first past) one (begins_width (fault_if (not (are_digits bytes)) BadChange at) past (digits first) small)
      (either_said (is_digit byte) (saying past (scalar table byte bytes at)) real (saying_width past (scalar table byte bytes at) small (scalar_width byte bytes at))
      (either_said (is_passed_letter byte) (Ok (begins past passed)) other (tt, small) (dollar_width (byte ∷ bytes) at past small))))

  comment_width : (b : Bool) (past : Past) → IsSmall past.last → SaidEntry (Ok (cond b (said None past) (begins past comment)))
  comment_width true past small = (tt, small)
  comment_width false past small = (tt, small)

  -- a word of the body
  pub word_width : (begun : Begun) (word : Word) (past : Past) → IsSmall past.last → SaidEntry (word_after table begun word past)
  word_width nothing word past small = first_width word.bytes word.at past small
  word_width (digits first) word past small = saying_width past _ small (change_width (behind_letter first.bytes) first.at word.bytes word.at)
  word_width passed word past small = (tt, small)
  word_width comment word past small = comment_width (bytes_eq word.bytes END) past small
