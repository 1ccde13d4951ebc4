-- What a word means by its first byte, and what is kept of what has begun.
use Rattle.std.proofs.Common.{◌≡◌, ℕ, ◌-◌, ◌<◌, ◌≤◌, ◌==◌, true, false, List, [], ◌∷◌, length, take, drop, get_or, refl, sym, ap, subst, ◌∙◌, inl, inr, arith}
use Rattle.std.specs.Prelude.{◌||◌}
use Rattle.std.proofs.lemmas.Bool.{cases_Bool}
use Rattle.std.proofs.lemmas.Bool.Decides.{nat_tests}
use Rattle.std.proofs.lemmas.List.{take_all}
use Rattle.vcd_reader.specs.Words.{Word}
use Rattle.vcd_reader.specs.Codes.{Code}
use Rattle.vcd_reader.specs.Values.{is_digit}
use Rattle.vcd_reader.specs.Body.{Begun, nothing, digits, passed, comment, BodyReading, dollar_word, first_word, has_begun, is_marker, is_passed_letter, last_said, saying, scalar}
use Rattle.vcd_reader.specs.Holding.{IsAtRest, IsBegun, IsReading, IsVectorStart, has_no_marker}
use Rattle.vcd_reader.specs.declared.past.Past.{Past}
use Rattle.vcd_reader.specs.declared.reading.Begun.TheVariants as begun_row
use Rattle.vcd_reader.specs.declared.reading.Reading.{Reading}
use Rattle.vcd_reader.specs.declared.reading.VectorStart.{VectorStart}

-- a digit begins a change
digit_first : (table : List Code) (byte : ℕ) (bytes : List ℕ) (at : ℕ) (past : Past) → is_digit byte ≡ true → first_word table (byte ∷ bytes) at past ≡ saying past (scalar table byte bytes at)
digit_first table byte bytes at past digit =
    let sign : (byte == 35) ≡ false = grind (arith, nat_tests, digit) in
    let letter : (byte == 98 || byte == 66) ≡ false = grind (arith, nat_tests, digit) in
    rw sign (rw letter (rw digit refl))

pub scalar_first : (table : List Code) (bytes : List ℕ) (at : ℕ) (past : Past) → 1 ≤ length bytes → is_digit (get_or bytes 0 0) ≡ true
    → first_word table bytes at past ≡ saying past (scalar table (get_or bytes 0 0) (take (length bytes - 1) (drop 1 bytes)) at)
scalar_first table [] at past some digit = absurd (omega (arith, some))
scalar_first table (byte ∷ bytes) at past some digit =
    digit_first table byte bytes at past digit ∙ ap (λ (code : List ℕ). saying past (scalar table byte code at)) (sym (take_all (length (byte ∷ bytes) - 1) bytes (omega arith)))

-- a word with no marker has a byte
pub some_byte : (bytes : List ℕ) → has_no_marker bytes ≡ true → 1 ≤ length bytes
some_byte [] free = absurd (let no : false ≡ true = free in cc)
some_byte (byte ∷ bytes) free = omega arith

-- any other word where nothing has begun should begin with a dollar sign
no_marker : (byte : ℕ) (bytes : List ℕ) → has_no_marker (byte ∷ bytes) ≡ true → is_marker byte ≡ false
no_marker byte bytes free = elim (cases_Bool (is_marker byte)) [
  | inl marker ↦ absurd (let no : false ≡ true = rw marker at free in cc)
  | inr other ↦ other
]

pub dollar_first : (table : List Code) (bytes : List ℕ) (at : ℕ) (past : Past) → has_no_marker bytes ≡ true → is_digit (get_or bytes 0 0) ≡ false → is_passed_letter (get_or bytes 0 0) ≡ false
    → first_word table bytes at past ≡ dollar_word bytes at past
dollar_first table [] at past free digit letter = absurd (let no : false ≡ true = free in cc)
dollar_first table (byte ∷ bytes) at past free digit letter =
    let marker : is_marker byte ≡ false = no_marker byte bytes free in
    let sign : (byte == 35) ≡ false = grind (arith, nat_tests, marker) in
    let digits : (byte == 98 || byte == 66) ≡ false = grind (arith, nat_tests, marker) in
    rw sign (rw digits (rw digit (rw letter refl)))

-- nothing has begun
pub at_rest : (begun : Begun) → has_begun begun ≡ false → begun ≡ nothing
at_rest nothing e = refl
at_rest (digits first) e = cc
at_rest passed e = cc
at_rest comment e = cc

pub rests : (kept : Reading) (spec : BodyReading) → IsReading kept spec → spec.begun ≡ nothing → IsAtRest kept spec.past
rests kept spec r e = record { past = r.past; begun = subst (IsBegun kept.begun) e r.begun }

pub word_at_rest : (table : List Code) (spec : BodyReading) (at : ℕ) (word : List ℕ) → spec.begun ≡ nothing → 0 < length word → last_said table spec at word ≡ first_word table word at spec.past
word_at_rest table spec at [] e some = absurd (omega (arith, some))
word_at_rest table spec at (byte ∷ bytes) e some = rw e refl

-- the digits of a change were read
pub record HasDigits (start : VectorStart) (begun : Begun) : Type 0 where
  pub first : Word
  pub is : begun ≡ digits first
  pub kept : IsVectorStart start first

pub has_digits : (start : VectorStart) (begun : Begun) → IsBegun (begun_row.Digits start) begun → HasDigits start begun
has_digits start nothing b = absurd b
has_digits start (digits first) b = record { first = first; is = refl; kept = b }
has_digits start passed b = absurd b
has_digits start comment b = absurd b
