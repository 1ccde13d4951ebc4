-- A whole change of a vector at the front of a piece.
use Rattle.std.proofs.Common.{◌≡◌, ℕ, suc, ◌+◌, ◌<◌, ◌≤◌, Bool, true, false, List, [], ◌∷◌, ◌++◌, length, take, drop, get_or, Some, Ok, Err, refl, sym, ap, ap₂, subst, ◌∙◌, inl, inr, arith}
use Rattle.std.specs.List.{list_all, position, prefix_len}
use Rattle.std.proofs.lemmas.Bool.{cases_Bool}
use Rattle.std.proofs.lemmas.Bool.Decides.{nat_tests}
use Rattle.std.proofs.lemmas.List.{drop-drop, get_or-drop, length-drop, length-take, take_more}
use Rattle.vcd_reader.specs.Words.{is_white_space, IsBlack}
use Rattle.vcd_reader.specs.Values.{is_digit}
use Rattle.vcd_reader.specs.Body.{change}
use Rattle.vcd_reader.specs.Reading.{Body}
use Rattle.vcd_reader.specs.Holding.{GivesChange}
use Rattle.vcd_reader.specs.Hearing.{change_says, said_by}
use Rattle.vcd_reader.specs.Passing.{Passing}
use Rattle.vcd_reader.specs.Vectors.{is_vector_letter, IsVectorFront}
use Rattle.vcd_reader.specs.BodyStanding.{BodyStands, IsBehind, SaysNext}
use Rattle.vcd_reader.specs.declared.body_reader.BodyReader.{BodyReader}
use Rattle.vcd_reader.specs.declared.word.Word.TheVariants as word_row
use Rattle.vcd_reader.specs.declared.filter.Filter.{Filter}
use Rattle.vcd_reader.specs.declared.reading.Begun.TheVariants as begun_row
use Rattle.vcd_reader.specs.declared.reading.Change.{Change}
use Rattle.vcd_reader.specs.declared.says.Says.{Says}
use Rattle.vcd_reader.specs.declared.vector.VectorFront.{VectorFront}
use Rattle.vcd_reader.specs.declared.fault.DumpFault.{DumpFault}
use Rattle.vcd_reader.proofs.BodyStanding.{behind_stays}
use Rattle.vcd_reader.proofs.WholeWords.{IsFront, fault_in_rest, further, is_front}
use Rattle.vcd_reader.proofs.VectorWords.{vector_fault, vector_said}

one_more_passes : (p : ℕ → Bool) (byte count : ℕ) (bytes : List ℕ) → p byte ≡ true → list_all p (take count bytes) ≡ true → list_all p (take (1 + count) (byte ∷ bytes)) ≡ true
one_more_passes p byte count bytes passes each =
    let next : suc count ≡ 1 + count = omega arith in
    let both : list_all p (take (suc count) (byte ∷ bytes)) ≡ true = rw passes each in
    subst (λ (k : ℕ). list_all p (take k (byte ∷ bytes)) ≡ true) next both

-- the bytes that a run of digits counts are digits
pub run_passes : (p : ℕ → Bool) (bytes : List ℕ) → list_all p (take (prefix_len p bytes) bytes) ≡ true
run_passes p [] = refl
run_passes p (byte ∷ bytes) = elim (cases_Bool (p byte)) [
  | inl passes ↦ rw passes (one_more_passes p byte (prefix_len p bytes) bytes passes (run_passes p bytes))
  | inr fails ↦ rw fails refl
]

-- digits are no white space
digit_black : (byte : ℕ) → is_digit byte ≡ true → is_white_space byte ≡ false
digit_black byte digit = grind (arith, nat_tests, digit)

digits_black : (word : List ℕ) → list_all is_digit word ≡ true → IsBlack word
digits_black [] each = refl
digits_black (byte ∷ word) each = elim (cases_Bool (is_digit byte)) [
  | inl digit ↦ rw (digit_black byte digit) (digits_black word (rw digit at each))
  | inr other ↦ absurd (let wrong : false ≡ true = rw other at each in cc)
]

letter_black : (letter : ℕ) (word : List ℕ) → is_vector_letter letter ≡ true → IsBlack word → IsBlack (letter ∷ word)
letter_black letter word is black = let free : is_white_space letter ≡ false = grind (arith, nat_tests, is) in rw free black

-- the letter, the digits and the white space after them are the front of the piece
front_is : (piece : List ℕ) (count : ℕ) → count + 2 ≤ length piece → (get_or piece 0 0 ∷ take count (drop 1 piece)) ++ get_or (drop count (drop 1 piece)) 0 0 ∷ [] ≡ take (count + 2) piece
front_is [] count within = absurd (omega (arith, within))
front_is (letter ∷ rest) count within =
    let here : count + 0 ≡ count = omega arith in
    let whole : suc count + 1 ≡ count + 2 = omega arith in
    let inside : suc count < length (letter ∷ rest) = omega (arith, within) in
    ap (λ (byte : ℕ). (letter ∷ take count rest) ++ byte ∷ []) (get_or-drop count rest 0 0 ∙ ap (λ (k : ℕ). get_or rest k 0) here)
    ∙ sym (take_more (letter ∷ rest) (suc count) 0 inside) ∙ ap (λ (k : ℕ). take k (letter ∷ rest)) whole

-- the code and the white space after it come next in the piece
code_front : (piece : List ℕ) (front : VectorFront) → IsVectorFront piece front → IsFront (drop (front.digits + 2) piece) front.code
code_front piece front is =
    let after : drop 1 (drop front.digits (drop 1 piece)) ≡ drop (front.digits + 2) piece =
    drop-drop 1 front.digits (drop 1 piece) ∙ drop-drop (front.digits + 1) 1 piece ∙ (let same : 1 + (front.digits + 1) ≡ front.digits + 2 = omega arith in ap (λ (k : ℕ). drop k piece) same) in
    is_front (drop (front.digits + 2) piece) front.code (subst (λ (bytes : List ℕ). position is_white_space bytes ≡ Some front.code) after is.words.code.word)

module _ (f : Filter) (old : BodyReader) (text piece : List ℕ) (b : Body) (front : VectorFront) (is : IsVectorFront piece front) (room : old.at + front.digits + front.code + 3 ≤ 1099511627776)
    (none : old.word ≡ word_row.None) (rest : old.reading.begun ≡ begun_row.Nothing) (s : BodyStands old text b) where
  abbrev word : List ℕ
  word = take front.digits (drop 1 piece)

  abbrev code : List ℕ
  code = take front.code (drop (front.digits + 2) piece)

  word_long : length word ≡ front.digits
  word_long = omega (arith, length-take front.digits (drop 1 piece), length-drop 1 piece, is.within)

  code_long : length code ≡ front.code
  code_long = omega (arith, length-take front.code (drop (front.digits + 2) piece), (code_front piece front is).within)

  whole_is : (text ++ ((get_or piece 0 0 ∷ word) ++ get_or (drop front.digits (drop 1 piece)) 0 0 ∷ [])) ++ (code ++ get_or (drop (front.digits + 2) piece) front.code 0 ∷ [])
      ≡ text ++ take (front.digits + 2 + (front.code + 1)) piece
  whole_is =
      ap₂ (λ (first second : List ℕ). (text ++ first) ++ second) (front_is piece front.digits (omega (arith, is.within))) (code_front piece front is).is ∙ further text piece (front.digits + 2) (front.code + 1)

  pub piece_said : (new : BodyReader) (is_heard : Bool) (says : Says) (digit_bytes code_bytes : List ℕ) (at used : ℕ) → digit_bytes ≡ drop 1 piece → code_bytes ≡ code → at ≡ old.at + front.digits + 2
      → GivesChange f (Ok is_heard) new.reading.change (change old.codes (take front.digits digit_bytes) old.at code_bytes at) → says ≡ change_says old.reading.past.is_on is_heard → used ≡ front.digits + front.code + 3
      → new.codes ≡ old.codes → new.at ≡ old.at + front.digits + front.code + 3 → new.word ≡ old.word → new.is_at_end ≡ old.is_at_end → new.reading.past ≡ old.reading.past → new.reading.begun ≡ old.reading.begun
      → Passing f b (SaysNext (said_by says new.reading) new (text ++ take used piece))
  piece_said new is_heard says digit_bytes code_bytes at used digits_are code_is at_is gives heard all codes moved same going before kept =
      let here : front.digits + 2 + (front.code + 1) ≡ used = omega (arith, all) in
      let n = word_long in
      let m = code_long in
      let gave : GivesChange f (Ok is_heard) new.reading.change (change old.codes word old.at code at) =
      subst (λ (bytes : List ℕ). GivesChange f (Ok is_heard) new.reading.change (change old.codes word old.at bytes at)) code_is
      (subst (λ (bytes : List ℕ). GivesChange f (Ok is_heard) new.reading.change (change old.codes (take front.digits bytes) old.at code_bytes at)) digits_are gives) in
      let tail = code_front piece front is in
      rw heard (subst (λ (t : List ℕ). Passing f b (SaysNext (said_by (change_says old.reading.past.is_on is_heard) new.reading) new t)) (whole_is ∙ ap (λ (k : ℕ). text ++ take k piece) here)
      (vector_said f old text word code (get_or piece 0 0) (get_or (drop front.digits (drop 1 piece)) 0 0) (get_or (drop (front.digits + 2) piece) front.code 0) b is.letter (omega (arith, n, is.words.some)) is.words.digits
      (letter_black (get_or piece 0 0) word is.letter (digits_black word is.words.digits)) is.words.code.space (omega (arith, m, is.words.code_some)) tail.black tail.white (omega (arith, n, m, room)) none rest s
      new is_heard at (omega (arith, at_is, n)) gave codes (omega (arith, moved, n, m)) same going before kept))

  pub piece_fault : (kept : Change) (found : DumpFault) (digit_bytes code_bytes : List ℕ) (at : ℕ) → digit_bytes ≡ drop 1 piece → code_bytes ≡ code → at ≡ old.at + front.digits + 2
      → GivesChange f (Err found) kept (change old.codes (take front.digits digit_bytes) old.at code_bytes at) → IsBehind (text ++ piece) b found
  piece_fault kept found digit_bytes code_bytes at digits_are code_is at_is gives =
      let n = word_long in
      let m = code_long in
      let gave : GivesChange f (Err found) kept (change old.codes word old.at code at) =
      subst (λ (bytes : List ℕ). GivesChange f (Err found) kept (change old.codes word old.at bytes at)) code_is
      (subst (λ (bytes : List ℕ). GivesChange f (Err found) kept (change old.codes (take front.digits bytes) old.at code_bytes at)) digits_are gives) in
      let tail = code_front piece front is in
      let used = front.digits + 2 + (front.code + 1) in
      let at_front : IsBehind (text ++ take used piece) b found = subst (λ (t : List ℕ). IsBehind t b found) whole_is
      (vector_fault f old text word code (get_or piece 0 0) (get_or (drop front.digits (drop 1 piece)) 0 0) (get_or (drop (front.digits + 2) piece) front.code 0) b is.letter (omega (arith, n, is.words.some)) is.words.digits
      (letter_black (get_or piece 0 0) word is.letter (digits_black word is.words.digits)) is.words.code.space (omega (arith, m, is.words.code_some)) tail.black tail.white (omega (arith, n, m, room)) none rest s
      kept found at (omega (arith, at_is, n)) gave) in
      fault_in_rest text piece used b found (behind_stays (text ++ take used piece) (drop used piece) b found at_front)
