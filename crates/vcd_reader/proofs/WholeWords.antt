-- The reader of a body after a whole word and white space.
use Rattle.std.proofs.Common.{◌≡◌, ℕ, zero, suc, ◌+◌, ◌-◌, ◌<◌, ◌≤◌, true, false, List, [], ◌∷◌, ◌++◌, length, take, drop, get_or, Some, Result, Ok, Err, refl, sym, ap, subst, ◌∙◌, append_assoc, arith}
use Rattle.std.specs.List.{position}
use Rattle.std.proofs.lemmas.List.{length-append, append-nil, take_more, take-append-drop}
use Rattle.std.proofs.lemmas.List.Quantifiers.{position-Some}
use Rattle.std.proofs.Math.Seq.{take-add}
use Rattle.vcd_reader.specs.Words.{is_white_space, IsBlack}
use Rattle.vcd_reader.specs.Codes.{Code}
use Rattle.vcd_reader.specs.Body.{BodyReading, has_begun, last_said}
use Rattle.vcd_reader.specs.Reading.{Body, Meaning, body, fault, room_of, after_body_word}
use Rattle.vcd_reader.specs.Text.{Stands, after, behind_a_word}
use Rattle.vcd_reader.specs.Holding.{IsReading, IsWord, Gives}
use Rattle.vcd_reader.specs.BodyStanding.{BodyStands, IsBehind, SaysNext}
use Rattle.vcd_reader.specs.declared.body_reader.BodyReader.{BodyReader}
use Rattle.vcd_reader.specs.declared.word.Word.TheVariants as word_row
use Rattle.vcd_reader.specs.declared.filter.Filter.{Filter}
use Rattle.vcd_reader.specs.declared.reading.Reading.{Reading as ReadingRow}
use Rattle.vcd_reader.specs.declared.says.Says.{Says}
use Rattle.vcd_reader.specs.Hearing.{said_by}
use Rattle.vcd_reader.specs.Passing.{Passing}
use Rattle.vcd_reader.specs.declared.fault.DumpFault.{DumpFault}
use Rattle.vcd_reader.proofs.TextLemmas.{stands_behind, stands_byte, black-first}
use Rattle.vcd_reader.proofs.BodyStanding.{behind_stays, gives_ok, gives_err, last_said-at, after_body, passing_next, with_said}

-- a word that goes on with bytes that are no white space
pub stands_word : (text word more : List ℕ) (means : Meaning) → Stands text means word → IsBlack more → length text + length more ≤ room_of means → Stands (text ++ more) means (word ++ more)
stands_word text word [] means s black room = subst (λ (t : List ℕ). Stands t means (word ++ [])) (sym (append-nil text)) (subst (λ (w : List ℕ). Stands text means w) (sym (append-nil word)) s)
stands_word text word (byte ∷ more) means s black room =
    let first = black-first byte more black in
    let next = stands_byte text word means byte s first.0 (omega (arith, room)) in
    let rest = stands_word (text ++ byte ∷ []) (word ++ byte ∷ []) more means next first.1 (omega (arith, room, length-append text (byte ∷ []))) in
    subst (λ (t : List ℕ). Stands t means (word ++ byte ∷ more)) (append_assoc text (byte ∷ []) more) (subst (λ (w : List ℕ). Stands ((text ++ byte ∷ []) ++ more) means w) (append_assoc word (byte ∷ []) more) rest)

-- the reader is between two words
pub none_kept : (reader : BodyReader) (text : List ℕ) (b : Body) (s : BodyStands reader text b) → reader.word ≡ word_row.None → s.word ≡ []
none_kept reader text b s none = subst (λ w. IsWord w (has_begun b.reading.begun) s.word) none s.kept

-- a whole word after the text
stands_whole : (reader : BodyReader) (text word : List ℕ) (b : Body) → reader.word ≡ word_row.None → IsBlack word → BodyStands reader text b → reader.at + length word < 1099511627776 → Stands (text ++ word) (body b) word
stands_whole reader text word b none black s room =
    let at = s.at in
    stands_word text [] word (body b) (subst (λ (w : List ℕ). Stands text (body b) w) (none_kept reader text b s none) s.stands) black (omega (arith, at, room))

-- what a whole word means is what the reader of words is asked
read_whole : (reader : BodyReader) (text word : List ℕ) (b : Body) (s : BodyStands reader text b) → Stands (text ++ word) (body b) word → after (body b) (length (text ++ word)) word ≡ after_body_word b (last_said reader.codes b.reading reader.at word)
read_whole reader text word b s stands =
    let at = s.at in
    let long = length-append text word in
    let same : 0 < length word → length (text ++ word) - length word ≡ reader.at = λ some. omega (arith, at, long) in
    after_body (text ++ word) word b stands ∙ ap (after_body_word b) (last_said-at b.codes b.reading _ reader.at word same ∙ ap (λ (table : List Code). last_said table b.reading reader.at word) (sym s.codes))

-- what the reader of words is asked of a whole word, and what it answers and keeps
abbrev pub ReadsWhole : Filter → BodyReader → List ℕ → Result Says DumpFault → ReadingRow → Type 0
ReadsWhole f reader word answered kept = (reading : BodyReading) → IsReading reader.reading reading → Gives f answered kept (last_said reader.codes reading reader.at word)

pub word_said : (f : Filter) (old new : BodyReader) (text word : List ℕ) (space : ℕ) (b : Body) (says : Says) → ReadsWhole f old word (Ok says) new.reading → old.at + length word < 1099511627776
    → new.codes ≡ old.codes → new.at ≡ old.at + (length word + 1) → new.word ≡ old.word → new.is_at_end ≡ old.is_at_end
    → old.word ≡ word_row.None → IsBlack word → is_white_space space ≡ true → BodyStands old text b → Passing f b (SaysNext (said_by says new.reading) new (text ++ (word ++ space ∷ [])))
word_said f old new text word space b says reads room codes at same going none black white s =
    let a = gives_ok f says new.reading _ (reads b.reading s.reading) in
    let long = s.at in
    let next = with_said b a.said in
    let whole = stands_whole old text word b none black s room in
    let means : after (body b) (length (text ++ word)) word ≡ body next = read_whole old text word b s whole ∙ ap (after_body_word b) a.is in
    let more : length ((text ++ word) ++ space ∷ []) ≡ length text + (length word + 1) = omega (arith, length-append (text ++ word) (space ∷ []), length-append text word) in
    subst (λ (t : List ℕ). Passing f b (SaysNext (said_by says new.reading) new t)) (append_assoc text word (space ∷ [])) (passing_next f a.said.0 (said_by says new.reading) new ((text ++ word) ++ space ∷ []) b a.same.says (record {
      next = next;
      stands = record {
        word = [];
        stands = stands_behind (text ++ word) word (body b) (body next) space whole white means (omega (arith, long, room, length-append text word));
        at = omega (arith, at, long, more);
        codes = codes ∙ s.codes;
        reading = a.same.reading;
        kept = subst (λ w. IsWord w (has_begun a.said.1.begun) []) (sym (same ∙ none)) refl;
        place = λ some. absurd (omega (arith, some));
        goes_on = going ∙ s.goes_on;
      };
      said = record { items = refl; vars = refl };
    }))

pub word_fault : (f : Filter) (old : BodyReader) (text word : List ℕ) (space : ℕ) (b : Body) (kept : ReadingRow) (found : DumpFault) → ReadsWhole f old word (Err found) kept → old.at + length word < 1099511627776
    → old.word ≡ word_row.None → IsBlack word → is_white_space space ≡ true → BodyStands old text b → IsBehind (text ++ (word ++ space ∷ [])) b found
word_fault f old text word space b kept found reads room none black white s =
    let e = gives_err f kept found _ (reads b.reading s.reading) in
    let whole = stands_whole old text word b none black s room in
    let means : after (body b) (length (text ++ word)) word ≡ fault found = read_whole old text word b s whole ∙ ap (after_body_word b) e in
    record {
      before = text ++ word;
      byte = space;
      rest = [];
      now = record { last = b; word = word; stands = whole; items = refl; vars = refl };
      split = sym (append_assoc text word (space ∷ []));
      fault = behind_a_word (text ++ word) word [] (body b) (fault found) space whole white means (omega arith);
    }

-- ---- a word of a piece

-- bytes before the first white space are no white space
black_front : (bytes : List ℕ) (count : ℕ) → count ≤ length bytes → ((k : ℕ) → k < count → is_white_space (get_or bytes k 0) ≡ false) → IsBlack (take count bytes)
black_front bytes zero within each = refl
black_front [] (suc count) within each = absurd (omega (arith, within))
black_front (byte ∷ bytes) (suc count) within each = rw (each 0 (omega arith)) (black_front bytes count (omega (arith, within)) (λ k less. each (suc k) (omega (arith, less))))

-- the word that a piece begins with, and the white space after it
pub record IsFront (piece : List ℕ) (count : ℕ) : Type 0 where
  pub within : count < length piece
  pub black : IsBlack (take count piece)
  pub white : is_white_space (get_or piece count 0) ≡ true
  pub is : take count piece ++ get_or piece count 0 ∷ [] ≡ take (count + 1) piece

pub is_front : (piece : List ℕ) (count : ℕ) → position is_white_space piece ≡ Some count → IsFront piece count
is_front piece count is =
    let found = position-Some is_white_space piece count 0 is in
    record {
      within = found.0;
      black = black_front piece count (omega (arith, found.0)) found.2;
      white = found.1;
      is = sym (take_more piece count 0 found.0);
    }

-- a fault in the front of a piece is one of the piece
pub fault_in_front : (text piece : List ℕ) (count : ℕ) (b : Body) (f : DumpFault) → IsFront piece count → IsBehind (text ++ (take count piece ++ get_or piece count 0 ∷ [])) b f → IsBehind (text ++ piece) b f
fault_in_front text piece count b f front found =
    let read : IsBehind (text ++ take (count + 1) piece) b f = subst (λ (t : List ℕ). IsBehind (text ++ t) b f) front.is found in
    subst (λ (t : List ℕ). IsBehind t b f) (append_assoc text (take (count + 1) piece) (drop (count + 1) piece) ∙ ap (λ (t : List ℕ). text ++ t) (take-append-drop (count + 1) piece)) (behind_stays (text ++ take (count + 1) piece) (drop (count + 1) piece) b f read)

-- a fault in the first byte of a piece is one of the piece
pub fault_of_byte : (text piece : List ℕ) (byte : ℕ) (b : Body) (f : DumpFault) → 0 < length piece → IsBehind (text ++ get_or piece 0 byte ∷ []) b f → IsBehind (text ++ piece) b f
fault_of_byte text [] byte b f some found = absurd (omega (arith, some))
fault_of_byte text (first ∷ piece) byte b f some found = subst (λ (t : List ℕ). IsBehind t b f) (append_assoc text (first ∷ []) piece) (behind_stays (text ++ first ∷ []) piece b f found)

-- what comes after the front of a piece belongs to the piece
pub further : (text piece : List ℕ) (used more : ℕ) → (text ++ take used piece) ++ take more (drop used piece) ≡ text ++ take (used + more) piece
further text piece used more = append_assoc text (take used piece) (take more (drop used piece)) ∙ ap (λ (t : List ℕ). text ++ t) (sym (take-add used more piece))

-- a fault in what comes after the front of a piece is one of the piece
pub fault_in_rest : (text piece : List ℕ) (used : ℕ) (b : Body) (f : DumpFault) → IsBehind ((text ++ take used piece) ++ drop used piece) b f → IsBehind (text ++ piece) b f
fault_in_rest text piece used b f found = subst (λ (t : List ℕ). IsBehind t b f) (append_assoc text (take used piece) (drop used piece) ∙ ap (λ (t : List ℕ). text ++ t) (take-append-drop used piece)) found
