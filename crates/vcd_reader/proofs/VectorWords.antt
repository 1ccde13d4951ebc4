-- The reader of a body after a whole change of a vector.
use Rattle.std.proofs.Common.{◌≡◌, ℕ, ◌+◌, ◌<◌, ◌≤◌, Bool, true, false, List, [], ◌∷◌, ◌++◌, length, Option, Ok, Err, refl, sym, ap, subst, ◌∙◌, append_assoc, arith}
use Rattle.std.specs.Prelude.{◌==◌, nat_lt}
use Rattle.std.specs.List.{list_all}
use Rattle.std.specs.Option.{option_to_list}
use Rattle.std.proofs.lemmas.Bool.Decides.{nat_tests}
use Rattle.std.proofs.lemmas.List.{length-append, append-nil}
use Rattle.vcd_reader.specs.Words.{Word, is_white_space, IsBlack}
use Rattle.vcd_reader.specs.Values.{is_digit}
use Rattle.vcd_reader.specs.Answer.{Answer}
use Rattle.vcd_reader.specs.Codes.{Code}
use Rattle.vcd_reader.specs.Body.{Begun, BodyReading, nothing, digits, passed, comment, behind_letter, begins, change, last_said, recorded, saying}
use Rattle.vcd_reader.specs.Reading.{Body, body, fault, after_body_word}
use Rattle.vcd_reader.specs.Text.{Stands, after, behind_a_word}
use Rattle.vcd_reader.specs.Holding.{GivesChange, IsBegun, IsWord}
use Rattle.vcd_reader.specs.Hearing.{change_by, change_says, heard, said_by}
use Rattle.vcd_reader.specs.Passing.{Passing}
use Rattle.vcd_reader.specs.Vectors.{is_vector_letter}
use Rattle.vcd_reader.specs.BodyStanding.{BodyStands, IsBehind, SaysNext}
use Rattle.vcd_reader.specs.declared.body_reader.BodyReader.{BodyReader}
use Rattle.vcd_reader.specs.declared.word.Word.TheVariants as word_row
use Rattle.vcd_reader.specs.declared.entry.Entry.{Entry}
use Rattle.vcd_reader.specs.declared.filter.Filter.{Filter}
use Rattle.vcd_reader.specs.declared.past.Past.{Past}
use Rattle.vcd_reader.specs.declared.reading.Begun.TheVariants as begun_row
use Rattle.vcd_reader.specs.declared.reading.Begun.{Begun as BegunRow}
use Rattle.vcd_reader.specs.declared.reading.Change.{Change}
use Rattle.vcd_reader.specs.declared.reading.Reading.{Reading as ReadingRow}
use Rattle.vcd_reader.specs.declared.fault.DumpFault.{DumpFault}
use Rattle.vcd_reader.proofs.TextLemmas.{stands_behind}
use Rattle.vcd_reader.proofs.BodyStanding.{after_body, last_said-at, passing_next}
use Rattle.vcd_reader.proofs.WholeWords.{none_kept, stands_word}

-- a word and white space after a text
word_stands : (text word : List ℕ) (space : ℕ) (b next : Body) → Stands (text ++ word) (body b) word → is_white_space space ≡ true → length text + length word < 1099511627776
    → after (body b) (length (text ++ word)) word ≡ body next → Stands (text ++ (word ++ space ∷ [])) (body next) []
word_stands text word space b next s white room means =
    subst (λ (t : List ℕ). Stands t (body next) []) (append_assoc text word (space ∷ [])) (stands_behind (text ++ word) word (body b) (body next) space s white means (omega (arith, room, length-append text word)))

-- what a word after a text means
word_means : (text word : List ℕ) (b : Body) → Stands (text ++ word) (body b) word → after (body b) (length (text ++ word)) word ≡ after_body_word b (last_said b.codes b.reading (length text) word)
word_means text word b s = after_body (text ++ word) word b s ∙ ap (after_body_word b) (last_said-at b.codes b.reading _ (length text) word (λ some. omega (arith, length-append text word)))

-- nothing has begun
begun_nothing : (kept : BegunRow) (begun : Begun) → kept ≡ begun_row.Nothing → IsBegun kept begun → begun ≡ nothing
begun_nothing kept begun none is = nothing_of begun (subst (λ k. IsBegun k begun) none is) where
  nothing_of : (begun : Begun) → IsBegun begun_row.Nothing begun → begun ≡ nothing
  nothing_of nothing i = refl
  nothing_of (digits first) i = absurd i
  nothing_of passed i = absurd i
  nothing_of comment i = absurd i

-- the digits of a change begin it
vector_begins : (table : List Code) (reading : BodyReading) (at letter : ℕ) (word : List ℕ) → reading.begun ≡ nothing → is_vector_letter letter ≡ true → 0 < length word → list_all is_digit word ≡ true
    → last_said table reading at (letter ∷ word) ≡ Ok (begins reading.past (digits (record { at = at; bytes = letter ∷ word })))
vector_begins table reading at letter word none is some each =
    let sign : (letter == 35) ≡ false = grind (arith, nat_tests, is) in
    let full : nat_lt 0 (length word) ≡ true = grind (arith, nat_tests, some) in
    rw none (rw sign (rw is (rw full (rw each refl))))

-- what was answered for the change of a code is its change
pub record IsChanged (f : Filter) (is_heard : Bool) (kept : Change) (answer : Answer (Option Entry)) : Type 0 where
  pub says : Option Entry
  pub is : answer ≡ Ok says
  pub same : change_by is_heard kept ≡ heard f says

changed : (f : Filter) (is_heard : Bool) (kept : Change) (answer : Answer (Option Entry)) → GivesChange f (Ok is_heard) kept answer → IsChanged f is_heard kept answer
changed f is_heard kept (Ok says) gives = record { says = says; is = refl; same = gives }
changed f is_heard kept (Err other) gives = absurd gives

refused : (f : Filter) (kept : Change) (found : DumpFault) (answer : Answer (Option Entry)) → GivesChange f (Err found) kept answer → answer ≡ Err found
refused f kept found (Ok says) gives = absurd gives
refused f kept found (Err other) gives = ap (λ (g : DumpFault). let answer : Answer (Option Entry) = Err g in answer) (sym gives)

-- what is said of a change, where the dump is on, is the change, if it is heard
said_of_change : (f : Filter) (is_on is_heard : Bool) (kept : ReadingRow) (says : Option Entry) → change_by is_heard kept.change ≡ heard f says → said_by (change_says is_on is_heard) kept ≡ heard f (recorded is_on says)
said_of_change f true true kept says same = same
said_of_change f true false kept says same = same
said_of_change f false is_heard kept says same = refl

-- the code of a change whose digits were read
code_said : (table : List Code) (reading : BodyReading) (first : Word) (at : ℕ) (code : List ℕ) → 0 < length code
    → last_said table (record { past = reading.past; begun = digits first }) at code ≡ saying reading.past (change table (behind_letter first.bytes) first.at code at)
code_said table reading first at [] some = absurd (omega (arith, some))
code_said table reading first at (byte ∷ code) some = refl

-- the two words of a change of a vector after a text
module _ (f : Filter) (old : BodyReader) (text word code : List ℕ) (letter space end : ℕ) (b : Body) (is_letter : is_vector_letter letter ≡ true) (some : 0 < length word) (each : list_all is_digit word ≡ true)
    (black : IsBlack (letter ∷ word)) (white : is_white_space space ≡ true) (code_some : 0 < length code) (code_black : IsBlack code) (code_white : is_white_space end ≡ true)
    (room : old.at + length word + length code + 3 ≤ 1099511627776) (none : old.word ≡ word_row.None) (rest : old.reading.begun ≡ begun_row.Nothing) (s : BodyStands old text b) where
  abbrev first : Word
  first = record { at = length text; bytes = letter ∷ word }

  abbrev begun : Body
  begun = record b { items = b.items ++ []; reading = record { past = b.reading.past; begun = digits first } }

  abbrev middle : List ℕ
  middle = text ++ ((letter ∷ word) ++ space ∷ [])

  long : length middle ≡ old.at + length word + 2
  long = let at = s.at in omega (arith, at, length-append text ((letter ∷ word) ++ space ∷ []), length-append (letter ∷ word) (space ∷ []))

  digits_stand : Stands (text ++ (letter ∷ word)) (body b) (letter ∷ word)
  digits_stand =
      let at = s.at in
      stands_word text [] (letter ∷ word) (body b) (subst (λ (w : List ℕ). Stands text (body b) w) (none_kept old text b s none) s.stands) black (omega (arith, at, room))

  middle_stands : Stands middle (body begun) []
  middle_stands =
      let at = s.at in
      word_stands text (letter ∷ word) space b begun digits_stand white (omega (arith, at, room))
      (word_means text (letter ∷ word) b digits_stand ∙ ap (after_body_word b) (vector_begins b.codes b.reading (length text) letter word (begun_nothing old.reading.begun b.reading.begun rest s.reading.begun) is_letter some each))

  code_stands : Stands (middle ++ code) (body begun) code
  code_stands = let at = s.at in stands_word middle [] code (body begun) middle_stands code_black (omega (arith, long, room))

  code_means : after (body begun) (length (middle ++ code)) code ≡ after_body_word begun (saying b.reading.past (change b.codes word (length text) code (length middle)))
  code_means = word_means middle code begun code_stands ∙ ap (after_body_word begun) (code_said b.codes b.reading first (length middle) code code_some)

  asked : (at : ℕ) → at ≡ old.at + length word + 2 → change old.codes word old.at code at ≡ change b.codes word (length text) code (length middle)
  asked at is =
      let here : at ≡ length middle = omega (arith, is, long) in
      ap (λ (table : List Code). change table word old.at code at) s.codes ∙ ap (λ (k : ℕ). change b.codes word k code at) s.at ∙ ap (λ (k : ℕ). change b.codes word (length text) code k) here

  pub vector_said : (new : BodyReader) (is_heard : Bool) (at : ℕ) → at ≡ old.at + length word + 2 → GivesChange f (Ok is_heard) new.reading.change (change old.codes word old.at code at)
      → new.codes ≡ old.codes → new.at ≡ old.at + length word + length code + 3 → new.word ≡ old.word → new.is_at_end ≡ old.is_at_end → new.reading.past ≡ old.reading.past → new.reading.begun ≡ old.reading.begun
      → Passing f b (SaysNext (said_by (change_says old.reading.past.is_on is_heard) new.reading) new (middle ++ (code ++ end ∷ [])))
  vector_said new is_heard at is gives codes moved same going before kept =
      let a = changed f is_heard new.reading.change _ (subst (λ answer. GivesChange f (Ok is_heard) new.reading.change answer) (asked at is) gives) in
      let says = recorded b.reading.past.is_on a.says in
      let next : Body = record begun { items = begun.items ++ option_to_list says; reading = record { past = b.reading.past; begun = nothing } } in
      let means : after (body begun) (length (middle ++ code)) code ≡ body next = code_means ∙ ap (λ (answer : Answer (Option Entry)). after_body_word begun (saying b.reading.past answer)) a.is in
      let here = s.at in
      let on : old.reading.past.is_on ≡ b.reading.past.is_on = ap (λ (past : Past). past.is_on) s.reading.past in
      let heard_is : said_by (change_says old.reading.past.is_on is_heard) new.reading ≡ heard f says = said_of_change f old.reading.past.is_on is_heard new.reading a.says a.same ∙ ap (λ (is_on : Bool). heard f (recorded is_on a.says)) on in
      passing_next f says (said_by (change_says old.reading.past.is_on is_heard) new.reading) new (middle ++ (code ++ end ∷ [])) b heard_is (record {
        next = next;
        stands = record {
          word = [];
          stands = word_stands middle code end begun next code_stands code_white (omega (arith, long, room)) means;
          at = omega (arith, moved, here, long, length-append middle (code ++ end ∷ []), length-append code (end ∷ []));
          codes = codes ∙ s.codes;
          reading = record { past = before ∙ s.reading.past; begun = subst (λ k. IsBegun k nothing) (sym (kept ∙ rest)) tt };
          kept = subst (λ w. IsWord w false []) (sym (same ∙ none)) refl;
          place = λ some. absurd (omega (arith, some));
          goes_on = going ∙ s.goes_on;
        };
        said = record { items = ap (λ (items : List Entry). items ++ option_to_list says) (append-nil b.items); vars = refl };
      })

  pub vector_fault : (kept : Change) (found : DumpFault) (at : ℕ) → at ≡ old.at + length word + 2 → GivesChange f (Err found) kept (change old.codes word old.at code at) → IsBehind (middle ++ (code ++ end ∷ [])) b found
  vector_fault kept found at is gives =
      let e = refused f kept found _ (subst (λ answer. GivesChange f (Err found) kept answer) (asked at is) gives) in
      let means : after (body begun) (length (middle ++ code)) code ≡ fault found = code_means ∙ ap (λ (answer : Answer (Option Entry)). after_body_word begun (saying b.reading.past answer)) e in
      record {
        before = middle ++ code;
        byte = end;
        rest = [];
        now = record { last = begun; word = code; stands = code_stands; items = append-nil b.items; vars = refl };
        split = sym (append_assoc middle code (end ∷ []));
        fault = behind_a_word (middle ++ code) code [] (body begun) (fault found) end code_stands code_white means (omega arith);
      }
