-- A text of which the words so far are known, one byte more at its end.
use Rattle.std.proofs.Common.{◌≡◌, ℕ, ◌+◌, ◌-◌, ◌≤◌, Bool, true, false, cond, eqb, ◌&&◌, List, [], ◌∷◌, ◌++◌, length, Ok, Err, refl, sym, ap, subst, ◌∙◌, append_assoc, inl, inr, arith}
use Rattle.std.specs.Prelude.{not, nat_lt}
use Rattle.std.proofs.lemmas.Bool.{cases_Bool}
use Rattle.std.proofs.lemmas.Bool.Decides.{nat_tests}
use Rattle.std.proofs.lemmas.List.{length-append, append-nil}
use Rattle.vcd_reader.specs.Words.{Word, is_white_space, joined, words_from, words_of, ends_open, IsWhole, IsBlack}
use Rattle.vcd_reader.specs.Reading.{HeaderReading, Meaning, header, body, fault, room_of, stop_of, reading_on, with_word, meaning_after, meaning_of, start, last_word, after_header_word, body_after}
use Rattle.vcd_reader.specs.Text.{Stands, word_at, after, HasFault, behind_a_word, in_a_word, EndsWithFault, in_the_last_word, cut_short, EndsAs}
use Rattle.vcd_reader.specs.declared.fault.DumpFault.{DumpFault}
use Rattle.vcd_reader.specs.declared.fault.DumpFault.TheVariants.{At}
use Rattle.vcd_reader.specs.declared.fault.DumpKind.TheVariants.{Truncated, HeaderTooLong}
use Rattle.vcd_reader.proofs.DigitLemmas.{list_all-push}

ends-push : (before : Bool) (text : List ℕ) (space : ℕ) → ends_open before (text ++ space ∷ []) ≡ is_white_space space
ends-push before [] space = refl
ends-push before (byte ∷ text) space = ends-push (is_white_space byte) text space

-- white space at the end is no word
words_from-space : (at : ℕ) (text : List ℕ) (space : ℕ) → is_white_space space ≡ true → words_from at (text ++ space ∷ []) ≡ words_from at text
words_from-space at [] space white = rw white refl
words_from-space at (byte ∷ text) space white = ap (λ (words : List Word). cond (is_white_space byte) words (joined at byte words)) (words_from-space (at + 1) text space white)

-- a byte before a word joins it
joined-next : (at byte : ℕ) (bytes : List ℕ) (words : List Word) → joined at byte (record { at = at + 1; bytes = bytes } ∷ words) ≡ record { at = at; bytes = byte ∷ bytes } ∷ words
joined-next at byte bytes words = let same : eqb (at + 1) (at + 1) ≡ true = grind (arith, nat_tests) in rw same refl

pub black-first : (byte : ℕ) (word : List ℕ) → IsBlack (byte ∷ word) → (is_white_space byte ≡ false) × IsBlack word
black-first byte word black = elim (cases_Bool (is_white_space byte)) [
  | inl white ↦ absurd (let no : false ≡ true = rw white at black in cc)
  | inr other ↦ (other, rw other at black)
]

words_from-black : (at : ℕ) (word : List ℕ) → IsBlack word → words_from at word ≡ word_at at word
words_from-black at [] black = refl
words_from-black at (byte ∷ []) black = let b = black-first byte [] black in rw b.0 refl
words_from-black at (byte ∷ next ∷ word) black =
    let b = black-first byte (next ∷ word) black in
    let rest = words_from-black (at + 1) (next ∷ word) b.1 in
    ap (λ v. cond v (words_from (at + 1) (next ∷ word)) (joined at byte (words_from (at + 1) (next ∷ word)))) b.0 ∙ ap (joined at byte) rest ∙ joined-next at byte (next ∷ word) []

-- a byte joins a word that begins directly after it, and no word further on
joined-append : (at byte further : ℕ) (words : List Word) (word : List ℕ) → (words ≡ [] → at + 2 ≤ further) → joined at byte (words ++ word_at further word) ≡ joined at byte words ++ word_at further word
joined-append at byte further [] [] apart = refl
joined-append at byte further [] (next ∷ word) apart = let away = apart refl in let no : eqb further (at + 1) ≡ false = grind (arith, nat_tests, away) in rw no refl
joined-append at byte further (first ∷ words) word apart =
    elim (eqb first.at (at + 1)) as (λ v. cond v (record { at = at; bytes = byte ∷ first.bytes } ∷ (words ++ word_at further word)) (record { at = at; bytes = byte ∷ [] } ∷ first ∷ (words ++ word_at further word))
    ≡ cond v (record { at = at; bytes = byte ∷ first.bytes } ∷ words) (record { at = at; bytes = byte ∷ [] } ∷ first ∷ words) ++ word_at further word) [ true ↦ refl | false ↦ refl ]

some_between : (byte : ℕ) (front : List ℕ) → is_white_space byte ≡ false → ends_open (is_white_space byte) front ≡ true → 1 ≤ length front
some_between byte [] black whole = absurd (let no : false ≡ true = sym black ∙ whole in cc)
some_between byte (b ∷ front) black whole = omega arith

-- after whole words a word is one more
words_from-word : (before : Bool) (at : ℕ) (front word : List ℕ) → ends_open before front ≡ true → IsBlack word → words_from at (front ++ word) ≡ words_from at front ++ word_at (at + length front) word
words_from-word before at [] word whole black = let same : at ≡ at + length {A = ℕ} [] = omega arith in words_from-black at word black ∙ ap (λ (k : ℕ). word_at k word) same
words_from-word before at (byte ∷ front) word whole black =
    let rest = words_from-word (is_white_space byte) (at + 1) front word whole black in
    let same : at + 1 + length front ≡ at + length (byte ∷ front) = omega arith in
    elim (cases_Bool (is_white_space byte)) [
      | inl white ↦ rw white (rest ∙ ap (λ (k : ℕ). words_from (at + 1) front ++ word_at k word) same)
      | inr other ↦ rw other (ap (joined at byte) rest ∙ joined-append at byte (at + 1 + length front) (words_from (at + 1) front) word (λ none. let some = some_between byte front other whole in omega (arith, some))
          ∙ ap (λ (k : ℕ). joined at byte (words_from (at + 1) front) ++ word_at k word) same)
    ]

pub meaning-append : (means : Meaning) (words others : List Word) → meaning_after means (words ++ others) ≡ meaning_after (meaning_after means words) others
meaning-append means [] others = refl
meaning-append means (word ∷ words) others = meaning-append (with_word means word) words others

-- the words of a text mean what those of its front do, with its last word
pub meaning_at_end : (text word : List ℕ) (means : Meaning) → Stands text means word → meaning_of (words_of text) ≡ after means (length text) word
meaning_at_end text word means s =
    let long : length text ≡ length s.front + length word = ap length s.split ∙ length-append s.front word in
    let at : 0 + length s.front ≡ length text - length word = omega (arith, long) in
    ap (λ (t : List ℕ). meaning_of (words_of t)) s.split ∙ ap (λ (words : List Word). meaning_of words) (words_from-word true 0 s.front word s.whole s.black)
    ∙ meaning-append start (words_of s.front) (word_at (0 + length s.front) word) ∙ ap (λ (k : ℕ). meaning_after (meaning_of (words_of s.front)) (word_at k word)) at
    ∙ ap (λ (m : Meaning). meaning_after m (word_at (length text - length word) word)) s.meaning

longer : (text : List ℕ) (byte : ℕ) → length (text ++ byte ∷ []) ≡ length text + 1
longer text byte = length-append text (byte ∷ [])

-- after white space the text is whole words, whose meaning is known
pub meaning_behind : (text word : List ℕ) (means next : Meaning) (space : ℕ) → Stands text means word → is_white_space space ≡ true → after means (length text) word ≡ next → IsWhole (text ++ space ∷ []) × (meaning_of (words_of (text ++ space ∷ [])) ≡ next)
meaning_behind text word means next space s white e =
    (ends-push true text space ∙ white, ap (λ (words : List Word). meaning_of words) (words_from-space 0 text space white) ∙ meaning_at_end text word means s ∙ e)

-- after white space the text is whole words
pub stands_behind : (text word : List ℕ) (means next : Meaning) (space : ℕ) → Stands text means word → is_white_space space ≡ true → after means (length text) word ≡ next → length text + 1 ≤ room_of next → Stands (text ++ space ∷ []) next []
stands_behind text word means next space s white e room = record {
  front = text ++ space ∷ [];
  split = sym (append-nil (text ++ space ∷ []));
  whole = (meaning_behind text word means next space s white e).0;
  black = refl;
  meaning = (meaning_behind text word means next space s white e).1;
  within = omega (arith, longer text space, room);
}

and_black : (a b : Bool) → a ≡ true → b ≡ false → (a && not b) ≡ true
and_black a b first second = rw (first, second) refl

-- a byte that is no white space goes on with the word
pub stands_byte : (text word : List ℕ) (means : Meaning) (byte : ℕ) → Stands text means word → is_white_space byte ≡ false → length text + 1 ≤ room_of means → Stands (text ++ byte ∷ []) means (word ++ byte ∷ [])
stands_byte text word means byte s black room = record {
  front = s.front;
  split = ap (λ (t : List ℕ). t ++ byte ∷ []) s.split ∙ append_assoc s.front word (byte ∷ []);
  whole = s.whole;
  black = list_all-push (λ b. not (is_white_space b)) word byte ∙ and_black _ _ s.black black;
  meaning = s.meaning;
  within = omega (arith, longer text byte, room);
}

-- ---- faults

-- a fault stays there whatever comes after it
pub fault_stays : (text more : List ℕ) (f : DumpFault) → HasFault text f → HasFault (text ++ more) f
fault_stays text more f (behind_a_word before word rest means next space s white e room) = subst (λ (t : List ℕ). HasFault t (stop_of next)) (sym (append_assoc before (space ∷ rest) more)) (behind_a_word before word (rest ++ more) means next space s white e room)
fault_stays text more f (in_a_word before word rest means byte s black room) = subst (λ (t : List ℕ). HasFault t (stop_of means)) (sym (append_assoc before (byte ∷ rest) more)) (in_a_word before word (rest ++ more) means byte s black room)

-- ---- the header

-- a word for which there is room
pub with_room : (means : Meaning) (word : Word) → word.at + length word.bytes ≤ room_of means → with_word means word ≡ reading_on means word
with_room means word room = let fits : nat_lt (room_of means) (word.at + length word.bytes) ≡ false = grind (arith, nat_tests) in rw fits refl

-- there is room for the last word of a text
pub has_room : (text word : List ℕ) (means : Meaning) → Stands text means word → length text - length word + length word ≤ room_of means
has_room text word means s =
    let long : length text ≡ length s.front + length word = ap length s.split ∙ length-append s.front word in
    let within = s.within in
    omega (arith, long, within)

after_header : (text word : List ℕ) (reading : HeaderReading) → Stands text (header reading) word → after (header reading) (length text) word ≡ after_header_word (last_word reading (length text) word)
after_header text [] reading s = refl
after_header text (byte ∷ word) reading s = with_room (header reading) (record { at = length text - length (byte ∷ word); bytes = byte ∷ word }) (has_room text (byte ∷ word) (header reading) s)

pub header_goes_on : (text word : List ℕ) (reading next : HeaderReading) (space : ℕ) → Stands text (header reading) word → is_white_space space ≡ true → last_word reading (length text) word ≡ Ok (false, next) → length text + 1 ≤ 67108864 → Stands (text ++ space ∷ []) (header next) []
header_goes_on text word reading next space s white e room = stands_behind text word (header reading) (header next) space s white (after_header text word reading s ∙ ap after_header_word e) room

pub header_is_done : (text word : List ℕ) (reading next : HeaderReading) (space : ℕ) → Stands text (header reading) word → is_white_space space ≡ true → last_word reading (length text) word ≡ Ok (true, next) → Stands (text ++ space ∷ []) (body (body_after next.declared)) []
header_is_done text word reading next space s white e = let within = s.within in stands_behind text word (header reading) (body (body_after next.declared)) space s white (after_header text word reading s ∙ ap after_header_word e) (omega (arith, within))

pub header_fault : (text word : List ℕ) (reading : HeaderReading) (f : DumpFault) (space : ℕ) → Stands text (header reading) word → is_white_space space ≡ true → last_word reading (length text) word ≡ Err f → HasFault (text ++ space ∷ []) f
header_fault text word reading f space s white e = behind_a_word text word [] (header reading) (fault f) space s white (after_header text word reading s ∙ ap after_header_word e) (omega arith)

pub header_too_long : (text word : List ℕ) (reading next : HeaderReading) (space : ℕ) → Stands text (header reading) word → is_white_space space ≡ true → last_word reading (length text) word ≡ Ok (false, next) → 67108864 ≤ length text → HasFault (text ++ space ∷ []) (At HeaderTooLong 67108864)
header_too_long text word reading next space s white e room = behind_a_word text word [] (header reading) (header next) space s white (after_header text word reading s ∙ ap after_header_word e) room

pub header_word_too_long : (text word : List ℕ) (reading : HeaderReading) (byte : ℕ) → Stands text (header reading) word → is_white_space byte ≡ false → 67108864 ≤ length text → HasFault (text ++ byte ∷ []) (At HeaderTooLong 67108864)
header_word_too_long text word reading byte s black room = in_a_word text word [] (header reading) byte s black room

pub header_ends : (text word : List ℕ) (reading next : HeaderReading) → Stands text (header reading) word → last_word reading (length text) word ≡ Ok (true, next) → EndsAs text (body_after next.declared)
header_ends text word reading next s e = record { word = word; means = header reading; stands = s; whole = refl; meaning = after_header text word reading s ∙ ap after_header_word e; closed = refl }

pub header_ends_with_fault : (text word : List ℕ) (reading : HeaderReading) (f : DumpFault) → Stands text (header reading) word → last_word reading (length text) word ≡ Err f → EndsWithFault text f
header_ends_with_fault text word reading f s e = in_the_last_word text word (header reading) f s refl (after_header text word reading s ∙ ap after_header_word e)

pub header_cut_short : (text word : List ℕ) (reading next : HeaderReading) → Stands text (header reading) word → last_word reading (length text) word ≡ Ok (false, next) → EndsWithFault text (At Truncated (length text))
header_cut_short text word reading next s e = cut_short text word (header reading) s (rw (after_header text word reading s ∙ ap after_header_word e) refl)
