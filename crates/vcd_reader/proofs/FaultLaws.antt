-- Where a text has a fault, reading does not go on, and no dump ends.
use Rattle.std.proofs.Common.{◌≡◌, ℕ, ◌+◌, ◌<◌, ◌≤◌, Bool, true, false, cond, eqb, List, [], ◌∷◌, ◌++◌, length, refl, sym, ap, subst, ◌∙◌, append_assoc, inl, inr, arith}
use Rattle.std.specs.Prelude.{nat_lt}
use Rattle.std.proofs.lemmas.Bool.{cases_Bool, cases_lt}
use Rattle.std.proofs.lemmas.Bool.Decides.{nat_tests}
use Rattle.std.proofs.lemmas.List.{length-append, append-nil}
use Rattle.vcd_reader.specs.Words.{Word, is_white_space, joined, words_from, words_of, ends_open, IsWhole, IsBlack}
use Rattle.vcd_reader.specs.Reading.{Body, Meaning, body, fault, room_of, stop_of, with_word, meaning_after, meaning_of, start}
use Rattle.vcd_reader.specs.Text.{Stands, after, HasFault, behind_a_word, in_a_word, is_alone, is_open, EndsWithFault, in_the_last_word, cut_short, EndsAs}
use Rattle.vcd_reader.specs.declared.fault.DumpFault.{DumpFault}
use Rattle.vcd_reader.proofs.TextLemmas.{meaning-append, meaning_behind, black-first}

-- ---- words in order

-- the words are one after the other from this offset on, and no word is empty
abbrev pub AreInOrder : ℕ → List Word → Type 0
AreInOrder at [] = Unit {0}
AreInOrder at (word ∷ words) = (at ≤ word.at) × (1 ≤ length word.bytes) × AreInOrder (word.at + 1) words

in_order_further : (low at : ℕ) (words : List Word) → low ≤ at → AreInOrder at words → AreInOrder low words
in_order_further low at [] h o = tt
in_order_further low at (word ∷ words) h o = (omega (arith, o.0), o.1, o.2)

in_order_joined : (at b : ℕ) (words : List Word) → AreInOrder (at + 1) words → AreInOrder at (joined at b words)
in_order_joined at b [] o = (omega arith, omega arith, tt)
in_order_joined at b (word ∷ words) o =
    elim (eqb word.at (at + 1)) as (λ v. AreInOrder at (cond v (record { at = at; bytes = b ∷ word.bytes } ∷ words) (record { at = at; bytes = b ∷ [] } ∷ word ∷ words))) [
      | true ↦ (omega arith, omega arith, in_order_further (at + 1) (word.at + 1) words (omega (arith, o.0)) o.2)
      | false ↦ (omega arith, omega arith, o)
    ]

words_in_order : (at : ℕ) (text : List ℕ) → AreInOrder at (words_from at text)
words_in_order at [] = tt
words_in_order at (b ∷ bs) =
    elim (is_white_space b) as (λ v. AreInOrder at (cond v (words_from (at + 1) bs) (joined at b (words_from (at + 1) bs)))) [ true ↦ in_order_further at (at + 1) _ (omega arith) (words_in_order (at + 1) bs) | false ↦ in_order_joined at b _ (words_in_order (at + 1) bs) ]

-- a byte joins no word that begins further on
joined-further : (at byte further : ℕ) (words others : List Word) → (words ≡ [] → at + 2 ≤ further) → AreInOrder further others → joined at byte (words ++ others) ≡ joined at byte words ++ others
joined-further at byte further [] [] apart order = refl
joined-further at byte further [] (other ∷ others) apart order = let away = apart refl in let no : eqb other.at (at + 1) ≡ false = grind (arith, nat_tests, away, order.0) in rw no refl
joined-further at byte further (first ∷ words) others apart order =
    elim (eqb first.at (at + 1)) as (λ v. cond v (record { at = at; bytes = byte ∷ first.bytes } ∷ (words ++ others)) (record { at = at; bytes = byte ∷ [] } ∷ first ∷ (words ++ others))
    ≡ cond v (record { at = at; bytes = byte ∷ first.bytes } ∷ words) (record { at = at; bytes = byte ∷ [] } ∷ first ∷ words) ++ others) [ true ↦ refl | false ↦ refl ]

some_between : (byte : ℕ) (front : List ℕ) → is_white_space byte ≡ false → ends_open (is_white_space byte) front ≡ true → 1 ≤ length front
some_between byte [] black whole = absurd (let no : false ≡ true = sym black ∙ whole in cc)
some_between byte (b ∷ front) black whole = omega arith

-- whole words, and then what comes after them
words_from-append : (before : Bool) (at : ℕ) (front rest : List ℕ) → ends_open before front ≡ true → words_from at (front ++ rest) ≡ words_from at front ++ words_from (at + length front) rest
words_from-append before at [] rest whole = let same : at ≡ at + length {A = ℕ} [] = omega arith in ap (λ (k : ℕ). words_from k rest) same
words_from-append before at (byte ∷ front) rest whole =
    let further = words_from-append (is_white_space byte) (at + 1) front rest whole in
    let same : at + 1 + length front ≡ at + length (byte ∷ front) = omega arith in
    elim (cases_Bool (is_white_space byte)) [
      | inl white ↦ rw white (further ∙ ap (λ (k : ℕ). words_from (at + 1) front ++ words_from k rest) same)
      | inr black ↦ rw black (ap (joined at byte) further
          ∙ joined-further at byte (at + 1 + length front) (words_from (at + 1) front) (words_from (at + 1 + length front) rest) (λ none. let some = some_between byte front black whole in omega (arith, some)) (words_in_order (at + 1 + length front) rest)
          ∙ ap (λ (k : ℕ). joined at byte (words_from (at + 1) front) ++ words_from k rest) same)
    ]

-- ---- no room

-- where there is no room for so many bytes, there is no room after further words
stopped_stays : (means : Meaning) (count : ℕ) (words : List Word) → 1 ≤ count → room_of means < count → AreInOrder count words → room_of (meaning_after means words) < count
stopped_stays means count [] some full order = full
stopped_stays means count (word ∷ words) some full order =
    let passes : nat_lt (room_of means) (word.at + length word.bytes) ≡ true = grind (arith, nat_tests, full, order.0) in
    let stops : with_word means word ≡ fault (stop_of means) = rw passes refl in
    subst (λ (m : Meaning). room_of (meaning_after m words) < count) (sym stops) (stopped_stays (fault (stop_of means)) count words some (omega (arith, some)) (in_order_further count (word.at + 1) words (omega (arith, order.0)) order.2))

-- ---- the whole words of a text

-- whole words that are not none have white space
has_white : (before : Bool) (byte : ℕ) (front : List ℕ) → ends_open before (byte ∷ front) ≡ true → IsBlack (byte ∷ front) → ⊥
has_white before byte [] whole black = let b = black-first byte [] black in let no : false ≡ true = sym b.0 ∙ whole in cc
has_white before byte (next ∷ front) whole black = has_white (is_white_space byte) next front whole (black-first byte (next ∷ front) black).1

black_front : (front rest : List ℕ) → IsBlack (front ++ rest) → IsBlack front
black_front [] rest black = refl
black_front (byte ∷ front) rest black = let b = black-first byte (front ++ rest) black in rw b.0 (black_front front rest b.1)

-- whole words at the front of a text are at the front of all its whole words
pub record Goes (whole rest front word : List ℕ) : Type 0 where
  pub more : List ℕ
  pub is : front ≡ whole ++ more
  pub rest_is : rest ≡ more ++ word

pub goes_on : (before : Bool) (whole rest front word : List ℕ) → ends_open before whole ≡ true → IsBlack word → whole ++ rest ≡ front ++ word → Goes whole rest front word
goes_on before [] rest front word ends black same = record { more = front; is = refl; rest_is = same }
goes_on before (byte ∷ whole) rest [] word ends black same = absurd (has_white before byte whole ends (black_front (byte ∷ whole) rest (subst (λ (t : List ℕ). IsBlack t) (sym same) black)))
goes_on before (byte ∷ whole) rest (first ∷ front) word ends black same =
    let heads : byte ≡ first = cc in
    let tails : whole ++ rest ≡ front ++ word = cc in
    let further = goes_on (is_white_space byte) whole rest front word ends black tails in
    record { more = further.more; is = ap (λ (b : ℕ). b ∷ front) (sym heads) ∙ ap (λ (t : List ℕ). byte ∷ t) further.is; rest_is = further.rest_is }

-- what whole words mean with more after them
pub meaning-further : (front more : List ℕ) → IsWhole front → meaning_of (words_of (front ++ more)) ≡ meaning_after (meaning_of (words_of front)) (words_from (length front) more)
meaning-further front more whole =
    let same : 0 + length front ≡ length front = omega arith in
    ap (λ (words : List Word). meaning_of words) (words_from-append true 0 front more whole) ∙ meaning-append start (words_of front) (words_from (0 + length front) more) ∙ ap (λ (k : ℕ). meaning_after (meaning_of (words_of front)) (words_from k more)) same

-- the same where the text goes on from there without room
no_room_later : (front more : List ℕ) (means : Meaning) → IsWhole front → 1 ≤ length front → meaning_of (words_of front) ≡ means → room_of means < length front → room_of (meaning_of (words_of (front ++ more))) < length front
no_room_later front more means whole some is full =
    subst (λ (m : Meaning). room_of m < length front) (sym (meaning-further front more whole ∙ ap (λ (m : Meaning). meaning_after m (words_from (length front) more)) is))
    (stopped_stays means (length front) (words_from (length front) more) some full (words_in_order (length front) more))

is_empty : (bytes : List ℕ) → length bytes ≤ 0 → bytes ≡ []
is_empty [] none = refl
is_empty (byte ∷ bytes) none = absurd (omega arith)

-- ---- a fault excludes that reading goes on

-- white space after which there is no room
behind_excluded : (before rest word text_word : List ℕ) (means next : Meaning) (space : ℕ) (m : Meaning) → Stands before means word → is_white_space space ≡ true → after means (length before) word ≡ next → room_of next ≤ length before
    → Stands (before ++ space ∷ rest) m text_word → ⊥
behind_excluded before rest word text_word means next space m s white e full stands =
    let head = before ++ space ∷ [] in
    let long : length head ≡ length before + 1 = length-append before (space ∷ []) in
    let b = meaning_behind before word means next space s white e in
    let same : head ++ rest ≡ stands.front ++ text_word = append_assoc before (space ∷ []) rest ∙ stands.split in
    let goes = goes_on true head rest stands.front text_word b.0 stands.black same in
    let no_room = no_room_later head goes.more next b.0 (omega (arith, long)) b.1 (omega (arith, long, full)) in
    let means_front : meaning_of (words_of (head ++ goes.more)) ≡ m = ap (λ (t : List ℕ). meaning_of (words_of t)) (sym goes.is) ∙ stands.meaning in
    let full_now : room_of m < length head = subst (λ (k : Meaning). room_of k < length head) means_front no_room in
    let within = stands.within in
    let longer : length (before ++ space ∷ rest) ≡ length before + (1 + length rest) = length-append before (space ∷ rest) ∙ omega arith in
    absurd (omega (arith, full_now, within, long, longer))

ends-append : (before : Bool) (front more : List ℕ) → ends_open before (front ++ more) ≡ ends_open (ends_open before front) more
ends-append before [] more = refl
ends-append before (byte ∷ front) more = ends-append (is_white_space byte) front more

-- bytes of a word at the front of a text with white space are at the front of its whole words
black_goes : (before : Bool) (black rest more word : List ℕ) → IsBlack black → ends_open before more ≡ true → 1 ≤ length more → black ++ rest ≡ more ++ word → (others : List ℕ) × (more ≡ black ++ others)
black_goes before [] rest more word is ends some same = (more, refl)
black_goes before (byte ∷ black) rest [] word is ends some same = absurd (omega arith)
black_goes before (byte ∷ black) rest (first ∷ more) word is ends some same =
    let heads : byte ≡ first = cc in
    let tails : black ++ rest ≡ more ++ word = cc in
    let b = black-first byte black is in
    let no_space : is_white_space first ≡ false = ap is_white_space (sym heads) ∙ b.0 in
    let further = black_goes (is_white_space first) black rest more word b.1 ends (some_between first more no_space ends) tails in
    (further.0, ap (λ (h : ℕ). h ∷ more) (sym heads) ∙ ap (λ (t : List ℕ). byte ∷ t) further.1)

-- the first word of a text, which has at least so many bytes
pub record BeginsLong (at count : ℕ) (words : List Word) : Type 0 where
  pub word : Word
  pub others : List Word
  pub is : words ≡ word ∷ others
  pub here : word.at ≡ at
  pub long : count ≤ length word.bytes

joined_long : (at byte : ℕ) (words : List Word) → BeginsLong at 1 (joined at byte words)
joined_long at byte [] = record { word = record { at = at; bytes = byte ∷ [] }; others = []; is = refl; here = refl; long = omega arith }
joined_long at byte (word ∷ words) =
    elim (eqb word.at (at + 1)) as (λ v. BeginsLong at 1 (cond v (record { at = at; bytes = byte ∷ word.bytes } ∷ words) (record { at = at; bytes = byte ∷ [] } ∷ word ∷ words))) [
      | true ↦ record { word = record { at = at; bytes = byte ∷ word.bytes }; others = words; is = refl; here = refl; long = omega arith }
      | false ↦ record { word = record { at = at; bytes = byte ∷ [] }; others = word ∷ words; is = refl; here = refl; long = omega arith }
    ]

joined_longer : (at byte count : ℕ) (words : List Word) → BeginsLong (at + 1) count words → BeginsLong at (count + 1) (joined at byte words)
joined_longer at byte count words b =
    let test : eqb b.word.at (at + 1) ≡ true = let here = b.here in grind (arith, nat_tests, here) in
    let long = b.long in
    record {
      word = record { at = at; bytes = byte ∷ b.word.bytes };
      others = b.others;
      is = ap (joined at byte) b.is ∙ ap (λ v. cond v (record { at = at; bytes = byte ∷ b.word.bytes } ∷ b.others) (record { at = at; bytes = byte ∷ [] } ∷ b.word ∷ b.others)) test;
      here = refl;
      long = omega (arith, long);
    }

words_from-black : (at : ℕ) (black others : List ℕ) → IsBlack black → 1 ≤ length black → BeginsLong at (length black) (words_from at (black ++ others))
words_from-black at [] others is some = absurd (omega arith)
words_from-black at (byte ∷ []) others is some =
    let b = black-first byte [] is in
    let first = joined_long at byte (words_from (at + 1) others) in
    record { word = first.word; others = first.others; is = ap (λ v. cond v (words_from (at + 1) others) (joined at byte (words_from (at + 1) others))) b.0 ∙ first.is; here = first.here; long = let long = first.long in omega (arith, long) }
words_from-black at (byte ∷ next ∷ black) others is some =
    let b = black-first byte (next ∷ black) is in
    let further = words_from-black (at + 1) (next ∷ black) others b.1 (omega arith) in
    let first = joined_longer at byte (length (next ∷ black)) _ further in
    record { word = first.word; others = first.others; is = ap (λ v. cond v (words_from (at + 1) ((next ∷ black) ++ others)) (joined at byte (words_from (at + 1) ((next ∷ black) ++ others)))) b.0 ∙ first.is; here = first.here; long = let long = first.long in omega (arith, long) }

-- a word that passes the room leaves none
no_room_within : (means : Meaning) (at count : ℕ) (words : List Word) → BeginsLong at count words → AreInOrder at words → room_of means < at + count → room_of (meaning_after means words) < 1
no_room_within means at count words b order full =
    let here = b.here in
    let long = b.long in
    let passes : nat_lt (room_of means) (b.word.at + length b.word.bytes) ≡ true = grind (arith, nat_tests, full, here, long) in
    let stops : with_word means b.word ≡ fault (stop_of means) = rw passes refl in
    let behind : AreInOrder at (b.word ∷ b.others) = subst (λ (ws : List Word). AreInOrder at ws) b.is order in
    subst (λ (ws : List Word). room_of (meaning_after means ws) < 1) (sym b.is) (subst (λ (m : Meaning). room_of (meaning_after m b.others) < 1) (sym stops)
    (stopped_stays (fault (stop_of means)) 1 b.others (omega arith) (omega arith) (in_order_further 1 (b.word.at + 1) b.others (omega arith) behind.2)))

black_more : (word : List ℕ) (byte : ℕ) → IsBlack word → is_white_space byte ≡ false → IsBlack (word ++ byte ∷ [])
black_more [] byte black is = rw is refl
black_more (b ∷ word) byte black is = let first = black-first b word black in rw first.0 (black_more word byte first.1 is)

-- a byte of a word for which there is no room
within_excluded : (before rest word text_word : List ℕ) (means : Meaning) (byte : ℕ) (m : Meaning) → Stands before means word → is_white_space byte ≡ false → room_of means ≤ length before → Stands (before ++ byte ∷ rest) m text_word → ⊥
within_excluded before rest word text_word means byte m s black full stands =
    let longer : length (before ++ byte ∷ rest) ≡ length before + (1 + length rest) = length-append before (byte ∷ rest) ∙ omega arith in
    let parts : length before ≡ length s.front + length word = ap length s.split ∙ length-append s.front word in
    let within = stands.within in
    let same : s.front ++ (word ++ byte ∷ rest) ≡ stands.front ++ text_word = sym (append_assoc s.front word (byte ∷ rest)) ∙ ap (λ (t : List ℕ). t ++ byte ∷ rest) (sym s.split) ∙ stands.split in
    let goes = goes_on true s.front (word ++ byte ∷ rest) stands.front text_word s.whole stands.black same in
    let meant : meaning_after means (words_from (length s.front) goes.more) ≡ m =
    ap (λ (k : Meaning). meaning_after k (words_from (length s.front) goes.more)) (sym s.meaning) ∙ sym (meaning-further s.front goes.more s.whole) ∙ ap (λ (t : List ℕ). meaning_of (words_of t)) (sym goes.is) ∙ stands.meaning in
    let whole : ends_open true goes.more ≡ true = ap (λ v. ends_open v goes.more) (sym s.whole) ∙ sym (ends-append true s.front goes.more) ∙ ap (ends_open true) (sym goes.is) ∙ stands.whole in
    elim (cases_lt 0 (length goes.more)) [
      | inl some ↦
          let tail : (word ++ byte ∷ []) ++ rest ≡ goes.more ++ text_word = append_assoc word (byte ∷ []) rest ∙ goes.rest_is in
          let word_more = black_more word byte s.black black in
          let count : length (word ++ byte ∷ []) ≡ length word + 1 = length-append word (byte ∷ []) in
          let prefix = black_goes true (word ++ byte ∷ []) rest goes.more text_word word_more whole (omega (arith, some)) tail in
          let first = words_from-black (length s.front) (word ++ byte ∷ []) prefix.0 word_more (omega (arith, count)) in
          let first_more = subst (λ (t : List ℕ). BeginsLong (length s.front) (length (word ++ byte ∷ [])) (words_from (length s.front) t)) (sym prefix.1) first in
          let no_room = no_room_within means (length s.front) (length (word ++ byte ∷ [])) (words_from (length s.front) goes.more) first_more (words_in_order (length s.front) goes.more) (omega (arith, full, parts, count)) in
          let none : room_of m < 1 = subst (λ (k : Meaning). room_of k < 1) meant no_room in
          absurd (omega (arith, none, within, longer))
      | inr none ↦
          let nothing : means ≡ m = ap (λ (t : List ℕ). meaning_after means (words_from (length s.front) t)) (sym (is_empty goes.more none)) ∙ meant in
          let room : room_of m ≡ room_of means = ap room_of (sym nothing) in
          absurd (omega (arith, room, within, longer, full))
    ]

-- where a text has a fault, reading has not gone on
pub fault_excludes : (text : List ℕ) (f : DumpFault) → HasFault text f → (m : Meaning) (word : List ℕ) → Stands text m word → ⊥
fault_excludes text f (behind_a_word before word rest means next space s white e full) m text_word stands = behind_excluded before rest word text_word means next space m s white e full stands
fault_excludes text f (in_a_word before word rest means byte s black full) m text_word stands = within_excluded before rest word text_word means byte m s black full stands

-- ---- one meaning

pub record IsSame (means other : Meaning) (word other_word : List ℕ) : Type 0 where
  pub meaning : means ≡ other
  pub last_word : word ≡ other_word

no_more : (before : Bool) (more word : List ℕ) → ends_open before more ≡ true → IsBlack (more ++ word) → more ≡ []
no_more before [] word whole black = refl
no_more before (byte ∷ more) word whole black = absurd (has_white before byte more whole (black_front (byte ∷ more) word black))

-- what a text means is one thing
pub one_meaning : (text word other_word : List ℕ) (means other : Meaning) → Stands text means word → Stands text other other_word → IsSame means other word other_word
one_meaning text word other_word means other s t =
    let goes = goes_on true s.front word t.front other_word s.whole t.black (sym s.split ∙ t.split) in
    let whole : ends_open true goes.more ≡ true = ap (λ v. ends_open v goes.more) (sym s.whole) ∙ sym (ends-append true s.front goes.more) ∙ ap (ends_open true) (sym goes.is) ∙ t.whole in
    let none = no_more true goes.more other_word whole (subst (λ (w : List ℕ). IsBlack w) goes.rest_is s.black) in
    let fronts : t.front ≡ s.front = goes.is ∙ ap (λ (m : List ℕ). s.front ++ m) none ∙ append-nil s.front in
    record {
      meaning = sym s.meaning ∙ ap (λ (f : List ℕ). meaning_of (words_of f)) (sym fronts) ∙ t.meaning;
      last_word = goes.rest_is ∙ ap (λ (m : List ℕ). m ++ other_word) none;
    }

-- a text is one dump
pub one_dump : (text : List ℕ) (b other : Body) → EndsAs text b → EndsAs text other → b ≡ other
one_dump text b other e o =
    let same = one_meaning text e.word o.word e.means o.means e.stands o.stands in
    let bodies : body b ≡ body other = sym e.meaning ∙ ap (λ (m : Meaning). after m (length text) e.word) same.meaning ∙ ap (λ (w : List ℕ). after o.means (length text) w) same.last_word ∙ o.meaning in
    cc

-- a dump does not end with a fault
pub dump_excludes : (text : List ℕ) (b : Body) (f : DumpFault) → EndsAs text b → EndsWithFault text f → ⊥
dump_excludes text b f e (in_the_last_word t word means g s whole is) =
    let same = one_meaning t e.word word e.means means e.stands s in
    let bodies : body b ≡ fault g = sym e.meaning ∙ ap (λ (m : Meaning). after m (length t) e.word) same.meaning ∙ ap (λ (w : List ℕ). after means (length t) w) same.last_word ∙ is in
    cc
dump_excludes text b f e (cut_short t word means s is) =
    let same = one_meaning t e.word word e.means means e.stands s in
    let alone : is_alone means word ≡ false = ap (λ (m : Meaning). is_alone m word) (sym same.meaning) ∙ ap (λ (w : List ℕ). is_alone e.means w) (sym same.last_word) ∙ e.whole in
    let behind : after means (length t) word ≡ body b = ap (λ (m : Meaning). after m (length t) word) (sym same.meaning) ∙ ap (λ (w : List ℕ). after e.means (length t) w) (sym same.last_word) ∙ e.meaning in
    let closed : is_open (after means (length t) word) ≡ false = ap is_open behind ∙ e.closed in
    let no : false ≡ true = sym (rw (alone, closed) refl) ∙ is in
    cc

-- ---- one fault

-- the fault that is where a byte leaves no room
abbrev pub stop_at : Meaning → ℕ → List ℕ → ℕ → DumpFault
stop_at means end word byte = cond (is_white_space byte) (stop_of (after means end word)) (stop_of means)

-- where a fault was found
pub record Found (text : List ℕ) (f : DumpFault) : Type 0 where
  pub before : List ℕ
  pub byte : ℕ
  pub rest : List ℕ
  pub word : List ℕ
  pub means : Meaning
  pub stands : Stands before means word
  pub split : text ≡ before ++ byte ∷ rest
  pub is : stop_at means (length before) word byte ≡ f
  pub again : (more : List ℕ) → HasFault (before ++ byte ∷ more) f

found : (text : List ℕ) (f : DumpFault) → HasFault text f → Found text f
found text f (behind_a_word before word rest means next space s white e full) = record {
  before = before;
  byte = space;
  rest = rest;
  word = word;
  means = means;
  stands = s;
  split = refl;
  is = rw white (ap stop_of e);
  again = λ more. behind_a_word before word more means next space s white e full;
}
found text f (in_a_word before word rest means byte s black full) = record {
  before = before;
  byte = byte;
  rest = rest;
  word = word;
  means = means;
  stands = s;
  split = refl;
  is = rw black refl;
  again = λ more. in_a_word before word more means byte s black full;
}

-- two places in a text are one place, or one of them comes first
pub data Places (before other : List ℕ) (byte other_byte : ℕ) : Type 0 where
  same : before ≡ other → byte ≡ other_byte → Places before other byte other_byte
  first : (more : List ℕ) → other ≡ before ++ byte ∷ more → Places before other byte other_byte
  later : (more : List ℕ) → before ≡ other ++ other_byte ∷ more → Places before other byte other_byte

places : (before other rest other_rest : List ℕ) (byte other_byte : ℕ) → before ++ byte ∷ rest ≡ other ++ other_byte ∷ other_rest → Places before other byte other_byte
places [] [] rest other_rest byte other_byte e = same refl cc
places [] (b ∷ other) rest other_rest byte other_byte e = first other (let heads : byte ≡ b = cc in ap (λ (h : ℕ). h ∷ other) (sym heads))
places (b ∷ before) [] rest other_rest byte other_byte e = later before (let heads : b ≡ other_byte = cc in ap (λ (h : ℕ). h ∷ before) heads)
places (b ∷ before) (c ∷ other) rest other_rest byte other_byte e =
    let heads : b ≡ c = cc in
    let tails : before ++ byte ∷ rest ≡ other ++ other_byte ∷ other_rest = cc in
    elim (places before other rest other_rest byte other_byte tails) [
      | same p q ↦ same (ap (λ (h : ℕ). h ∷ before) heads ∙ ap (λ (t : List ℕ). c ∷ t) p) q
      | first more p ↦ first more (ap (λ (h : ℕ). h ∷ other) (sym heads) ∙ ap (λ (t : List ℕ). b ∷ t) p)
      | later more p ↦ later more (ap (λ (h : ℕ). h ∷ before) heads ∙ ap (λ (t : List ℕ). c ∷ t) p)
    ]

-- a text has at most one first fault
pub one_fault : (text : List ℕ) (f g : DumpFault) → HasFault text f → HasFault text g → f ≡ g
one_fault text f g has other =
    let a = found text f has in
    let b = found text g other in
    elim (places a.before b.before a.rest b.rest a.byte b.byte (sym a.split ∙ b.split)) [
      | same p q ↦
          let meant = one_meaning b.before a.word b.word a.means b.means (subst (λ (t : List ℕ). Stands t a.means a.word) p a.stands) b.stands in
          sym a.is ∙ ap (λ (t : List ℕ). stop_at a.means (length t) a.word a.byte) p ∙ ap (λ (m : Meaning). stop_at m (length b.before) a.word a.byte) meant.meaning
          ∙ ap (λ (w : List ℕ). stop_at b.means (length b.before) w a.byte) meant.last_word ∙ ap (λ (k : ℕ). stop_at b.means (length b.before) b.word k) q ∙ b.is
      | first more p ↦ absurd (fault_excludes b.before f (subst (λ (t : List ℕ). HasFault t f) (sym p) (a.again more)) b.means b.word b.stands)
      | later more p ↦ absurd (fault_excludes a.before g (subst (λ (t : List ℕ). HasFault t g) (sym p) (b.again more)) a.means a.word a.stands)
    ]
