-- A text says that the dump goes off and on in turn, and few stretches.
use Rattle.std.proofs.Common.{◌≡◌, ℕ, ◌+◌, ◌-◌, ◌<◌, ◌≤◌, Bool, true, false, cond, eqb, List, [], ◌∷◌, ◌++◌, length, Option, Some, None, Ok, Err, refl, sym, ap, subst, ◌∙◌, inl, inr, arith}
use Rattle.std.specs.Prelude.{bytes_eq, codes, not, ◌||◌, nat_lt, nat_le}
use Rattle.std.specs.Option.{option_to_list}
use Rattle.std.proofs.lemmas.Bool.Decides.{nat_tests}
use Rattle.std.proofs.lemmas.List.{append-nil}
use Rattle.cov_host.specs.Decimal.{decimal_value}
use Rattle.four_state.specs.Vector.{Vector}
use Rattle.vcd_reader.specs.Words.{Word, words_of}
use Rattle.vcd_reader.specs.Values.{is_digit}
use Rattle.vcd_reader.specs.Codes.{Code}
use Rattle.vcd_reader.specs.Answer.{Answer, fault_if, unless}
use Rattle.vcd_reader.specs.Header.{END}
use Rattle.vcd_reader.specs.Body.{Begun, nothing, digits, passed, comment, Said, said, begins, new_time, time_fault, recorded, saying, scalar, at_time, time_word, digits_word, are_digits, is_group_word, most_stretches, with_stretch, goes_off, goes_on, is_passed_letter, dollar_word, first_word, behind_letter, word_after, next_word}
use Rattle.vcd_reader.specs.Reading.{HeaderReading, header_word, Body, Meaning, header, body, fault, after_header_word, after_body_word, room_of, stop_of, reading_on, with_word, meaning_after, start}
use Rattle.vcd_reader.specs.Text.{Stands, word_at, EndsAs}
use Rattle.vcd_reader.specs.Dump.{SaysBody, later_stretches}
use Rattle.vcd_reader.specs.Order.{AreInTurn, AreOrdered, is_on, is_on_after}
use Rattle.vcd_reader.specs.Times.{Rises, last_time}
use Rattle.vcd_reader.specs.declared.entry.Entry.{Entry}
use Rattle.vcd_reader.specs.declared.entry.Entry.TheVariants.{Time, Value, Off, On}
use Rattle.vcd_reader.specs.declared.past.Past.{Past}
use Rattle.vcd_reader.specs.declared.fault.DumpFault.{DumpFault}
use Rattle.vcd_reader.specs.declared.fault.DumpFault.TheVariants.{At}
use Rattle.vcd_reader.specs.declared.fault.DumpKind.TheVariants.{BadChange, Gap}
use Rattle.vcd_reader.proofs.RisingTimes.{SaysValue, of_code, nothing_said, failed, change_said, scalar_said, times_rise, times_rise_so_far}

-- ---- entries one after the other

later_length : (entries others : List Entry) → length (later_stretches (entries ++ others)) ≡ length (later_stretches entries) + length (later_stretches others)
later_length [] others = omega arith
later_length (Time time ∷ entries) others = later_length entries others
later_length (Value code value ∷ entries) others = later_length entries others
later_length (Off ∷ entries) others = later_length entries others
later_length (On time ∷ entries) others = let rest = later_length entries others in omega (arith, rest)

pub on_append : (on : Bool) (entries others : List Entry) → is_on_after on (entries ++ others) ≡ is_on_after (is_on_after on entries) others
on_append on [] others = refl
on_append on (Time time ∷ entries) others = on_append on entries others
on_append on (Value code value ∷ entries) others = on_append on entries others
on_append on (Off ∷ entries) others = on_append false entries others
on_append on (On time ∷ entries) others = on_append true entries others

turn_append : (on : Bool) (entries others : List Entry) → AreInTurn on entries → AreInTurn (is_on_after on entries) others → AreInTurn on (entries ++ others)
turn_append on [] others h k = k
turn_append on (Time time ∷ entries) others h k = (h.0, turn_append on entries others h.1 k)
turn_append on (Value code value ∷ entries) others h k = (h.0, turn_append on entries others h.1 k)
turn_append on (Off ∷ entries) others h k = (h.0, turn_append false entries others h.1 k)
turn_append on (On time ∷ entries) others h k = (h.0, turn_append true entries others h.1 k)

pub turn_apart : (on : Bool) (entries others : List Entry) → AreInTurn on (entries ++ others) → AreInTurn on entries × AreInTurn (is_on_after on entries) others
turn_apart on [] others h = (tt, h)
turn_apart on (Time time ∷ entries) others h = let rest = turn_apart on entries others h.1 in ((h.0, rest.0), rest.1)
turn_apart on (Value code value ∷ entries) others h = let rest = turn_apart on entries others h.1 in ((h.0, rest.0), rest.1)
turn_apart on (Off ∷ entries) others h = let rest = turn_apart false entries others h.1 in ((h.0, rest.0), rest.1)
turn_apart on (On time ∷ entries) others h = let rest = turn_apart true entries others h.1 in ((h.0, rest.0), rest.1)

-- where a time is said the dump is on
pub on_at_time : (entries more : List Entry) (time : ℕ) → AreInTurn true (entries ++ Time time ∷ more) → is_on entries ≡ true
on_at_time entries more time h = (turn_apart true entries (Time time ∷ more) h).1.0

-- and where a change is said
pub on_at_change : (entries more : List Entry) (code : ℕ) (value : Vector) → AreInTurn true (entries ++ Value code value ∷ more) → is_on entries ≡ true
on_at_change entries more code value h = (turn_apart true entries (Value code value ∷ more) h).1.0

-- it goes off where it is on
pub on_at_off : (entries more : List Entry) → AreInTurn true (entries ++ Off ∷ more) → is_on entries ≡ true
on_at_off entries more h = (turn_apart true entries (Off ∷ more) h).1.0

-- and on where it is off
pub off_at_on : (entries more : List Entry) (time : Option ℕ) → AreInTurn true (entries ++ On time ∷ more) → is_on entries ≡ false
off_at_on entries more time h = (turn_apart true entries (On time ∷ more) h).1.0

pub rises_apart : (last : Option ℕ) (entries others : List Entry) → Rises last (entries ++ others) → Rises last entries × Rises (last_time last entries) others
rises_apart last [] others r = (tt, r)
rises_apart last (Time time ∷ entries) others r = let rest = rises_apart (Some time) entries others r.1 in ((r.0, rest.0), rest.1)
rises_apart last (Value code value ∷ entries) others r = rises_apart last entries others r
rises_apart last (Off ∷ entries) others r = rises_apart last entries others r
rises_apart last (On None ∷ entries) others r = rises_apart last entries others r
rises_apart last (On (Some time) ∷ entries) others r = let rest = rises_apart (Some time) entries others r.1 in ((r.0, rest.0), rest.1)

-- the first of what a body can say is what one can say
pub ordered_front : (entries others : List Entry) → AreOrdered (entries ++ others) → AreOrdered entries
ordered_front entries others o = record {
  rises = (rises_apart None entries others o.rises).0;
  in_turn = (turn_apart true entries others o.in_turn).0;
  few =
      let long = later_length entries others in
      let whole : length (later_stretches (entries ++ others)) < 1024 = o.few in
      let less : length (later_stretches entries) < 1024 = omega (arith, long, whole) in
      less;
}

-- ---- words

-- what may be said where the dump is on or not and so many stretches have begun, and how it is after it
pub data IsTurn (on : Bool) (n : ℕ) : Option Entry → Bool → ℕ → Type 0 where
  timed : (t : ℕ) → on ≡ true → IsTurn on n (Some (Time t)) on n
  of_value : (code : ℕ) (v : Vector) → on ≡ true → IsTurn on n (Some (Value code v)) on n
  stops : on ≡ true → IsTurn on n (Some Off) false n
  goes : (t : Option ℕ) → on ≡ false → n < 1024 → IsTurn on n (Some (On t)) true (n + 1)
  silent : (now : Bool) → now ≡ on → IsTurn on n None now n

pub data AnswersTurn (past : Past) : Answer Said → Type 0 where
  answers : (s : Said) → IsTurn past.is_on past.stretches s.0 s.1.past.is_on s.1.past.stretches → AnswersTurn past (Ok s)
  fails : (f : DumpFault) → AnswersTurn past (Err f)

still : (past : Past) → IsTurn past.is_on past.stretches None past.is_on past.stretches
still past = silent past.is_on refl

either : (past : Past) (test : Bool) (x y : Answer Said) → AnswersTurn past x → AnswersTurn past y → AnswersTurn past (cond test x y)
either past true x y p q = p
either past false x y p q = q

either_by : (past : Past) (test : Bool) (x y : Answer Said) → AnswersTurn past x → (test ≡ false → AnswersTurn past y) → AnswersTurn past (cond test x y)
either_by past true x y p q = p
either_by past false x y p q = q refl

-- what is dropped where the dump is off
dropped : (on : Bool) (n : ℕ) (says : Option Entry) → (on ≡ true → IsTurn on n says on n) → IsTurn on n (recorded on says) on n
dropped true n says h = h refl
dropped false n says h = silent false refl

saying_turn : (past : Past) (answer : Answer (Option Entry)) → SaysValue answer → AnswersTurn past (saying past answer)
saying_turn past answer (of_code code v) = answers (said (recorded past.is_on (Some (Value code v))) past) (dropped past.is_on past.stretches (Some (Value code v)) (λ e. of_value code v e))
saying_turn past answer nothing_said = answers (said (recorded past.is_on None) past) (dropped past.is_on past.stretches None (λ e. still past))
saying_turn past answer (failed f) = fails f

new_turn : (past : Past) (last : Option ℕ) (t : ℕ) → past.is_on ≡ true → IsTurn past.is_on past.stretches (new_time last t) past.is_on past.stretches
new_turn past None t e = timed t e
new_turn past (Some last) t e = go (eqb t last)
  where
    go : (same : Bool) → IsTurn past.is_on past.stretches (cond same None (Some (Time t))) past.is_on past.stretches
    go true = still past
    go false = timed t e

unless_turn : (past : Past) (t : ℕ) (o : Option DumpFault) → AnswersTurn past (saying (at_time past t) (unless o (new_time past.last t)))
unless_turn past t None = answers (said (recorded past.is_on (new_time past.last t)) (at_time past t)) (dropped past.is_on past.stretches (new_time past.last t) (new_turn past past.last t))
unless_turn past t (Some f) = fails f

time_turn : (word : List ℕ) (at : ℕ) (past : Past) → AnswersTurn past (time_word word at past)
time_turn word at past = unless_turn past (decimal_value word) (time_fault past.last word at)

begins_turn : (o : Option DumpFault) (past : Past) (begun : Begun) → AnswersTurn past (unless o (begins past begun))
begins_turn None past begun = answers (begins past begun) (still past)
begins_turn (Some f) past begun = fails f

off_turn : (on : Bool) (n : ℕ) → IsTurn on n (cond on (Some Off) None) false n
off_turn true n = stops refl
off_turn false n = silent false refl

on_turn : (past : Past) (at : ℕ) → AnswersTurn past (goes_on past at)
on_turn past at =
    let begun : Answer Said = Ok (said (Some (On past.last)) (with_stretch past)) in
    let more : Answer Said = cond (nat_le most_stretches past.stretches) (Err (At Gap at)) begun in
    either_by past past.is_on (Ok (said None past)) more (answers (said None past) (still past))
    (λ off. either_by past (nat_le most_stretches past.stretches) (Err (At Gap at)) begun (fails _) (λ few.
    let test : nat_le 1024 past.stretches ≡ false = few in
    let less : past.stretches < 1024 = grind (arith, nat_tests, test) in
    answers (said (Some (On past.last)) (with_stretch past)) (goes past.last off less)))

dollar_turn : (word : List ℕ) (at : ℕ) (past : Past) → AnswersTurn past (dollar_word word at past)
dollar_turn word at past =
    let bad : Answer Said = Err (At BadChange at) in
    let on : Answer Said = cond (bytes_eq word (codes "$dumpon")) (goes_on past at) bad in
    let off : Answer Said = cond (bytes_eq word (codes "$dumpoff")) (Ok (goes_off past)) on in
    let begun : Answer Said = cond (bytes_eq word (codes "$comment")) (Ok (begins past comment)) off in
    either past (is_group_word word) (Ok (said None past)) begun (answers (said None past) (still past))
    (either past (bytes_eq word (codes "$comment")) (Ok (begins past comment)) off (answers (begins past comment) (still past))
    (either past (bytes_eq word (codes "$dumpoff")) (Ok (goes_off past)) on (answers (goes_off past) (off_turn past.is_on past.stretches))
    (either past (bytes_eq word (codes "$dumpon")) (goes_on past at) bad (on_turn past at) (fails _))))

first_turn : (table : List Code) (bytes : List ℕ) (at : ℕ) (past : Past) → AnswersTurn past (first_word table bytes at past)
first_turn table [] at past = fails _
first_turn table (byte ∷ bytes) at past =
    let other : Answer Said = dollar_word (byte ∷ bytes) at past in
    let real : Answer Said = cond (is_passed_letter byte) (Ok (begins past passed)) other in
    let one : Answer Said = cond (is_digit byte) (saying past (scalar table byte bytes at)) real in
    let first : Word = record { at = at; bytes = byte ∷ bytes } in
    let vector : Answer Said = cond (eqb byte 98 || eqb byte 66) (digits_word bytes first past) one in
    either past (eqb byte 35) (time_word bytes at past) vector (time_turn bytes at past)
    (either past (eqb byte 98 || eqb byte 66) (digits_word bytes first past) one (begins_turn (fault_if (not (are_digits bytes)) BadChange at) past (digits first))
    (either past (is_digit byte) (saying past (scalar table byte bytes at)) real (saying_turn past (scalar table byte bytes at) (scalar_said table byte bytes at))
    (either past (is_passed_letter byte) (Ok (begins past passed)) other (answers (begins past passed) (still past)) (dollar_turn (byte ∷ bytes) at past))))

comment_turn : (test : Bool) (past : Past) → AnswersTurn past (Ok (cond test (said None past) (begins past comment)))
comment_turn true past = answers (said None past) (still past)
comment_turn false past = answers (begins past comment) (still past)

word_turn : (table : List Code) (begun : Begun) (word : Word) (past : Past) → AnswersTurn past (word_after table begun word past)
word_turn table nothing word past = first_turn table word.bytes word.at past
word_turn table (digits first) word past = saying_turn past _ (change_said table (behind_letter first.bytes) first.at word.bytes word.at)
word_turn table passed word past = answers (said None past) (still past)
word_turn table comment word past = comment_turn (bytes_eq word.bytes END) past

-- ---- texts

-- the entries are in turn, the dump is on or not after them, and they say as many stretches as have begun, which are few
pub record AreTurned (entries : List Entry) (on : Bool) (n : ℕ) : Type 0 where
  pub in_turn : AreInTurn true entries
  pub now : is_on_after true entries ≡ on
  pub counted : length (later_stretches entries) + 1 ≡ n
  pub most : n ≤ 1024

abbrev pub MeansTurned : Meaning → Type 0
MeansTurned (header reading) = Unit {0}
MeansTurned (body b) = AreTurned b.items b.reading.past.is_on b.reading.past.stretches
MeansTurned (fault f) = Unit {0}

-- one entry more
more_turned : (entries : List Entry) (e : Entry) (on now : Bool) (n k : ℕ) → AreInTurn on (e ∷ []) → is_on_after on (e ∷ []) ≡ now → length (later_stretches (e ∷ [])) ≡ k → n + k ≤ 1024 → AreTurned entries on n → AreTurned (entries ++ e ∷ []) now (n + k)
more_turned entries e on now n k turn after count most h =
    let long = later_length entries (e ∷ []) in
    let before = h.counted in
    record {
      in_turn = turn_append true entries (e ∷ []) h.in_turn (subst (λ b. AreInTurn b (e ∷ [])) (sym h.now) turn);
      now = on_append true entries (e ∷ []) ∙ ap (λ b. is_on_after b (e ∷ [])) h.now ∙ after;
      counted = omega (arith, long, before, count);
      most = most;
    }

-- one that begins no stretch
same_turned : (entries : List Entry) (e : Entry) (on now : Bool) (n : ℕ) → AreInTurn on (e ∷ []) → is_on_after on (e ∷ []) ≡ now → length (later_stretches (e ∷ [])) ≡ 0 → AreTurned entries on n → AreTurned (entries ++ e ∷ []) now n
same_turned entries e on now n turn after count h =
    let none : n + 0 ≡ n = omega arith in
    let most = h.most in
    subst (λ m. AreTurned (entries ++ e ∷ []) now m) none (more_turned entries e on now n 0 turn after count (omega (arith, most)) h)

add_says : (entries : List Entry) (on now : Bool) (n next : ℕ) (says : Option Entry) → AreTurned entries on n → IsTurn on n says now next → AreTurned (entries ++ option_to_list says) now next
add_says entries on now n next says h (timed t e) = same_turned entries (Time t) on on n (e, tt) refl refl h
add_says entries on now n next says h (of_value code v e) = same_turned entries (Value code v) on on n (e, tt) refl refl h
add_says entries on now n next says h (stops e) = same_turned entries Off on false n (e, tt) refl refl h
add_says entries on now n next says h (goes t e less) = more_turned entries (On t) on true n 1 (e, tt) refl refl (omega (arith, less)) h
add_says entries on now n next says h (silent b e) = subst (λ (items : List Entry). AreTurned items now n) (sym (append-nil entries)) (subst (λ a. AreTurned entries a n) (sym e) h)

body_turned : (b : Body) (answer : Answer Said) → MeansTurned (body b) → AnswersTurn b.reading.past answer → MeansTurned (after_body_word b answer)
body_turned b answer m (answers s h) = add_says b.items b.reading.past.is_on s.1.past.is_on b.reading.past.stretches s.1.past.stretches s.0 m h
body_turned b answer m (fails f) = tt

ended_or_not : (last : Bool) (reading : HeaderReading) → MeansTurned (after_header_word (Ok (last, reading)))
ended_or_not true reading = record { in_turn = tt; now = refl; counted = refl; most = omega arith }
ended_or_not false reading = tt

header_turned : (answer : Answer (Bool × HeaderReading)) → MeansTurned (after_header_word answer)
header_turned (Ok read) = ended_or_not read.0 read.1
header_turned (Err f) = tt

reading_turned : (means : Meaning) (word : Word) → MeansTurned means → MeansTurned (reading_on means word)
reading_turned (header reading) word m = header_turned (header_word reading word)
reading_turned (body b) word m = body_turned b (next_word b.codes b.reading word) m (word_turn b.codes b.reading.begun word b.reading.past)
reading_turned (fault f) word m = tt

with_word_turned : (means : Meaning) (word : Word) → MeansTurned means → MeansTurned (with_word means word)
with_word_turned means word m = elim (nat_lt (room_of means) (word.at + length word.bytes)) as (λ v. MeansTurned (cond v (fault (stop_of means)) (reading_on means word))) [ true ↦ tt | false ↦ reading_turned means word m ]

after_turned : (means : Meaning) (words : List Word) → MeansTurned means → MeansTurned (meaning_after means words)
after_turned means [] m = m
after_turned means (word ∷ words) m = after_turned (with_word means word) words (with_word_turned means word m)

ordered : (b : Body) → Rises None b.items → MeansTurned (body b) → AreOrdered b.items
ordered b rises m =
    let same = m.counted in
    let most = m.most in
    let less : length (later_stretches b.items) < 1024 = omega (arith, same, most) in
    record { rises = rises; in_turn = m.in_turn; few = less }

-- what a text says is in order, at each place and at its end
pub ordered_so_far : (text word : List ℕ) (b : Body) → Stands text (body b) word → AreOrdered b.items
ordered_so_far text word b s = ordered b (times_rise_so_far text word b s) (subst (λ (m : Meaning). MeansTurned m) s.meaning (after_turned start (words_of s.front) tt))

pub ordered_at_end : (text : List ℕ) (b : Body) → EndsAs text b → AreOrdered b.items
ordered_at_end text b ended =
    let front : MeansTurned ended.means = subst (λ (m : Meaning). MeansTurned m) ended.stands.meaning (after_turned start (words_of ended.stands.front) tt) in
    ordered b (times_rise text b ended) (subst (λ (m : Meaning). MeansTurned m) ended.meaning (after_turned ended.means (word_at (length text - length ended.word) ended.word) front))

pub ordered_entries : (text : List ℕ) (b : Body) → SaysBody text b → AreOrdered b.items
ordered_entries text b (inl begun) = ordered_so_far begun.front begun.word b begun.stands
ordered_entries text b (inr ended) = ordered_at_end text b ended
