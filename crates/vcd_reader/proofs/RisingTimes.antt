-- The times that a text says rise.
use Rattle.std.proofs.Common.{◌≡◌, ℕ, ◌+◌, ◌-◌, ◌<◌, ◌≤◌, Bool, true, false, cond, eqb, List, [], ◌∷◌, ◌++◌, length, Option, Some, None, Ok, Err, refl, sym, subst, ◌∙◌, inl, inr, arith}
use Rattle.std.specs.Prelude.{bytes_eq, codes, not, ◌||◌, ◌^◌, nat_lt, nat_le}
use Rattle.std.specs.Option.{option_to_list}
use Rattle.std.proofs.lemmas.Bool.{cases_Bool}
use Rattle.std.proofs.lemmas.Bool.Decides.{nat_tests}
use Rattle.cov_host.specs.Decimal.{decimal_value}
use Rattle.four_state.specs.Vector.{Vector}
use Rattle.vcd_reader.specs.Words.{Word, words_of}
use Rattle.vcd_reader.specs.Values.{is_digit}
use Rattle.vcd_reader.specs.Codes.{Code, code_of}
use Rattle.vcd_reader.specs.Answer.{Answer, fault_if, unless}
use Rattle.vcd_reader.specs.Header.{END, is_decimal}
use Rattle.vcd_reader.specs.Body.{Begun, nothing, digits, passed, comment, Said, said, begins, is_back, new_time, time_fault, value_of, change_of, change, recorded, saying, scalar, at_time, time_word, digits_word, are_digits, is_group_word, most_stretches, with_stretch, goes_off, goes_on, is_passed_letter, dollar_word, first_word, behind_letter, word_after, next_word}
use Rattle.vcd_reader.specs.Reading.{HeaderReading, header_word, Body, Meaning, header, body, fault, after_header_word, after_body_word, room_of, stop_of, reading_on, with_word, meaning_after, start}
use Rattle.vcd_reader.specs.Text.{Stands, word_at, EndsAs}
use Rattle.vcd_reader.specs.Times.{IsLater, IsNotBefore, Rises, last_time}
use Rattle.vcd_reader.specs.declared.entry.Entry.{Entry}
use Rattle.vcd_reader.specs.declared.entry.Entry.TheVariants.{Time, Value, Off, On}
use Rattle.vcd_reader.specs.declared.past.Past.{Past}
use Rattle.vcd_reader.specs.declared.fault.DumpFault.{DumpFault}
use Rattle.vcd_reader.specs.declared.fault.DumpFault.TheVariants.{At}
use Rattle.vcd_reader.specs.declared.fault.DumpKind.TheVariants.{BadChange, TimeTooLarge, TimeBack, Gap}

pub rises_append : (last : Option ℕ) (entries others : List Entry) → Rises last entries → Rises (last_time last entries) others → Rises last (entries ++ others)
rises_append last [] others r s = s
rises_append last (Time time ∷ entries) others r s = (r.0, rises_append (Some time) entries others r.1 s)
rises_append last (Value code value ∷ entries) others r s = rises_append last entries others r s
rises_append last (Off ∷ entries) others r s = rises_append last entries others r s
rises_append last (On None ∷ entries) others r s = rises_append last entries others r s
rises_append last (On (Some time) ∷ entries) others r s = (r.0, rises_append (Some time) entries others r.1 s)

pub last_time_append : (last : Option ℕ) (entries others : List Entry) → last_time last (entries ++ others) ≡ last_time (last_time last entries) others
last_time_append last [] others = refl
last_time_append last (Time time ∷ entries) others = last_time_append (Some time) entries others
last_time_append last (Value code value ∷ entries) others = last_time_append last entries others
last_time_append last (Off ∷ entries) others = last_time_append last entries others
last_time_append last (On None ∷ entries) others = last_time_append last entries others
last_time_append last (On (Some time) ∷ entries) others = last_time_append (Some time) entries others

-- one last time is not above another
abbrev pub IsAtMost : Option ℕ → Option ℕ → Type 0
IsAtMost None other = Unit {0}
IsAtMost (Some last) None = ⊥
IsAtMost (Some last) (Some other) = last ≤ other

same_last : (last : Option ℕ) → IsAtMost last last
same_last None = tt
same_last (Some last) = omega arith

-- what may be said where this was the last time that was read, and the last time then: where the dump is off, a time is read and not said
pub data IsTimely (last : Option ℕ) : Option Entry → Option ℕ → Type 0 where
  timed : (t : ℕ) → IsLater last t → IsTimely last (Some (Time t)) (Some t)
  of_value : (code : ℕ) (v : Vector) → IsTimely last (Some (Value code v)) last
  off : IsTimely last (Some Off) last
  on : IsTimely last (Some (On last)) last
  silent : (next : Option ℕ) → IsAtMost last next → IsTimely last None next

still : (last : Option ℕ) → IsTimely last None last
still last = silent last (same_last last)

pub data AnswersTimely (last : Option ℕ) : Answer Said → Type 0 where
  answers : (s : Said) → IsTimely last s.0 s.1.past.last → AnswersTimely last (Ok s)
  fails : (f : DumpFault) → AnswersTimely last (Err f)

-- a change says a value or nothing
pub data SaysValue : Answer (Option Entry) → Type 0 where
  of_code : (code : ℕ) (v : Vector) → SaysValue (Ok (Some (Value code v)))
  nothing_said : SaysValue (Ok None)
  failed : (f : DumpFault) → SaysValue (Err f)

either : (last : Option ℕ) (test : Bool) (x y : Answer Said) → AnswersTimely last x → AnswersTimely last y → AnswersTimely last (cond test x y)
either last true x y p q = p
either last false x y p q = q

value_said : (test : Bool) (code : ℕ) (v : Vector) → SaysValue (Ok (cond test (Some (Value code v)) None))
value_said true code v = of_code code v
value_said false code v = nothing_said

unless_said : (o : Option DumpFault) (entry : Option Entry) → SaysValue (Ok entry) → SaysValue (unless o entry)
unless_said None entry h = h
unless_said (Some f) entry h = failed f

change_of_said : (o : Option Code) (word : List ℕ) (first at : ℕ) → SaysValue (change_of o word first at)
change_of_said None word first at = failed _
change_of_said (Some code) word first at = unless_said _ (value_of code.is_read code.number code.size word) (value_said _ code.number _)

either_said : (test : Bool) (f : DumpFault) (y : Answer (Option Entry)) → SaysValue y → SaysValue (cond test (Err f) y)
either_said true f y h = failed f
either_said false f y h = h

pub change_said : (table : List Code) (word : List ℕ) (first : ℕ) (code : List ℕ) (at : ℕ) → SaysValue (change table word first code at)
change_said table word first code at = either_said _ _ (change_of (code_of table code) word first at) (change_of_said (code_of table code) word first at)

-- what is dropped where the dump is off
dropped : (last : Option ℕ) (is_on : Bool) (says : Option Entry) → IsTimely last says last → IsTimely last (recorded is_on says) last
dropped last true says h = h
dropped last false says h = still last

saying_timely : (past : Past) (answer : Answer (Option Entry)) → SaysValue answer → AnswersTimely past.last (saying past answer)
saying_timely past answer (of_code code v) = answers (said (recorded past.is_on (Some (Value code v))) past) (dropped past.last past.is_on (Some (Value code v)) (of_value code v))
saying_timely past answer nothing_said = answers (said (recorded past.is_on None) past) (dropped past.last past.is_on None (still past.last))
saying_timely past answer (failed f) = fails f

-- ---- times

last_test : (a b c : Bool) (f g h : DumpFault) → cond a (Some f) (cond b (Some g) (cond c (Some h) None)) ≡ None → c ≡ false
last_test true b c f g h e = absurd cc
last_test false true c f g h e = absurd cc
last_test false false true f g h e = absurd cc
last_test false false false f g h e = refl

not_back : (last : Option ℕ) (t : ℕ) → is_back last t ≡ false → IsAtMost last (Some t)
not_back None t front = tt
not_back (Some last) t front = let at_most : last ≤ t = grind (arith, nat_tests, front) in at_most

time_said : (last : Option ℕ) (is_on : Bool) (t : ℕ) → is_back last t ≡ false → IsTimely last (recorded is_on (new_time last t)) (Some t)
time_said last false t front = silent (Some t) (not_back last t front)
time_said None true t front = timed t tt
time_said (Some last) true t front =
    elim (cases_Bool (eqb t last)) [
      | inl same ↦ rw same (silent (Some t) (not_back (Some last) t front))
      | inr other ↦ rw other (timed t (let later : last < t = grind (arith, nat_tests, front, other) in later))
    ]

unless_timely : (past : Past) (t : ℕ) (o : Option DumpFault) → (o ≡ None → is_back past.last t ≡ false) → AnswersTimely past.last (saying (at_time past t) (unless o (new_time past.last t)))
unless_timely past t None h = answers (said (recorded past.is_on (new_time past.last t)) (at_time past t)) (time_said past.last past.is_on t (h refl))
unless_timely past t (Some f) h = fails f

time_timely : (word : List ℕ) (at : ℕ) (past : Past) → AnswersTimely past.last (time_word word at past)
time_timely word at past =
    unless_timely past (decimal_value word) (time_fault past.last word at) (λ e. last_test (not (is_decimal word)) (nat_le (2 ^ 63) (decimal_value word)) (is_back past.last (decimal_value word)) (At BadChange at) (At TimeTooLarge at) (At TimeBack at) e)

-- ---- words

begins_timely : (o : Option DumpFault) (past : Past) (begun : Begun) → AnswersTimely past.last (unless o (begins past begun))
begins_timely None past begun = answers (begins past begun) (still past.last)
begins_timely (Some f) past begun = fails f

pub scalar_said : (table : List Code) (digit : ℕ) (code : List ℕ) (at : ℕ) → SaysValue (scalar table digit code at)
scalar_said table digit code at = either_said _ _ (change table (digit ∷ []) at code at) (change_said table (digit ∷ []) at code at)

off_said : (last : Option ℕ) (is_on : Bool) → IsTimely last (cond is_on (Some Off) None) last
off_said last true = off
off_said last false = still last

on_timely : (past : Past) (at : ℕ) → AnswersTimely past.last (goes_on past at)
on_timely past at =
    let begun : Answer Said = Ok (said (Some (On past.last)) (with_stretch past)) in
    let more : Answer Said = cond (nat_le most_stretches past.stretches) (Err (At Gap at)) begun in
    either past.last past.is_on (Ok (said None past)) more (answers (said None past) (still past.last))
    (either past.last (nat_le most_stretches past.stretches) (Err (At Gap at)) begun (fails _) (answers (said (Some (On past.last)) (with_stretch past)) on))

dollar_timely : (word : List ℕ) (at : ℕ) (past : Past) → AnswersTimely past.last (dollar_word word at past)
dollar_timely word at past =
    let bad : Answer Said = Err (At BadChange at) in
    let goes : Answer Said = cond (bytes_eq word (codes "$dumpon")) (goes_on past at) bad in
    let stops : Answer Said = cond (bytes_eq word (codes "$dumpoff")) (Ok (goes_off past)) goes in
    let begun : Answer Said = cond (bytes_eq word (codes "$comment")) (Ok (begins past comment)) stops in
    either past.last (is_group_word word) (Ok (said None past)) begun (answers (said None past) (still past.last))
    (either past.last (bytes_eq word (codes "$comment")) (Ok (begins past comment)) stops (answers (begins past comment) (still past.last))
    (either past.last (bytes_eq word (codes "$dumpoff")) (Ok (goes_off past)) goes (answers (goes_off past) (off_said past.last past.is_on))
    (either past.last (bytes_eq word (codes "$dumpon")) (goes_on past at) bad (on_timely past at) (fails _))))

first_timely : (table : List Code) (bytes : List ℕ) (at : ℕ) (past : Past) → AnswersTimely past.last (first_word table bytes at past)
first_timely table [] at past = fails _
first_timely table (byte ∷ bytes) at past =
    let other : Answer Said = dollar_word (byte ∷ bytes) at past in
    let real : Answer Said = cond (is_passed_letter byte) (Ok (begins past passed)) other in
    let one : Answer Said = cond (is_digit byte) (saying past (scalar table byte bytes at)) real in
    let first : Word = record { at = at; bytes = byte ∷ bytes } in
    let vector : Answer Said = cond (eqb byte 98 || eqb byte 66) (digits_word bytes first past) one in
    either past.last (eqb byte 35) (time_word bytes at past) vector (time_timely bytes at past)
    (either past.last (eqb byte 98 || eqb byte 66) (digits_word bytes first past) one (begins_timely (fault_if (not (are_digits bytes)) BadChange at) past (digits first))
    (either past.last (is_digit byte) (saying past (scalar table byte bytes at)) real (saying_timely past (scalar table byte bytes at) (scalar_said table byte bytes at))
    (either past.last (is_passed_letter byte) (Ok (begins past passed)) other (answers (begins past passed) (still past.last)) (dollar_timely (byte ∷ bytes) at past))))

comment_timely : (test : Bool) (past : Past) → AnswersTimely past.last (Ok (cond test (said None past) (begins past comment)))
comment_timely true past = answers (said None past) (still past.last)
comment_timely false past = answers (begins past comment) (still past.last)

word_timely : (table : List Code) (begun : Begun) (word : Word) (past : Past) → AnswersTimely past.last (word_after table begun word past)
word_timely table nothing word past = first_timely table word.bytes word.at past
word_timely table (digits first) word past = saying_timely past _ (change_said table (behind_letter first.bytes) first.at word.bytes word.at)
word_timely table passed word past = answers (said None past) (still past.last)
word_timely table comment word past = comment_timely (bytes_eq word.bytes END) past

-- ---- texts

abbrev pub MeansTimely : Meaning → Type 0
MeansTimely (header reading) = Unit {0}
MeansTimely (body b) = Rises None b.items × IsAtMost (last_time None b.items) b.reading.past.last
MeansTimely (fault f) = Unit {0}

at_most_further : (last other next : Option ℕ) → IsAtMost last other → IsAtMost other next → IsAtMost last next
at_most_further None other next m n = tt
at_most_further (Some last) None next m n = absurd m
at_most_further (Some last) (Some other) None m n = absurd n
at_most_further (Some last) (Some other) (Some next) m n = omega (arith, m, n)

later_than_less : (last other : Option ℕ) (t : ℕ) → IsAtMost last other → IsLater other t → IsLater last t
later_than_less None other t m later = tt
later_than_less (Some last) None t m later = absurd m
later_than_less (Some last) (Some other) t m later = omega (arith, m, later)

not_before : (last : Option ℕ) (t : ℕ) → IsAtMost last (Some t) → IsNotBefore last t
not_before None t m = tt
not_before (Some last) t m = m

-- the entries say no more of times than what was read
abbrev AreTimely : List Entry → Option ℕ → Type 0
AreTimely entries last = Rises None entries × IsAtMost (last_time None entries) last

-- one more that has no time
untimed : (entries : List Entry) (e : Entry) (last : Option ℕ) → ((before : Option ℕ) → Rises before (e ∷ [])) → ((before : Option ℕ) → last_time before (e ∷ []) ≡ before) → AreTimely entries last → AreTimely (entries ++ e ∷ []) last
untimed entries e last rises same h = (
  rises_append None entries (e ∷ []) h.0 (rises (last_time None entries)),
  subst (λ (o : Option ℕ). IsAtMost o last) (sym (last_time_append None entries (e ∷ []) ∙ same (last_time None entries))) h.1,
)

-- one more that ends with this time
at_last : (entries : List Entry) (e : Entry) (t : ℕ) → ((before : Option ℕ) → last_time before (e ∷ []) ≡ Some t) → IsAtMost (last_time None (entries ++ e ∷ [])) (Some t)
at_last entries e t is = subst (λ (o : Option ℕ). IsAtMost o (Some t)) (sym (last_time_append None entries (e ∷ []) ∙ is (last_time None entries))) (same_last (Some t))

on_said : (entries : List Entry) (last : Option ℕ) → AreTimely entries last → AreTimely (entries ++ On last ∷ []) last
on_said entries None h = untimed entries (On None) None (λ before. tt) (λ before. refl) h
on_said entries (Some t) h = (rises_append None entries (On (Some t) ∷ []) h.0 (not_before (last_time None entries) t h.1, tt), at_last entries (On (Some t)) t (λ before. refl))

add_says : (entries : List Entry) (last next : Option ℕ) (says : Option Entry) → AreTimely entries last → IsTimely last says next → AreTimely (entries ++ option_to_list says) next
add_says entries last next says h (timed t later) =
    (rises_append None entries (Time t ∷ []) h.0 (later_than_less (last_time None entries) last t h.1 later, tt), at_last entries (Time t) t (λ before. refl))
add_says entries last next says h (of_value code v) = untimed entries (Value code v) last (λ before. tt) (λ before. refl) h
add_says entries last next says h off = untimed entries Off last (λ before. tt) (λ before. refl) h
add_says entries last next says h on = on_said entries last h
add_says entries last next says h (silent later up) = (
  rises_append None entries [] h.0 tt,
  subst (λ (o : Option ℕ). IsAtMost o later) (sym (last_time_append None entries [])) (at_most_further (last_time None entries) last later h.1 up),
)

body_timely : (b : Body) (answer : Answer Said) → MeansTimely (body b) → AnswersTimely b.reading.past.last answer → MeansTimely (after_body_word b answer)
body_timely b answer m (answers s h) = add_says b.items b.reading.past.last s.1.past.last s.0 m h
body_timely b answer m (fails f) = tt

ended_or_not : (last : Bool) (reading : HeaderReading) → MeansTimely (after_header_word (Ok (last, reading)))
ended_or_not true reading = (tt, tt)
ended_or_not false reading = tt

header_timely : (answer : Answer (Bool × HeaderReading)) → MeansTimely (after_header_word answer)
header_timely (Ok read) = ended_or_not read.0 read.1
header_timely (Err f) = tt

reading_timely : (means : Meaning) (word : Word) → MeansTimely means → MeansTimely (reading_on means word)
reading_timely (header reading) word m = header_timely (header_word reading word)
reading_timely (body b) word m = body_timely b (next_word b.codes b.reading word) m (word_timely b.codes b.reading.begun word b.reading.past)
reading_timely (fault f) word m = tt

with_word_timely : (means : Meaning) (word : Word) → MeansTimely means → MeansTimely (with_word means word)
with_word_timely means word m = elim (nat_lt (room_of means) (word.at + length word.bytes)) as (λ v. MeansTimely (cond v (fault (stop_of means)) (reading_on means word))) [ true ↦ tt | false ↦ reading_timely means word m ]

after_timely : (means : Meaning) (words : List Word) → MeansTimely means → MeansTimely (meaning_after means words)
after_timely means [] m = m
after_timely means (word ∷ words) m = after_timely (with_word means word) words (with_word_timely means word m)

-- the times of a dump rise
pub times_rise : (text : List ℕ) (b : Body) → EndsAs text b → Rises None b.items
times_rise text b e =
    let front : MeansTimely e.means = subst (λ (m : Meaning). MeansTimely m) e.stands.meaning (after_timely start (words_of e.stands.front) tt) in
    let whole : MeansTimely (body b) = subst (λ (m : Meaning). MeansTimely m) e.meaning (after_timely e.means (word_at (length text - length e.word) e.word) front) in
    whole.0

-- so do those of a text that goes on
pub times_rise_so_far : (text word : List ℕ) (b : Body) → Stands text (body b) word → Rises None b.items
times_rise_so_far text word b s = (subst (λ (m : Meaning). MeansTimely m) s.meaning (after_timely start (words_of s.front) tt)).0
