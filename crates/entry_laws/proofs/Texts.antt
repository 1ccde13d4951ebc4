-- What a text says has small times, and changes of the widths of their codes.
use Rattle.std.proofs.Common.{ℕ, ◌+◌, ◌-◌, Bool, true, false, cond, List, [], ◌∷◌, ◌++◌, length, Option, Some, None, Ok, Err, subst, inl, inr, arith}
use Rattle.std.specs.Prelude.{nat_lt}
use Rattle.std.specs.Option.{option_to_list}
use Rattle.std.proofs.lemmas.List.Elements.{All-append, All-cons, All-nil}
use Rattle.vcd_reader.specs.Answer.{Answer}
use Rattle.vcd_reader.specs.Body.{Said, next_word}
use Rattle.vcd_reader.specs.Dump.{SaysBody}
use Rattle.vcd_reader.specs.Reading.{HeaderReading, header_word, Body, Meaning, header, body, fault, after_header_word, after_body_word, room_of, stop_of, reading_on, with_word, meaning_after, start}
use Rattle.vcd_reader.specs.Text.{Stands, word_at, EndsAs}
use Rattle.vcd_reader.specs.Words.{Word, words_of}
use Rattle.vcd_reader.specs.declared.entry.Entry.{Entry}
use Rattle.entry_laws.proofs.Codes.{AreSized}
use Rattle.entry_laws.proofs.Sized.{AnswersFitting, HeaderFits, SaidEntry, SaysEntry, header_word_fits, word_width}
use Rattle.entry_laws.specs.Entries.{IsEntry, AreEntries, IsSmall}

-- what a meaning says of entries
abbrev MeansEntries : Meaning → Type 0
MeansEntries (header reading) = HeaderFits reading
MeansEntries (body b) = (AreSized b.vars b.codes × AreEntries b.vars b.items) × IsSmall b.reading.past.last
MeansEntries (fault f) = Unit {0}

add_says : (b : Body) (says : Option Entry) → AreEntries b.vars b.items → SaysEntry b.vars says → AreEntries b.vars (b.items ++ option_to_list says)
add_says b None h s = All-append (IsEntry b.vars) b.items [] h (All-nil (IsEntry b.vars))
add_says b (Some entry) h s = All-append (IsEntry b.vars) b.items (entry ∷ []) h (All-cons (IsEntry b.vars) entry [] s (All-nil (IsEntry b.vars)))

body_more : (b : Body) (m : MeansEntries (body b)) (answer : Answer Said) → SaidEntry b.vars b.codes m.0.0 answer → MeansEntries (after_body_word b answer)
body_more b m (Ok s) h = ((m.0.0, add_says b s.0 m.0.1 h.0), h.1)
body_more b m (Err f) h = tt

ended_or_not : (last : Bool) (reading : HeaderReading) → HeaderFits reading → MeansEntries (after_header_word (Ok (last, reading)))
ended_or_not true reading is = ((is.sized, All-nil (IsEntry reading.declared.vars)), tt)
ended_or_not false reading is = is

header_more : (answer : Answer (Bool × HeaderReading)) → AnswersFitting answer → MeansEntries (after_header_word answer)
header_more (Ok read) is = ended_or_not read.0 read.1 is
header_more (Err f) is = tt

reading_more : (means : Meaning) (word : Word) → MeansEntries means → MeansEntries (reading_on means word)
reading_more (header reading) word m = header_more (header_word reading word) (header_word_fits reading word m)
reading_more (body b) word m = body_more b m (next_word b.codes b.reading word) (word_width b.vars b.codes m.0.0 b.reading.begun word b.reading.past m.1)
reading_more (fault f) word m = tt

word_more : (means : Meaning) (word : Word) → MeansEntries means → MeansEntries (with_word means word)
word_more means word m = elim (nat_lt (room_of means) (word.at + length word.bytes)) as (λ v. MeansEntries (cond v (fault (stop_of means)) (reading_on means word))) [ true ↦ tt | false ↦ reading_more means word m ]

words_more : (means : Meaning) (words : List Word) → MeansEntries means → MeansEntries (meaning_after means words)
words_more means [] m = m
words_more means (word ∷ words) m = words_more (with_word means word) words (word_more means word m)

-- nothing is declared at the start
at_start : MeansEntries start
at_start = record { sized = record { numbers = λ k l. absurd (omega (arith, l)); sizes = All-nil _ }; fits = tt }

-- what was read of a text
pub entries_so_far : (text word : List ℕ) (b : Body) → Stands text (body b) word → AreEntries b.vars b.items
entries_so_far text word b s = (subst (λ (m : Meaning). MeansEntries m) s.meaning (words_more start (words_of s.front) at_start)).0.1

entries_at_end : (text : List ℕ) (b : Body) → EndsAs text b → AreEntries b.vars b.items
entries_at_end text b e =
    let front : MeansEntries e.means = subst (λ (m : Meaning). MeansEntries m) e.stands.meaning (words_more start (words_of e.stands.front) at_start) in
    let whole : MeansEntries (body b) = subst (λ (m : Meaning). MeansEntries m) e.meaning (words_more e.means (word_at (length text - length e.word) e.word) front) in
    whole.0.1

pub body_entries : (text : List ℕ) (b : Body) → SaysBody text b → AreEntries b.vars b.items
body_entries text b (inl begun) = entries_so_far begun.front begun.word b begun.stands
body_entries text b (inr ended) = entries_at_end text b ended
