-- A text that goes on keeps its variables and what it said.
use Rattle.std.proofs.Common.{◌≡◌, ℕ, Bool, true, false, cond, List, [], ◌∷◌, ◌++◌, length, Ok, Err, refl, sym, ap, ◌∙◌, append_assoc, inl, inr}
use Rattle.std.specs.Prelude.{nat_lt, ◌+◌}
use Rattle.std.specs.Option.{option_to_list}
use Rattle.std.proofs.lemmas.List.{append-nil}
use Rattle.vcd_reader.specs.Answer.{Answer}
use Rattle.vcd_reader.specs.Body.{Said, next_word}
use Rattle.vcd_reader.specs.Dump.{BeginsAs, GoesOn, SaysBody}
use Rattle.vcd_reader.specs.Reading.{Body, Meaning, body, fault, after_body_word, room_of, stop_of, reading_on, meaning_after, meaning_of}
use Rattle.vcd_reader.specs.Text.{EndsAs}
use Rattle.vcd_reader.specs.Words.{Word, words_from, words_of}
use Rattle.vcd_reader.specs.declared.fault.DumpFault.{DumpFault}
use Rattle.vcd_reader.proofs.FaultLaws.{meaning-further, one_dump}
use Rattle.vcd_reader.proofs.TextLemmas.{meaning_at_end}

-- a fault stays one
fault_stays_one : (f : DumpFault) (words : List Word) (whole : Body) → meaning_after (fault f) words ≡ body whole → ⊥
fault_stays_one f [] whole e = cc
fault_stays_one f (word ∷ words) whole e = go (nat_lt (room_of (fault f)) (word.at + length word.bytes)) (fault_stays_one f words whole) e
  where
    go : (full : Bool) → (meaning_after (fault f) words ≡ body whole → ⊥) → meaning_after (cond full (fault (stop_of (fault f))) (reading_on (fault f) word)) words ≡ body whole → ⊥
    go true rest e = rest e
    go false rest e = rest e

pub goes_on_same : (b : Body) → GoesOn b b
goes_on_same b = record { vars = refl; more = []; items = sym (append-nil b.items) }

module _ (whole : Body) where
  pub grows : (b : Body) (words : List Word) → meaning_after (body b) words ≡ body whole → GoesOn b whole
  grows b [] e = let same : b ≡ whole = cc in record { vars = ap (λ (x : Body). x.vars) (sym same); more = []; items = ap (λ (x : Body). x.items) (sym same) ∙ sym (append-nil b.items) }
  grows b (word ∷ words) e = go (nat_lt (room_of (body b)) (word.at + length word.bytes)) (next_word b.codes b.reading word) (λ next. grows next words) e
    where
      said : (answer : Answer Said) → ((next : Body) → meaning_after (body next) words ≡ body whole → GoesOn next whole) → meaning_after (after_body_word b answer) words ≡ body whole → GoesOn b whole
      said (Ok (says, reading)) rest e =
          let further = rest (record b { items = b.items ++ option_to_list says; reading = reading }) e in
          record { vars = further.vars; more = option_to_list says ++ further.more; items = further.items ∙ append_assoc b.items (option_to_list says) further.more }
      said (Err f) rest e = absurd (fault_stays_one f words whole e)

      go : (full : Bool) (answer : Answer Said) → ((next : Body) → meaning_after (body next) words ≡ body whole → GoesOn next whole) → meaning_after (cond full (fault (stop_of (body b))) (after_body_word b answer)) words ≡ body whole → GoesOn b whole
      go true answer rest e = absurd (fault_stays_one (stop_of (body b)) words whole e)
      go false answer rest e = said answer rest e

-- a dump goes on from what a front of its text says
pub begun_goes_on : (text : List ℕ) (b whole : Body) → BeginsAs text b → EndsAs text whole → GoesOn b whole
begun_goes_on text b whole begun e =
    let s = begun.stands in
    let more : List ℕ = begun.word ++ begun.rest in
    let parts : text ≡ s.front ++ more = begun.split ∙ ap (λ (t : List ℕ). t ++ begun.rest) s.split ∙ append_assoc s.front begun.word begun.rest in
    let meant : meaning_after (body b) (words_from (length s.front) more) ≡ body whole =
    ap (λ (m : Meaning). meaning_after m (words_from (length s.front) more)) (sym s.meaning) ∙ sym (meaning-further s.front more s.whole) ∙ ap (λ (t : List ℕ). meaning_of (words_of t)) (sym parts) ∙ meaning_at_end text e.word e.means e.stands ∙ e.meaning in
    grows whole b (words_from (length s.front) more) meant

pub dump_goes_on : (text : List ℕ) (b whole : Body) → SaysBody text b → EndsAs text whole → GoesOn b whole
dump_goes_on text b whole (inl begun) e = begun_goes_on text b whole begun e
dump_goes_on text b whole (inr ended) e =
    let same : b ≡ whole = one_dump text b whole ended e in
    record { vars = ap (λ (x : Body). x.vars) (sym same); more = []; items = ap (λ (x : Body). x.items) (sym same) ∙ sym (append-nil b.items) }
