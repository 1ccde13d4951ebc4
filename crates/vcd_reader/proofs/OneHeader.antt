-- A text has one header: where that is read, what follows changes no variable, and where it has a fault, no body is said.
use Rattle.std.proofs.Common.{◌≡◌, ℕ, Bool, true, false, cond, List, [], ◌∷◌, ◌++◌, length, Ok, Err, refl, sym, ap, subst, ◌∙◌, append_assoc, append-nil, inl, inr}
use Rattle.std.specs.Prelude.{◌⊎◌, nat_lt, ◌+◌}
use Rattle.vcd_reader.specs.Answer.{Answer}
use Rattle.vcd_reader.specs.Body.{Said, next_word}
use Rattle.vcd_reader.specs.Dump.{BeginsAs, HasNoBody, SaysBody}
use Rattle.vcd_reader.specs.Reading.{Body, HeaderReading, Meaning, header, body, fault, after_body_word, room_of, stop_of, with_word, meaning_after, meaning_of}
use Rattle.vcd_reader.specs.Text.{Stands, HasFault, EndsWithFault}
use Rattle.vcd_reader.specs.Words.{Word, words_from, words_of}
use Rattle.vcd_reader.specs.declared.fault.DumpFault.{DumpFault}
use Rattle.vcd_reader.specs.declared.vars.Var.{Var}
use Rattle.vcd_reader.proofs.FaultLaws.{dump_excludes, fault_excludes, goes_on, meaning-further, one_dump}
use Rattle.vcd_reader.proofs.Growing.{begun_goes_on}
use Rattle.vcd_reader.proofs.TextLemmas.{fault_stays}

-- the meaning is that of a body with these variables, or a fault
abbrev pub Keeps : List Var → Meaning → Type 0
Keeps vars (header reading) = ⊥
Keeps vars (body b) = b.vars ≡ vars
Keeps vars (fault f) = Unit {0}

kept_word : (vars : List Var) (b : Body) (full : Bool) (answer : Answer Said) → b.vars ≡ vars → Keeps vars (cond full (fault (stop_of (body b))) (after_body_word b answer))
kept_word vars b true answer same = tt
kept_word vars b false (Ok (says, reading)) same = same
kept_word vars b false (Err f) same = tt

kept_fault : (vars : List Var) (f g : DumpFault) (full : Bool) → Keeps vars (cond full (fault f) (fault g))
kept_fault vars f g true = tt
kept_fault vars f g false = tt

keeps_word : (vars : List Var) (means : Meaning) (word : Word) → Keeps vars means → Keeps vars (with_word means word)
keeps_word vars (header reading) word kept = absurd kept
keeps_word vars (body b) word kept = kept_word vars b (nat_lt (room_of (body b)) (word.at + length word.bytes)) (next_word b.codes b.reading word) kept
keeps_word vars (fault f) word kept = kept_fault vars (stop_of (fault f)) f (nat_lt (room_of (fault f)) (word.at + length word.bytes))

-- further words keep it
keeps : (vars : List Var) (means : Meaning) (words : List Word) → Keeps vars means → Keeps vars (meaning_after means words)
keeps vars means [] kept = kept
keeps vars means (word ∷ words) kept = keeps vars (with_word means word) words (keeps_word vars means word kept)

-- what a text means of which a front says a body
pub begun_keeps : (text : List ℕ) (b : Body) → BeginsAs text b → (means : Meaning) (word : List ℕ) → Stands text means word → Keeps b.vars means
begun_keeps text b begun means word t =
    let s = begun.stands in
    let more : List ℕ = begun.word ++ begun.rest in
    let parts : text ≡ s.front ++ more = begun.split ∙ ap (λ (u : List ℕ). u ++ begun.rest) s.split ∙ append_assoc s.front begun.word begun.rest in
    let goes = goes_on true s.front more t.front word s.whole t.black (sym parts ∙ t.split) in
    let meant : meaning_after (body b) (words_from (length s.front) goes.more) ≡ means =
    ap (λ (m : Meaning). meaning_after m (words_from (length s.front) goes.more)) (sym s.meaning) ∙ sym (meaning-further s.front goes.more s.whole) ∙ ap (λ (u : List ℕ). meaning_of (words_of u)) (sym goes.is) ∙ t.meaning in
    subst (λ (m : Meaning). Keeps b.vars m) meant (keeps b.vars (body b) (words_from (length s.front) goes.more) refl)

no_rest : (front rest : List ℕ) → [] ≡ front ++ rest → rest ≡ []
no_rest [] rest e = sym e
no_rest (byte ∷ front) rest e = cc

-- a front of a text with one byte more is all of it, or a front of the text
pub shorter : (text front rest : List ℕ) (byte : ℕ) → text ++ byte ∷ [] ≡ front ++ rest → (rest ≡ []) ⊎ ((more : List ℕ) × (text ≡ front ++ more))
shorter [] [] rest byte e = inr ([], refl)
shorter [] (first ∷ front) rest byte e = let tails : [] ≡ front ++ rest = cc in inl (no_rest front rest tails)
shorter (t ∷ text) [] rest byte e = inr (t ∷ text, refl)
shorter (t ∷ text) (first ∷ front) rest byte e =
    let heads : t ≡ first = cc in
    let tails : text ++ byte ∷ [] ≡ front ++ rest = cc in
    elim (shorter text front rest byte tails) [
      | inl none ↦ inl none
      | inr part ↦ inr (part.0, ap (λ (b : ℕ). b ∷ text) heads ∙ ap (λ (u : List ℕ). first ∷ u) part.1)
    ]

-- of two fronts of a text one is a front of the other
pub two_fronts : (a b c d : List ℕ) → a ++ b ≡ c ++ d → ((more : List ℕ) × (c ≡ a ++ more)) ⊎ ((more : List ℕ) × (a ≡ c ++ more))
two_fronts [] b c d e = inl (c, refl)
two_fronts (x ∷ a) b [] d e = inr (x ∷ a, refl)
two_fronts (x ∷ a) b (y ∷ c) d e =
    let heads : x ≡ y = cc in
    let tails : a ++ b ≡ c ++ d = cc in
    elim (two_fronts a b c d tails) [
      | inl part ↦ inl (part.0, ap (λ (h : ℕ). h ∷ c) (sym heads) ∙ ap (λ (u : List ℕ). x ∷ u) part.1)
      | inr part ↦ inr (part.0, ap (λ (h : ℕ). h ∷ a) heads ∙ ap (λ (u : List ℕ). y ∷ u) part.1)
    ]

-- a front that says a body is the front of a longer one
pub begins_in : (text more : List ℕ) (b : Body) (begun : BeginsAs text b) (front : List ℕ) → front ≡ begun.front ++ more → BeginsAs front b
begins_in text more b begun front e = record { front = begun.front; rest = more; word = begun.word; split = e; stands = begun.stands }

-- a fault that is directly after a header that goes on
pub header_says_none : (text word : List ℕ) (reading : HeaderReading) (byte : ℕ) (f : DumpFault) → Stands text (header reading) word → HasFault (text ++ byte ∷ []) f → HasNoBody (text ++ byte ∷ [])
header_says_none text word reading byte f stands has b (inr ended) = fault_excludes (text ++ byte ∷ []) f has ended.means ended.word ended.stands
header_says_none text word reading byte f stands has b (inl begun) =
    elim (shorter text begun.front begun.rest byte begun.split) [
      | inl none ↦
          let all : text ++ byte ∷ [] ≡ begun.front = begun.split ∙ ap (λ (u : List ℕ). begun.front ++ u) none ∙ append-nil begun.front in
          fault_excludes begun.front f (subst (λ (u : List ℕ). HasFault u f) all has) (body b) begun.word begun.stands
      | inr part ↦ begun_keeps text b (begins_in (text ++ byte ∷ []) part.0 b begun text part.1) (header reading) word stands
    ]

-- the same where the text ends
pub header_ends_none : (text word : List ℕ) (reading : HeaderReading) (f : DumpFault) → Stands text (header reading) word → EndsWithFault text f → HasNoBody text
header_ends_none text word reading f stands ends b (inr ended) = dump_excludes text b f ended ends
header_ends_none text word reading f stands ends b (inl begun) = begun_keeps text b begun (header reading) word stands

-- no body comes after a fault
pub none_stays : (text more : List ℕ) (f : DumpFault) → HasFault text f → HasNoBody text → HasNoBody (text ++ more)
none_stays text more f has none b (inr ended) = fault_excludes (text ++ more) f (fault_stays text more f has) ended.means ended.word ended.stands
none_stays text more f has none b (inl begun) =
    elim (two_fronts text more begun.front begun.rest begun.split) [
      | inl part ↦ fault_excludes begun.front f (subst (λ (u : List ℕ). HasFault u f) (sym part.1) (fault_stays text part.0 f has)) (body b) begun.word begun.stands
      | inr part ↦ none b (inl (begins_in (text ++ more) part.0 b begun text part.1))
    ]

-- what a text says has one list of variables
pub one_header : (text : List ℕ) (b other : Body) → SaysBody text b → SaysBody text other → other.vars ≡ b.vars
one_header text b other (inr e) (inr o) = ap (λ (x : Body). x.vars) (sym (one_dump text b other e o))
one_header text b other (inl begun) (inr o) = (begun_goes_on text b other begun o).vars
one_header text b other (inr e) (inl begun) = sym (begun_goes_on text other b begun e).vars
one_header text b other (inl begun) (inl later) =
    elim (two_fronts begun.front begun.rest later.front later.rest (sym begun.split ∙ later.split)) [
      | inl part ↦ begun_keeps later.front b (begins_in text part.0 b begun later.front part.1) (body other) later.word later.stands
      | inr part ↦ sym (begun_keeps begun.front other (begins_in text part.0 other later begun.front part.1) (body b) begun.word begun.stands)
    ]
