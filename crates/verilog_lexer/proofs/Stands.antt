-- One turn of the reading leaves what is said the same.
use Rattle.std.proofs.Common.{◌≡◌, ◌<◌, ◌≤◌, ◌+◌, ◌-◌, ℕ, zero, suc, Bool, true, false, cond, List, [], ◌∷◌, ◌++◌, Option, None, Some, Ok, Err, length, take, drop, refl, sym, ap, subst, ⊎_elim, ◌∙◌, arith, length-append}
use Rattle.std.proofs.lemmas.Bool.{cases_lt, false≢true, lt-ltb}
use Rattle.std.specs.List.{slice_get}
use Rattle.std.specs.Prelude.{is_none, nat_lt}
use Rattle.verilog_lexer.specs.Answer.{Answer, ◌>>=◌, IsFault, fault_at}
use Rattle.verilog_lexer.specs.Sources.{SourceText, include_place}
use Rattle.verilog_lexer.specs.Spot.{after, after_all}
use Rattle.verilog_lexer.specs.Piece.{piece_length}
use Rattle.verilog_lexer.specs.Reading.{Reading, Entry, macro_text, file, PassageText, Inner, meaning, front_piece, entered, ended, scan, scan_passage, Opened, macro_opened, file_opened, opened_file, included, looked_up, bytes_taken, with_less_room, put_in, opened, inner_at, read_passage, root_passage}
use Rattle.verilog_lexer.specs.Stand.{Stand, resumed, outward, outcome, advanced, work, Enters, Proceeds}
use Rattle.verilog_lexer.proofs.ReadTokens.{no_answer, same_answer, bind_ok, meaning_room, ended_room}
use Rattle.verilog_lexer.proofs.Works.{work-advanced, work-entered, work-ended, work-last, turns_alone}
use Rattle.verilog_lexer.specs.declared.spot.Spot.{Spot}
use Rattle.verilog_lexer.specs.declared.condition.Condition.{Condition}
use Rattle.verilog_lexer.specs.declared.fault.LexFault.{LexFault}
use Rattle.verilog_lexer.specs.declared.fault.LexFault.TheVariants as lex_fault
use Rattle.verilog_lexer.specs.declared.fault.LexKind.TheVariants.{MacroDepth, ExpansionTooLong}

-- a fault of one answer is the fault of another one, where it is handed on
pub fault_through : {A B : Type 0} (given : Answer A) (other : Answer B) → ((fault : LexFault) → given ≡ Err fault → other ≡ Err fault) → (fault : LexFault) → IsFault given fault → IsFault other fault
fault_through given other passes lex_fault.NoMemory is = tt
fault_through given other passes (lex_fault.At kind place detail) is = passes (lex_fault.At kind place detail) is

-- what comes next may be written in another way
pub bind-ext : {A B : Type 0} (given : Answer A) (f g : A → Answer B) → ((x : A) → f x ≡ g x) → (given >>= f) ≡ (given >>= g)
bind-ext (Ok x) f g same = same x
bind-ext (Err fault) f g same = refl

pub outward-fault : (depth : ℕ) (sources : List SourceText) (waiting : List PassageText) (fault : LexFault) → outward depth sources waiting (Err fault) ≡ Err fault
unfolding outward
outward-fault depth sources [] fault = refl
outward-fault depth sources (passage ∷ others) fault = rw (outward-fault (depth - 1) sources others fault) refl

-- the innermost text that waits is the first that goes on
pub outward-push : (depth : ℕ) (sources : List SourceText) (waiting : List PassageText) (passage : PassageText) (given : Answer Reading) → outward depth sources (waiting ++ passage ∷ []) given ≡ outward depth sources waiting (given >>= resumed (depth - length waiting) sources passage)
unfolding outward
outward-push depth sources [] passage given =
    let same : depth ≡ depth - 0 = omega arith in
    ap (λ d. given >>= resumed d sources passage) same
outward-push depth sources (first ∷ others) passage given =
    let same : depth - 1 - length others ≡ depth - suc (length others) = omega arith in
    ap (λ g. g >>= resumed depth sources first) (outward-push (depth - 1) sources others passage given ∙ ap (λ d. outward (depth - 1) sources others (given >>= resumed d sources passage)) same)

-- what is left of a piece is passed over
pub scan-skip : (inner : Inner) (ending : Option (List Condition)) (left : ℕ) (spot : Spot) (text : List ℕ) (reading : Reading) → scan inner ending left spot text reading ≡ scan inner ending 0 (after_all spot (take left text)) (drop left text) reading
unfolding scan
scan-skip inner ending zero spot text reading = refl
scan-skip inner ending (suc left) spot [] reading = refl
scan-skip inner ending (suc left) spot (byte ∷ others) reading = scan-skip inner ending left (after spot byte) others reading

-- the reading of a text is the meaning of its first piece, and then the reading of the rest
pub scan-piece : (inner : Inner) (ending : Option (List Condition)) (spot : Spot) (text : List ℕ) (reading : Reading) (bytes : ℕ) → 0 < length text → bytes ≡ suc (piece_length (front_piece (is_none ending) reading.conditions text) - 1) →
    scan inner ending 0 spot text reading ≡ (meaning spot text (front_piece (is_none ending) reading.conditions text) reading >>= λ step. entered inner spot step.entry step.reading >>= λ next. scan inner ending 0 (after_all spot (take bytes text)) (drop bytes text) next)
unfolding scan
scan-piece inner ending spot [] reading bytes some is = absurd (omega arith)
scan-piece inner ending spot (byte ∷ others) reading bytes some is =
    rw is (bind-ext (meaning spot (byte ∷ others) (front_piece (is_none ending) reading.conditions (byte ∷ others)) reading) _ _ (λ step. bind-ext (entered inner spot step.entry step.reading) _ _ (λ next. scan-skip inner ending (piece_length (front_piece (is_none ending) reading.conditions (byte ∷ others)) - 1) (after spot byte) others next)))

-- an inner text may be entered where fewer than 64 wait
pub inner_at-room : (sources : List SourceText) (waiting : ℕ) (spot : Spot) (entry : Entry) (reading : Reading) → waiting < 64 → inner_at (64 - waiting) sources spot entry reading ≡ (opened sources spot entry reading >>= λ inside. scan_passage (inner_at (64 - suc waiting) sources) inside.passage inside.reading)
unfolding inner_at
inner_at-room sources waiting spot entry reading room =
    let deep : 64 - waiting ≡ suc (64 - suc waiting) = omega arith in
    rw deep refl

pub inner_at-full : (sources : List SourceText) (waiting : ℕ) (spot : Spot) (entry : Entry) (reading : Reading) → waiting ≡ 64 → inner_at (64 - waiting) sources spot entry reading ≡ fault_at MacroDepth spot.place
unfolding inner_at
inner_at-full sources waiting spot entry reading full = rw full refl

-- what is left where the last of the texts that wait is this one
outcome-push : (sources : List SourceText) (waiting : List PassageText) (outer passage : PassageText) (reading : Reading) → outcome sources (record { waiting = waiting ++ outer ∷ []; passage = passage; reading = reading }) ≡ outward 64 sources waiting (resumed (64 - suc (length waiting)) sources passage reading >>= resumed (64 - length waiting) sources outer)
unfolding outcome
outcome-push sources waiting outer passage reading =
    let count : length (waiting ++ outer ∷ []) ≡ suc (length waiting) = omega (arith, length-append waiting (outer ∷ [])) in
    outward-push 64 sources waiting outer (resumed (64 - length (waiting ++ outer ∷ [])) sources passage reading) ∙ ap (λ n. outward 64 sources waiting (resumed (64 - n) sources passage reading >>= resumed (64 - length waiting) sources outer)) count

module _ (sources : List SourceText) (waiting : List PassageText) (passage : PassageText) (reading : Reading) (bytes : ℕ) (some : 0 < length passage.text) (is : bytes ≡ suc (piece_length (front_piece (is_none passage.ending) reading.conditions passage.text) - 1)) where
  -- what is left, by the first piece of the text
  outcome-piece : outcome sources (record { waiting = waiting; passage = passage; reading = reading }) ≡ outward 64 sources waiting (meaning passage.spot passage.text (front_piece (is_none passage.ending) reading.conditions passage.text) reading >>= λ step. entered (inner_at (64 - length waiting) sources) passage.spot step.entry step.reading >>= λ next. resumed (64 - length waiting) sources (advanced bytes passage) next)
  unfolding outcome
  outcome-piece = ap (outward 64 sources waiting) (scan-piece (inner_at (64 - length waiting) sources) passage.ending passage.spot passage.text reading bytes some is)

  -- a fault of the piece is the fault of all that is left
  pub meaning_faults : (fault : LexFault) → IsFault (meaning passage.spot passage.text (front_piece (is_none passage.ending) reading.conditions passage.text) reading) fault → IsFault (outcome sources (record { waiting = waiting; passage = passage; reading = reading })) fault
  meaning_faults = fault_through _ _ (λ fault faults. rw (outcome-piece, faults) (outward-fault 64 sources waiting fault))

  -- a piece after which nothing is entered
  pub goes_on_same : (next : Reading) → meaning passage.spot passage.text (front_piece (is_none passage.ending) reading.conditions passage.text) reading ≡ Ok (record { reading = next; entry = None }) →
      outcome sources (record { waiting = waiting; passage = passage; reading = reading }) ≡ outcome sources (record { waiting = waiting; passage = advanced bytes passage; reading = next })
  unfolding outcome
  goes_on_same next means = rw (outcome-piece, means) refl

  module _ (next : Reading) (entry : Entry) (means : meaning passage.spot passage.text (front_piece (is_none passage.ending) reading.conditions passage.text) reading ≡ Ok (record { reading = next; entry = Some entry })) where
    outcome-entry : outcome sources (record { waiting = waiting; passage = passage; reading = reading }) ≡ outward 64 sources waiting (inner_at (64 - length waiting) sources passage.spot entry next >>= resumed (64 - length waiting) sources (advanced bytes passage))
    outcome-entry = rw (outcome-piece, means) refl

    -- a fault of what is entered is the fault of all that is left
    pub entry_faults : (fault : LexFault) → IsFault (inner_at (64 - length waiting) sources passage.spot entry next) fault → IsFault (outcome sources (record { waiting = waiting; passage = passage; reading = reading })) fault
    entry_faults = fault_through _ _ (λ fault faults. rw (outcome-entry, faults) (outward-fault 64 sources waiting fault))

    -- what is entered is read first, and the text waits
    pub enters_same : (inside : PassageText) (inside_reading : Reading) → length waiting < 64 → opened sources passage.spot entry next ≡ Ok (record { passage = inside; reading = inside_reading }) →
        outcome sources (record { waiting = waiting; passage = passage; reading = reading }) ≡ outcome sources (record { waiting = waiting ++ advanced bytes passage ∷ []; passage = inside; reading = inside_reading })
    enters_same inside inside_reading room opens =
        outcome-entry
        ∙ ap (λ given. outward 64 sources waiting (given >>= resumed (64 - length waiting) sources (advanced bytes passage)))
        (inner_at-room sources (length waiting) passage.spot entry next room ∙ ap (λ given. given >>= λ opened_. scan_passage (inner_at (64 - suc (length waiting)) sources) opened_.passage opened_.reading) opens)
        ∙ sym (outcome-push sources waiting (advanced bytes passage) inside inside_reading)

-- at the end of a text it is ended
scan-end : (inner : Inner) (ending : Option (List Condition)) (spot : Spot) (text : List ℕ) (reading : Reading) → text ≡ [] → scan inner ending 0 spot text reading ≡ ended ending spot reading
unfolding scan
scan-end inner ending spot text reading empty = rw empty refl

module _ (sources : List SourceText) (passage : PassageText) (reading : Reading) (empty : passage.text ≡ []) where
  -- then the text round it goes on
  pub end_same : (waiting : List PassageText) (outer : PassageText) (next : Reading) → ended passage.ending passage.spot reading ≡ Ok next →
      outcome sources (record { waiting = waiting ++ outer ∷ []; passage = passage; reading = reading }) ≡ outcome sources (record { waiting = waiting; passage = outer; reading = next })
  unfolding outcome
  end_same waiting outer next ends =
      outcome-push sources waiting outer passage reading
      ∙ ap (λ given. outward 64 sources waiting (given >>= resumed (64 - length waiting) sources outer)) (scan-end (inner_at (64 - suc (length waiting)) sources) passage.ending passage.spot passage.text reading empty ∙ ends)

  -- or all is read
  pub end_last : (waiting : List PassageText) (next : Reading) → waiting ≡ [] → ended passage.ending passage.spot reading ≡ Ok next →
      outcome sources (record { waiting = waiting; passage = passage; reading = reading }) ≡ Ok next
  unfolding outcome outward
  end_last waiting next none ends = rw none (scan-end (inner_at 64 sources) passage.ending passage.spot passage.text reading empty ∙ ends)

  pub end_faults : (waiting : List PassageText) (fault : LexFault) → IsFault (ended passage.ending passage.spot reading) fault → IsFault (outcome sources (record { waiting = waiting; passage = passage; reading = reading })) fault
  unfolding outcome
  end_faults waiting = fault_through _ _ (λ fault faults. ap (outward 64 sources waiting) (scan-end (inner_at (64 - length waiting) sources) passage.ending passage.spot passage.text reading empty ∙ faults) ∙ outward-fault 64 sources waiting fault)

taken_back : (room bytes : ℕ) → nat_lt room bytes ≡ false → room - bytes + bytes ≡ room
taken_back room bytes is =
    let enough : bytes ≤ room = ⊎_elim (λ short. absurd (false≢true (sym is ∙ lt-ltb room bytes short))) (λ enough. enough) (cases_lt room bytes) in
    omega arith

put_in_room : (spot : Spot) (inside put : Opened) → put_in spot inside ≡ Ok put → put.reading.room + bytes_taken put ≡ inside.reading.room
put_in_room spot inside put is = by_room (nat_lt inside.reading.room (bytes_taken inside)) refl is where
  by_room : (full : Bool) → nat_lt inside.reading.room (bytes_taken inside) ≡ full → cond full (fault_at ExpansionTooLong spot.place) (Ok (with_less_room inside)) ≡ Ok put
      → put.reading.room + bytes_taken put ≡ inside.reading.room
  by_room true full is = absurd (no_answer _ put is)
  by_room false full is =
      subst (λ (p : Opened). p.reading.room + bytes_taken p ≡ inside.reading.room) (same_answer (with_less_room inside) put is) (taken_back inside.reading.room (bytes_taken inside) full)

kept_room : (old : Reading) (made inside : Opened) → made.reading.room ≡ old.room → ◌≡◌ {A = Answer Opened} (Ok made) (Ok inside) → inside.reading.room ≡ old.room
kept_room old made inside room is = sym (ap (λ (o : Opened). o.reading.room) (same_answer made inside is)) ∙ room

file_room : (spot : Spot) (name : List ℕ) (place : ℕ) (source : Option SourceText) (old : Reading) (inside : Opened) → opened_file spot name place source old ≡ Ok inside → inside.reading.room ≡ old.room
file_room spot name place None old inside is = absurd (no_answer _ inside is)
file_room spot name place (Some source) old inside is = kept_room old (file_opened spot place source old) inside refl is

included_room : (sources : List SourceText) (spot : Spot) (name : List ℕ) (place : Option ℕ) (old : Reading) (inside : Opened) → included sources spot name place old ≡ Ok inside → inside.reading.room ≡ old.room
included_room sources spot name None old inside is = absurd (no_answer _ inside is)
included_room sources spot name (Some place) old inside is = file_room spot name place (slice_get sources place) old inside is

looked_up_room : (sources : List SourceText) (spot : Spot) (entry : Entry) (old : Reading) (inside : Opened) → looked_up sources spot entry old ≡ Ok inside → inside.reading.room ≡ old.room
looked_up_room sources spot (macro_text text) old inside is = kept_room old (macro_opened spot text old) inside refl is
looked_up_room sources spot (file name) old inside is = included_room sources spot name (include_place sources name) old inside is

-- what is put in takes its bytes and 8 more of the room
opened_room : (sources : List SourceText) (spot : Spot) (entry : Entry) (old : Reading) (inside : Opened) → opened sources spot entry old ≡ Ok inside → inside.reading.room + bytes_taken inside ≡ old.room
opened_room sources spot entry old inside is =
    let bound = bind_ok (looked_up sources spot entry old) (put_in spot) inside is in
    put_in_room spot bound.0 inside bound.2 ∙ looked_up_room sources spot entry old bound.0 bound.1

-- over a `Stand` as a whole
module _ (sources : List SourceText) (stand : Stand) (bytes : ℕ) (some : 0 < length stand.passage.text) (is : bytes ≡ piece_length (front_piece (is_none stand.passage.ending) stand.reading.conditions stand.passage.text) - 1 + 1) where
  passed : bytes ≡ suc (piece_length (front_piece (is_none stand.passage.ending) stand.reading.conditions stand.passage.text) - 1)
  passed = omega (arith, is)

  pub read_faults : (fault : LexFault) → IsFault (meaning stand.passage.spot stand.passage.text (front_piece (is_none stand.passage.ending) stand.reading.conditions stand.passage.text) stand.reading) fault → IsFault (outcome sources stand) fault
  read_faults = meaning_faults sources stand.waiting stand.passage stand.reading bytes some passed

  pub read_goes_on : (next : Reading) (passage : PassageText) → meaning stand.passage.spot stand.passage.text (front_piece (is_none stand.passage.ending) stand.reading.conditions stand.passage.text) stand.reading ≡ Ok (record { reading = next; entry = None }) → passage ≡ advanced bytes stand.passage →
      Proceeds sources stand (record { waiting = stand.waiting; passage = passage; reading = next })
  read_goes_on next passage means advances = record {
    same = rw advances (goes_on_same sources stand.waiting stand.passage stand.reading bytes some passed next means);
    less = rw advances (work-advanced stand next bytes some (omega (arith, is)) (meaning_room stand.passage.spot stand.passage.text (front_piece (is_none stand.passage.ending) stand.reading.conditions stand.passage.text) stand.reading (record { reading = next; entry = None }) means));
  }

  module _ (next : Reading) (entry : Entry) (passage : PassageText) (means : meaning stand.passage.spot stand.passage.text (front_piece (is_none stand.passage.ending) stand.reading.conditions stand.passage.text) stand.reading ≡ Ok (record { reading = next; entry = Some entry })) (advances : passage ≡ advanced bytes stand.passage) where
    pub read_entry_faults : (fault : LexFault) → IsFault (inner_at (64 - length stand.waiting) sources stand.passage.spot entry next) fault → IsFault (outcome sources stand) fault
    read_entry_faults = entry_faults sources stand.waiting stand.passage stand.reading bytes some passed next entry means

    pub read_enters : (new : Stand) → Enters sources stand.passage.spot entry (record { waiting = stand.waiting; passage = passage; reading = next }) new → Proceeds sources stand new
    read_enters new enters =
        let waits : new.waiting ≡ stand.waiting ++ advanced bytes stand.passage ∷ [] = enters.waiting ∙ ap (λ p. stand.waiting ++ p ∷ []) advances in
        let same_room : next.room ≡ stand.reading.room = meaning_room stand.passage.spot stand.passage.text (front_piece (is_none stand.passage.ending) stand.reading.conditions stand.passage.text) stand.reading (record { reading = next; entry = Some entry }) means in
        let room : new.reading.room + (length new.passage.text + 8) ≡ stand.reading.room = opened_room sources stand.passage.spot entry next (record { passage = new.passage; reading = new.reading }) enters.opened ∙ same_room in
        record {
          same = enters_same sources stand.waiting stand.passage stand.reading bytes some passed next entry means new.passage new.reading enters.room enters.opened ∙ ap (λ w. outcome sources (record { waiting = w; passage = new.passage; reading = new.reading })) (sym waits);
          less = work-entered stand new bytes some (omega (arith, is)) waits room;
        }

module _ (sources : List SourceText) (stand : Stand) (next : Reading) (empty : stand.passage.text ≡ []) where
  pub text_ends : (waiting : List PassageText) (outer : PassageText) → stand.waiting ≡ waiting ++ outer ∷ [] → ended stand.passage.ending stand.passage.spot stand.reading ≡ Ok next →
      Proceeds sources stand (record { waiting = waiting; passage = outer; reading = next })
  text_ends waiting outer waits ends = record {
    same = ap (λ w. outcome sources (record { waiting = w; passage = stand.passage; reading = stand.reading })) waits ∙ end_same sources stand.passage stand.reading empty waiting outer next ends;
    less = work-ended stand waiting outer next waits (ended_room stand.passage.ending stand.passage.spot stand.reading next ends);
  }

  pub all_ends : stand.waiting ≡ [] → ended stand.passage.ending stand.passage.spot stand.reading ≡ Ok next → outcome sources stand ≡ Ok next
  all_ends none ends = end_last sources stand.passage stand.reading empty stand.waiting next none ends

  pub last_room : ended stand.passage.ending stand.passage.spot stand.reading ≡ Ok next → next.room < work stand
  last_room ends = work-last stand next (ended_room stand.passage.ending stand.passage.spot stand.reading next ends)

-- nothing more is entered where 64 texts wait
pub full_faults : (sources : List SourceText) (waiting : ℕ) (spot : Spot) (entry : Entry) (reading : Reading) → waiting ≡ 64 → IsFault (inner_at (64 - waiting) sources spot entry reading) (lex_fault.At MacroDepth (Some spot.place) None)
full_faults sources waiting spot entry reading full = inner_at-full sources waiting spot entry reading full

-- a fault of opening is the fault of what is entered
pub opened_faults : (sources : List SourceText) (waiting : ℕ) (spot : Spot) (entry : Entry) (reading : Reading) → waiting < 64 → (fault : LexFault) → IsFault (opened sources spot entry reading) fault → IsFault (inner_at (64 - waiting) sources spot entry reading) fault
opened_faults sources waiting spot entry reading room = fault_through _ _ (λ fault faults. rw (inner_at-room sources waiting spot entry reading room, faults) refl)

-- a list of no length is empty
pub none_left : {A : Type 0} (xs : List A) → (0 < length xs → ⊥) → xs ≡ []
none_left [] none = refl
none_left (x ∷ xs) none = absurd (none (omega arith))

-- one more text waits, and that is not too many
pub entered_depth : (sources : List SourceText) (spot : Spot) (entry : Entry) (old new : Stand) → Enters sources spot entry old new → length new.waiting ≤ 64
entered_depth sources spot entry old new enters =
    let count : length new.waiting ≡ length old.waiting + 1 = ap length enters.waiting ∙ omega (arith, length-append old.waiting (old.passage ∷ [])) in
    omega (arith, enters.room)

-- where no text waits, what is left is the text alone
pub outcome-alone : (sources : List SourceText) (stand : Stand) → stand.waiting ≡ [] → outcome sources stand ≡ read_passage sources stand.passage stand.reading
unfolding outcome outward
outcome-alone sources stand none = rw none refl

-- a file that is read by itself, where no text waits
pub root_outcome : (sources : List SourceText) (waiting : List PassageText) (number : ℕ) (text : List ℕ) (reading : Reading) (conditions : List Condition) → waiting ≡ [] → conditions ≡ [] →
    outcome sources (record { waiting = waiting; passage = record { text = text; spot = record { place = record { source = number; line = 1; column = 1 }; inside = false }; ending = Some conditions }; reading = reading }) ≡ read_passage sources (root_passage number text) reading
root_outcome sources waiting number text reading conditions none empty =
    ap (λ round. outcome sources (record { waiting = waiting; passage = record { text = text; spot = record { place = record { source = number; line = 1; column = 1 }; inside = false }; ending = Some round }; reading = reading })) empty
    ∙ outcome-alone sources (record { waiting = waiting; passage = root_passage number text; reading = reading }) none

-- the turns of that file
pub root_turns : (waiting : List PassageText) (number : ℕ) (text : List ℕ) (reading : Reading) (conditions : List Condition) (spent before : ℕ) → waiting ≡ []
    → spent ≤ before + work (record { waiting = waiting; passage = record { text = text; spot = record { place = record { source = number; line = 1; column = 1 }; inside = false }; ending = Some conditions }; reading = reading })
    → spent ≤ before + (length text + 1 + reading.room)
root_turns waiting number text reading conditions spent before none bound =
    turns_alone (record { waiting = waiting; passage = record { text = text; spot = record { place = record { source = number; line = 1; column = 1 }; inside = false }; ending = Some conditions }; reading = reading }) spent before none bound
