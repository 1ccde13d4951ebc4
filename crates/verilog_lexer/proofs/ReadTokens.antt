-- Where the tokens are that a reading adds.
use Rattle.std.proofs.Common.{◌≡◌, ◌-◌, ℕ, zero, suc, Bool, true, false, cond, ◌==◌, List, [], ◌∷◌, ◌++◌, Option, None, Some, Ok, Err, length, refl, sym, ap, ◌∙◌}
use Rattle.std.proofs.lemmas.List.{append-nil, append_assoc}
use Rattle.std.proofs.lemmas.List.Elements.{All-nil, All-cons, All-append}
use Rattle.std.specs.List.{All, slice_get}
use Rattle.std.specs.Result.{is_ok}
use Rattle.std.specs.Prelude.{is_none, nat_lt}
use Rattle.cov_host.specs.declared.place.Place.{Place}
use Rattle.verilog_lexer.specs.Answer.{Answer, ◌>>=◌, fault_at}
use Rattle.verilog_lexer.specs.Conditions.{named, after_test}
use Rattle.verilog_lexer.specs.Defines.{with_macro, without_macro}
use Rattle.verilog_lexer.specs.Piece.{Piece, blank, token, define, undefine, condition, inclusion, expansion, fault, piece_length}
use Rattle.verilog_lexer.specs.Reading.{Reading, Step, Entry, macro_text, file, Inner, goes, expanded, meaning, front_piece, entered, ended, scan, scan_passage, Opened, macro_opened, file_opened, opened_file, included, bytes_taken, with_less_room, put_in, inner_at}
use Rattle.verilog_lexer.specs.Sources.{SourceText, include_place}
use Rattle.verilog_lexer.specs.Tokens.{Lexeme, bad_number, sound_number, room_for_one, short_enough, with_token}
use Rattle.verilog_lexer.specs.declared.condition.Condition.{Condition}
use Rattle.verilog_lexer.specs.declared.fault.LexFault.{LexFault}
use Rattle.verilog_lexer.specs.declared.fault.LexKind.TheVariants.{OpenCondition, ExpansionTooLong}
use Rattle.verilog_lexer.specs.declared.spot.Spot.{Spot}
use Rattle.verilog_lexer.specs.declared.token.TokenKind.{TokenKind}

-- a fault is no answer
pub no_answer : {A : Type 0} (why : LexFault) (answer : A) → ◌≡◌ {A = Answer A} (Err why) (Ok answer) → ⊥
no_answer why answer is = let apart : false ≡ true = ap is_ok is in cc

abbrev answer_or : {A : Type 0} → A → Answer A → A
answer_or other (Ok answer) = answer
answer_or other (Err why) = other

pub same_answer : {A : Type 0} (first second : A) → ◌≡◌ {A = Answer A} (Ok first) (Ok second) → first ≡ second
same_answer first second is = ap (answer_or first) is

-- where there is an answer after what comes next, there is one before
pub bind_ok : {A B : Type 0} (given : Answer A) (next : A → Answer B) (answer : B) → (given >>= next) ≡ Ok answer → (value : A) × (given ≡ Ok value) × (next value ≡ Ok answer)
bind_ok (Ok value) next answer is = (value, refl, is)
bind_ok (Err why) next answer is = absurd (no_answer why answer is)

-- what comes after a text that is put in comes with less room
pub room_ok : {B : Type 0} (spot : Spot) (inside : Opened) (next : Opened → Answer B) (answer : B) → (put_in spot inside >>= next) ≡ Ok answer → next (with_less_room inside) ≡ Ok answer
room_ok spot inside next answer is = by_room (nat_lt inside.reading.room (bytes_taken inside)) is where
  by_room : (full : Bool) → (cond full (fault_at ExpansionTooLong spot.place) (Ok (with_less_room inside)) >>= next) ≡ Ok answer → next (with_less_room inside) ≡ Ok answer
  by_room true is = absurd (no_answer _ answer is)
  by_room false is = is

-- the tokens that the new reading has after those of the old one
abbrev pub Adds : Reading → Reading → (List Lexeme → Type 0) → Type 0
Adds old new Are = (added : List Lexeme) × (new.tokens ≡ old.tokens ++ added) × Are added

pub adds_none : (old new : Reading) (Are : List Lexeme → Type 0) → new.tokens ≡ old.tokens → Are [] → Adds old new Are
adds_none old new Are same none = ([], same ∙ sym (append-nil old.tokens), none)

pub adds_both : (old between new : Reading) (first second : List Lexeme) → between.tokens ≡ old.tokens ++ first → new.tokens ≡ between.tokens ++ second → new.tokens ≡ old.tokens ++ (first ++ second)
adds_both old between new first second is more = more ∙ ap (λ tokens. tokens ++ second) is ∙ append_assoc old.tokens first second

pub adds_from : (old between new : Reading) (Are : List Lexeme → Type 0) → between.tokens ≡ old.tokens → Adds between new Are → Adds old new Are
adds_from old between new Are same adds = (adds.0, adds.1 ∙ ap (λ tokens. tokens ++ adds.0) same, adds.2)

-- the end of a text adds nothing, and takes no room
abbrev EndsAs : Reading → Reading → Type 0
EndsAs old new = (new.tokens ≡ old.tokens) × (new.room ≡ old.room)

ended_as : (ending : Option (List Condition)) (spot : Spot) (old new : Reading) → ended ending spot old ≡ Ok new → EndsAs old new
ended_as None spot old new is =
    let same = sym (same_answer old new is) in
    (ap (λ reading. reading.tokens) same, ap (λ reading. reading.room) same)
ended_as (Some outer) spot old new is = by_closed (length old.conditions == 0) is where
  by_closed : (closed : Bool) → cond closed (Ok (record old { conditions = outer })) (fault_at OpenCondition spot.place) ≡ Ok new → EndsAs old new
  by_closed true is =
      let same = sym (same_answer (record old { conditions = outer }) new is) in
      (ap (λ reading. reading.tokens) same, ap (λ reading. reading.room) same)
  by_closed false is = absurd (no_answer _ new is)

pub ended_same : (ending : Option (List Condition)) (spot : Spot) (old new : Reading) → ended ending spot old ≡ Ok new → new.tokens ≡ old.tokens
ended_same ending spot old new is = (ended_as ending spot old new is).0

pub ended_room : (ending : Option (List Condition)) (spot : Spot) (old new : Reading) → ended ending spot old ≡ Ok new → new.room ≡ old.room
ended_room ending spot old new is = (ended_as ending spot old new is).1

-- no token is added, nothing is to be read next, and no room is taken
abbrev pub GoesOn : Reading → Step → Type 0
GoesOn old step = (step.reading.tokens ≡ old.tokens) × (step.entry ≡ None) × (step.reading.room ≡ old.room)

-- which token a piece adds, what is to be read next, and that it takes no room
abbrev pub Means : Spot → Piece → Reading → Step → Type 0
Means spot (blank n) old step = GoesOn old step
Means spot (token kind word) old step = (step.reading.tokens ≡ old.tokens ++ record { kind = kind; text = word; place = spot.place } ∷ []) × (step.entry ≡ None) × (step.reading.room ≡ old.room)
Means spot (define name body n) old step = GoesOn old step
Means spot (undefine name n) old step = GoesOn old step
Means spot (condition test n) old step = GoesOn old step
Means spot (inclusion name n) old step = (step.reading.tokens ≡ old.tokens) × (step.entry ≡ Some (file name)) × (step.reading.room ≡ old.room)
Means spot (expansion name n) old step = (body : List ℕ) × (step.reading.tokens ≡ old.tokens) × (step.entry ≡ Some (macro_text body)) × (step.reading.room ≡ old.room)
Means spot (fault kind before) old step = ⊥

means_room : (spot : Spot) (piece : Piece) (old : Reading) (step : Step) → Means spot piece old step → step.reading.room ≡ old.room
means_room spot (blank n) old step means = means.2
means_room spot (token kind word) old step means = means.2
means_room spot (define name body n) old step means = means.2
means_room spot (undefine name n) old step means = means.2
means_room spot (condition test n) old step means = means.2
means_room spot (inclusion name n) old step means = means.2
means_room spot (expansion name n) old step means = means.3
means_room spot (fault kind before) old step means = absurd means

goes_on : (old : Reading) (step : Step) → goes old ≡ Ok step → GoesOn old step
goes_on old step is =
    let same = sym (same_answer (record { reading = old; entry = None }) step is) in
    (ap (λ s. s.reading.tokens) same, ap (λ s. s.entry) same, ap (λ s. s.reading.room) same)

-- a token that is added makes no bad number, is short enough, and is at the end
pub with_token_is : (spot : Spot) (text : List ℕ) (kind : TokenKind) (word : List ℕ) (old new : List Lexeme) → with_token spot text kind word old ≡ Ok new
    → (sound_number (bad_number old kind word spot.place) ≡ Ok tt) × (short_enough spot text kind word ≡ Ok tt) × (new ≡ old ++ record { kind = kind; text = word; place = spot.place } ∷ [])
with_token_is spot text kind word old new is =
    let made : Answer (List Lexeme) = Ok (old ++ record { kind = kind; text = word; place = spot.place } ∷ []) in
    let first = bind_ok (sound_number (bad_number old kind word spot.place)) (λ _. room_for_one old spot.place >>= λ _. short_enough spot text kind word >>= λ _. made) new is in
    let second = bind_ok (room_for_one old spot.place) (λ _. short_enough spot text kind word >>= λ _. made) new first.2 in
    let third = bind_ok (short_enough spot text kind word) (λ _. made) new second.2 in
    (first.1, third.1, sym (same_answer _ new third.2))

expanded_is : (spot : Spot) (name : List ℕ) (text : Option (List ℕ)) (old : Reading) (step : Step) → expanded spot.place name text old ≡ Ok step
    → (body : List ℕ) × (step.reading.tokens ≡ old.tokens) × (step.entry ≡ Some (macro_text body)) × (step.reading.room ≡ old.room)
expanded_is spot name None old step is = absurd (no_answer _ step is)
expanded_is spot name (Some body) old step is =
    let same = sym (same_answer (record { reading = old; entry = Some (macro_text body) }) step is) in
    (body, ap (λ s. s.reading.tokens) same, ap (λ s. s.entry) same, ap (λ s. s.reading.room) same)

pub meaning_is : (spot : Spot) (text : List ℕ) (piece : Piece) (old : Reading) (step : Step) → meaning spot text piece old ≡ Ok step → Means spot piece old step
meaning_is spot text (blank n) old step is = goes_on old step is
meaning_is spot text (token kind word) old step is =
    let bound = bind_ok (with_token spot text kind word old.tokens) (λ tokens. goes (record old { tokens = tokens })) step is in
    let goes_ = goes_on (record old { tokens = bound.0 }) step bound.2 in
    (goes_.0 ∙ (with_token_is spot text kind word old.tokens bound.0 bound.1).2, goes_.1, goes_.2)
meaning_is spot text (define name body n) old step is = goes_on (record old { macros = with_macro old.macros name body }) step is
meaning_is spot text (undefine name n) old step is =
    let bound = bind_ok (named spot.place name) (λ _. goes (record old { macros = without_macro old.macros name })) step is in
    goes_on (record old { macros = without_macro old.macros name }) step bound.2
meaning_is spot text (condition test n) old step is =
    let bound = bind_ok (after_test spot.place old.macros test old.conditions) (λ conditions. goes (record old { conditions = conditions })) step is in
    goes_on (record old { conditions = bound.0 }) step bound.2
meaning_is spot text (inclusion name n) old step is =
    let same = sym (same_answer (record { reading = old; entry = Some (file name) }) step is) in
    (ap (λ s. s.reading.tokens) same, ap (λ s. s.entry) same, ap (λ s. s.reading.room) same)
meaning_is spot text (expansion name n) old step is = expanded_is spot name (old.macros name) old step is
meaning_is spot text (fault kind before) old step is = no_answer _ step is

-- a piece takes no room
pub meaning_room : (spot : Spot) (text : List ℕ) (piece : Piece) (old : Reading) (step : Step) → meaning spot text piece old ≡ Ok step → step.reading.room ≡ old.room
meaning_room spot text piece old step is = means_room spot piece old step (meaning_is spot text piece old step is)

pub entered_none : (inner : Inner) (spot : Spot) (entry : Option Entry) (old new : Reading) → entry ≡ None → entered inner spot entry old ≡ Ok new → new.tokens ≡ old.tokens
entered_none inner spot entry old new none is = sym (ap (λ reading. reading.tokens) (same_answer old new (rw none at is)))

pub entered_some : (inner : Inner) (spot : Spot) (entry : Option Entry) (into : Entry) (old new : Reading) → entry ≡ Some into → entered inner spot entry old ≡ Ok new → inner spot into old ≡ Ok new
entered_some inner spot entry into old new some is = rw some at is

-- all tokens are at the place
abbrev pub AreAt : Place → List Lexeme → Type 0
AreAt place tokens = All (λ token. token.place ≡ place) tokens

-- within a macro everything is at the place where the macro is used
module _ (inner : Inner) (stays : (place : Place) (entry : Entry) (old new : Reading) → inner (record { place = place; inside = true }) entry old ≡ Ok new → Adds old new (AreAt place)) where
  inside_step : (place : Place) (piece : Piece) (old between : Reading) (step : Step) → Means (record { place = place; inside = true }) piece old step → entered inner (record { place = place; inside = true }) step.entry step.reading ≡ Ok between → Adds old between (AreAt place)
  inside_step place (blank n) old between step means is = adds_none old between (AreAt place) (entered_none inner _ step.entry step.reading between means.1 is ∙ means.0) (All-nil _)
  inside_step place (token kind word) old between step means is =
      (record { kind = kind; text = word; place = place } ∷ [], entered_none inner _ step.entry step.reading between means.1 is ∙ means.0, All-cons (λ token. token.place ≡ place) _ [] refl (All-nil _))
  inside_step place (define name body n) old between step means is = adds_none old between (AreAt place) (entered_none inner _ step.entry step.reading between means.1 is ∙ means.0) (All-nil _)
  inside_step place (undefine name n) old between step means is = adds_none old between (AreAt place) (entered_none inner _ step.entry step.reading between means.1 is ∙ means.0) (All-nil _)
  inside_step place (condition test n) old between step means is = adds_none old between (AreAt place) (entered_none inner _ step.entry step.reading between means.1 is ∙ means.0) (All-nil _)
  inside_step place (inclusion name n) old between step means is =
      adds_from old step.reading between (AreAt place) means.0 (stays place (file name) step.reading between (entered_some inner _ step.entry (file name) step.reading between means.1 is))
  inside_step place (expansion name n) old between step means is =
      adds_from old step.reading between (AreAt place) means.1 (stays place (macro_text means.0) step.reading between (entered_some inner _ step.entry (macro_text means.0) step.reading between means.2 is))
  inside_step place (fault kind before) old between step means is = absurd means

  pub scan_inside : (text : List ℕ) (place : Place) (ending : Option (List Condition)) (left : ℕ) (old new : Reading) → scan inner ending left (record { place = place; inside = true }) text old ≡ Ok new → Adds old new (AreAt place)
  unfolding scan
  scan_inside [] place ending left old new is = adds_none old new (AreAt place) (ended_same ending _ old new is) (All-nil _)
  scan_inside (byte ∷ others) place ending (suc left) old new is = scan_inside others place ending left old new is
  scan_inside (byte ∷ others) place ending zero old new is =
      let spot : Spot = record { place = place; inside = true } in
      let piece : Piece = front_piece (is_none ending) old.conditions (byte ∷ others) in
      let first = bind_ok (meaning spot (byte ∷ others) piece old) (λ step. entered inner spot step.entry step.reading >>= λ next. scan inner ending (piece_length piece - 1) spot others next) new is in
      let second = bind_ok (entered inner spot first.0.entry first.0.reading) (λ next. scan inner ending (piece_length piece - 1) spot others next) new first.2 in
      let here = inside_step place piece old second.0 first.0 (meaning_is spot (byte ∷ others) piece old first.0 first.1) second.1 in
      let rest = scan_inside others place ending (piece_length piece - 1) second.0 new second.2 in
      (here.0 ++ rest.0, adds_both old second.0 new here.0 rest.0 here.1 rest.1, All-append (λ token. token.place ≡ place) here.0 rest.0 here.2 rest.2)

file_inside : (inner : Inner) (sources : List SourceText) (place : Place) (name : List ℕ) (found : Option ℕ) (old new : Reading)
    → ((text : List ℕ) (ending : Option (List Condition)) (reading : Reading) → scan inner ending 0 (record { place = place; inside = true }) text reading ≡ Ok new → Adds reading new (AreAt place))
    → (included sources (record { place = place; inside = true }) name found old >>= put_in (record { place = place; inside = true }) >>= λ inside. scan_passage inner inside.passage inside.reading) ≡ Ok new → Adds old new (AreAt place)
file_inside inner sources place name None old new scanned is = absurd (no_answer _ new is)
file_inside inner sources place name (Some number) old new scanned is = by_source (slice_get sources number) is where
  by_source : (source : Option SourceText)
      → (opened_file (record { place = place; inside = true }) name number source old >>= put_in (record { place = place; inside = true }) >>= λ inside. scan_passage inner inside.passage inside.reading) ≡ Ok new → Adds old new (AreAt place)
  by_source None is = absurd (no_answer _ new is)
  by_source (Some source) is =
      let put : Opened = file_opened (record { place = place; inside = true }) number source old in
      scanned source.bytes (Some old.conditions) (with_less_room put).reading (room_ok (record { place = place; inside = true }) put (λ inside. scan_passage inner inside.passage inside.reading) new is)

pub inner_stays : (depth : ℕ) (sources : List SourceText) (place : Place) (entry : Entry) (old new : Reading) → inner_at depth sources (record { place = place; inside = true }) entry old ≡ Ok new → Adds old new (AreAt place)
unfolding inner_at
inner_stays zero sources place entry old new is = absurd (no_answer _ new is)
inner_stays (suc depth) sources place (macro_text body) old new is =
    let put : Opened = macro_opened (record { place = place; inside = true }) body old in
    scan_inside (inner_at depth sources) (inner_stays depth sources) body place None 0 (with_less_room put).reading new
    (room_ok (record { place = place; inside = true }) put (λ inside. scan_passage (inner_at depth sources) inside.passage inside.reading) new is)
inner_stays (suc depth) sources place (file name) old new is =
    file_inside (inner_at depth sources) sources place name (include_place sources name) old new (λ text ending reading scanned. scan_inside (inner_at depth sources) (inner_stays depth sources) text place ending 0 reading new scanned) is
