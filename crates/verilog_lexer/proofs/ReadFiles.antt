-- Where the tokens are that the reading of a file gives.
use Rattle.std.proofs.Common.{◌≡◌, ◌+◌, ◌-◌, ℕ, zero, suc, Bool, true, false, List, [], ◌∷◌, ◌++◌, Option, None, Some, Ok, length, take, drop, refl, sym, ap, subst, ◌∙◌, arith}
use Rattle.std.proofs.lemmas.List.{append_assoc, take-append-drop, take_at, length-append}
use Rattle.std.specs.List.{slice_get}
use Rattle.std.specs.Prelude.{is_none}
use Rattle.cov_host.specs.declared.place.Place.{Place}
use Rattle.verilog_lexer.specs.Answer.{◌>>=◌}
use Rattle.verilog_lexer.specs.Defines.{DefineText}
use Rattle.verilog_lexer.specs.Piece.{Piece, blank, token, define, undefine, condition, inclusion, expansion, fault, piece_length}
use Rattle.verilog_lexer.specs.Reading.{Reading, Step, Entry, macro_text, file, Inner, meaning, front_piece, entered, scan, scan_passage, Opened, macro_opened, file_opened, opened_file, included, with_less_room, put_in, inner_at, read_passage, root_passage, read_source, read_roots, beginning, tokens_of}
use Rattle.verilog_lexer.specs.Sources.{SourceText, include_place}
use Rattle.verilog_lexer.specs.Spot.{next_place}
use Rattle.verilog_lexer.specs.TokenPlaces.{file_start, place_behind, StandsAt, IsMacroName, AreRead, AreReadInTurn}
use Rattle.verilog_lexer.specs.TokenPlaces as read
use Rattle.verilog_lexer.specs.Tokens.{Lexeme}
use Rattle.verilog_lexer.specs.declared.condition.Condition.{Condition}
use Rattle.verilog_lexer.specs.declared.spot.Spot.{Spot}
use Rattle.verilog_lexer.specs.declared.token.TokenKind.{TokenKind}
use Rattle.verilog_lexer.proofs.Fronts.{Begins, IsFrontOf, piece_front}
use Rattle.verilog_lexer.proofs.ReadTokens.{no_answer, same_answer, bind_ok, room_ok, Adds, adds_none, adds_both, adds_from, ended_same, Means, meaning_is, entered_none, entered_some, AreAt, scan_inside, inner_stays}

-- the text is what is left of a source from the place on
record IsAt (sources : List SourceText) (place : Place) (text : List ℕ) : Type 0 where
  number : ℕ
  source : SourceText
  before : List ℕ
  numbered : slice_get sources number ≡ Some source
  is : source.bytes ≡ before ++ text
  counted : place ≡ place_behind (file_start (number + 1)) before

place_behind-append : (place : Place) (first second : List ℕ) → place_behind place (first ++ second) ≡ place_behind (place_behind place first) second
place_behind-append place [] second = refl
place_behind-append place (byte ∷ first) second = place_behind-append (next_place place byte) first second

is_at_next : (sources : List SourceText) (place : Place) (byte : ℕ) (others : List ℕ) → IsAt sources place (byte ∷ others) → IsAt sources (next_place place byte) others
is_at_next sources place byte others at_ = record {
  number = at_.number;
  source = at_.source;
  before = at_.before ++ byte ∷ [];
  numbered = at_.numbered;
  is = at_.is ∙ sym (append_assoc at_.before (byte ∷ []) others);
  counted = ap (λ place. next_place place byte) at_.counted ∙ sym (place_behind-append (file_start (at_.number + 1)) at_.before (byte ∷ []));
}

stands : (sources : List SourceText) (place : Place) (text bytes behind : List ℕ) → IsAt sources place text → text ≡ bytes ++ behind → StandsAt sources bytes place
stands sources place text bytes behind at_ is = record {
  number = at_.number;
  source = at_.source;
  before = at_.before;
  behind = behind;
  numbered = at_.numbered;
  text = at_.is ∙ ap (λ rest. at_.before ++ rest) is ∙ sym (append_assoc at_.before bytes behind);
  counted = at_.counted;
}

-- the first bytes are those with which the text begins
begins_take : (text front : List ℕ) (n : ℕ) → Begins text front → n ≡ length front → take (suc (n - 1)) text ≡ front
begins_take text front n begins is = ap (take (suc (n - 1))) begins.is ∙ take_at front begins.behind (suc (n - 1)) (omega (arith, is, begins.some))

-- what is entered outside of macros: the text of a macro, or a file, which is a reading of its own
abbrev EnteredAs : List SourceText → Place → Entry → List Lexeme → Type 0
EnteredAs sources place (macro_text body) tokens = AreAt place tokens
EnteredAs sources place (file name) tokens = (number : ℕ) × AreRead sources (file_start number) tokens

module _ (sources : List SourceText) (inner : Inner) (reads : (place : Place) (entry : Entry) (old new : Reading) → inner (record { place = place; inside = false }) entry old ≡ Ok new → Adds old new (EnteredAs sources place entry)) where
  module _ (place : Place) (text : List ℕ) (at_ : IsAt sources place text) (old between new : Reading) (step : Step) where
    spot : Spot
    spot = record { place = place; inside = false }

    -- bytes that give no token
    passed : (n : ℕ) → between.tokens ≡ old.tokens → Adds between new (AreRead sources (place_behind place (take n text))) → Adds old new (AreRead sources place)
    passed n same rest = (rest.0, rest.1 ∙ ap (λ tokens. tokens ++ rest.0) same, read.blank_bytes (stands sources place text (take n text) (drop n text) at_ (sym (take-append-drop n text))) rest.2)

    -- a directive that includes a file
    file_step : (n : ℕ) → Adds old between (λ tokens. (number : ℕ) × AreRead sources (file_start number) tokens) → Adds between new (AreRead sources (place_behind place (take n text))) → Adds old new (AreRead sources place)
    file_step n inside rest =
        (inside.0 ++ rest.0, adds_both old between new inside.0 rest.0 inside.1 rest.1, read.inclusion (stands sources place text (take n text) (drop n text) at_ (sym (take-append-drop n text))) inside.2.1 rest.2)

    token_step : (kind : TokenKind) (word : List ℕ) → Begins text word → between.tokens ≡ old.tokens ++ record { kind = kind; text = word; place = place } ∷ []
        → Adds between new (AreRead sources (place_behind place (take (suc (length word - 1)) text))) → Adds old new (AreRead sources place)
    token_step kind word begins is rest =
        let lexeme : Lexeme = record { kind = kind; text = word; place = place } in
        let behind : AreRead sources (place_behind place word) rest.0 = subst (λ bytes. AreRead sources (place_behind place bytes) rest.0) (begins_take text word (length word) begins refl) rest.2 in
        (lexeme ∷ rest.0, adds_both old between new (lexeme ∷ []) rest.0 is rest.1, read.one_token {token = lexeme} (stands sources place text word begins.behind at_ begins.is) begins.some behind)

    macro_step : (name : List ℕ) (n : ℕ) → IsMacroName name → Begins text (96 ∷ name) → n ≡ length name + 1 → Adds old between (AreAt place) → Adds between new (AreRead sources (place_behind place (take (suc (n - 1)) text))) → Adds old new (AreRead sources place)
    macro_step name n named begins is inside rest =
        let behind : AreRead sources (place_behind place (96 ∷ name)) rest.0 = subst (λ bytes. AreRead sources (place_behind place bytes) rest.0) (begins_take text (96 ∷ name) n begins (omega (arith, is))) rest.2 in
        (inside.0 ++ rest.0, adds_both old between new inside.0 rest.0 inside.1 rest.1, read.macro_use inside.0 named (stands sources place text (96 ∷ name) begins.behind at_ begins.is) inside.2 behind)

    file_step_at : (piece : Piece) → IsFrontOf text piece → Means (record { place = place; inside = false }) piece old step → entered inner (record { place = place; inside = false }) step.entry step.reading ≡ Ok between
        → Adds between new (AreRead sources (place_behind place (take (suc (piece_length piece - 1)) text))) → Adds old new (AreRead sources place)
    unfolding IsFrontOf
    file_step_at (blank n) front means is rest = passed (suc (n - 1)) (entered_none inner _ step.entry step.reading between means.1 is ∙ means.0) rest
    file_step_at (token kind word) front means is rest =
        token_step kind word front.0 (entered_none inner _ step.entry step.reading between means.1 is ∙ means.0) rest
    file_step_at (define name body n) front means is rest = passed (suc (n - 1)) (entered_none inner _ step.entry step.reading between means.1 is ∙ means.0) rest
    file_step_at (undefine name n) front means is rest = passed (suc (n - 1)) (entered_none inner _ step.entry step.reading between means.1 is ∙ means.0) rest
    file_step_at (condition test n) front means is rest = passed (suc (n - 1)) (entered_none inner _ step.entry step.reading between means.1 is ∙ means.0) rest
    file_step_at (inclusion name n) front means is rest =
        file_step (suc (n - 1)) (adds_from old step.reading between _ means.0 (reads place (file name) step.reading between (entered_some inner _ step.entry (file name) step.reading between means.1 is))) rest
    file_step_at (expansion name n) front means is rest =
        macro_step name n front.2 front.0 front.1 (adds_from old step.reading between _ means.1 (reads place (macro_text means.0) step.reading between (entered_some inner _ step.entry (macro_text means.0) step.reading between means.2 is))) rest
    file_step_at (fault kind before) front means is rest = absurd means

  scan_file : (text : List ℕ) (place : Place) (ending : Option (List Condition)) (left : ℕ) (old new : Reading) → IsAt sources place text → scan inner ending left (record { place = place; inside = false }) text old ≡ Ok new → Adds old new (AreRead sources (place_behind place (take left text)))
  unfolding scan
  scan_file [] place ending left old new at_ is = adds_none old new _ (ended_same ending _ old new is) read.nothing
  scan_file (byte ∷ others) place ending (suc left) old new at_ is = scan_file others (next_place place byte) ending left old new (is_at_next sources place byte others at_) is
  scan_file (byte ∷ others) place ending zero old new at_ is =
      let spot : Spot = record { place = place; inside = false } in
      let later : Spot = record { place = next_place place byte; inside = false } in
      let piece : Piece = front_piece (is_none ending) old.conditions (byte ∷ others) in
      let first = bind_ok (meaning spot (byte ∷ others) piece old) (λ step. entered inner spot step.entry step.reading >>= λ next. scan inner ending (piece_length piece - 1) later others next) new is in
      let second = bind_ok (entered inner spot first.0.entry first.0.reading) (λ next. scan inner ending (piece_length piece - 1) later others next) new first.2 in
      let rest = scan_file others (next_place place byte) ending (piece_length piece - 1) second.0 new (is_at_next sources place byte others at_) second.2 in
      file_step_at place (byte ∷ others) at_ old second.0 new first.0 piece (piece_front byte others (is_none ending) old.conditions) (meaning_is spot (byte ∷ others) piece old first.0 first.1) second.1 rest

-- a file from its start on
at_start : (sources : List SourceText) (number : ℕ) (source : SourceText) → slice_get sources number ≡ Some source → IsAt sources (file_start (number + 1)) source.bytes
at_start sources number source numbered = record { number = number; source = source; before = []; numbered = numbered; is = refl; counted = refl }

file_included : (inner : Inner) (sources : List SourceText) (place : Place) (name : List ℕ) (found : Option ℕ) (old new : Reading)
    → ((number : ℕ) (source : SourceText) (ending : Option (List Condition)) (reading : Reading) → slice_get sources number ≡ Some source → scan inner ending 0 (record { place = file_start (number + 1); inside = false }) source.bytes reading ≡ Ok new → Adds reading new (AreRead sources (file_start (number + 1))))
    → (included sources (record { place = place; inside = false }) name found old >>= put_in (record { place = place; inside = false }) >>= λ inside. scan_passage inner inside.passage inside.reading) ≡ Ok new
    → Adds old new (λ tokens. (number : ℕ) × AreRead sources (file_start number) tokens)
file_included inner sources place name None old new scanned is = absurd (no_answer _ new is)
file_included inner sources place name (Some number) old new scanned is = by_source (slice_get sources number) refl is where
  by_source : (source : Option SourceText) → slice_get sources number ≡ source
      → (opened_file (record { place = place; inside = false }) name number source old >>= put_in (record { place = place; inside = false }) >>= λ inside. scan_passage inner inside.passage inside.reading) ≡ Ok new
      → Adds old new (λ tokens. (number : ℕ) × AreRead sources (file_start number) tokens)
  by_source None found is = absurd (no_answer _ new is)
  by_source (Some source) found is =
      let put : Opened = file_opened (record { place = place; inside = false }) number source old in
      let adds = scanned number source (Some old.conditions) (with_less_room put).reading found (room_ok (record { place = place; inside = false }) put (λ inside. scan_passage inner inside.passage inside.reading) new is) in
      (adds.0, adds.1, (number + 1, adds.2))

inner_reads : (depth : ℕ) (sources : List SourceText) (place : Place) (entry : Entry) (old new : Reading) → inner_at depth sources (record { place = place; inside = false }) entry old ≡ Ok new → Adds old new (EnteredAs sources place entry)
unfolding inner_at
inner_reads zero sources place entry old new is = absurd (no_answer _ new is)
inner_reads (suc depth) sources place (macro_text body) old new is =
    let put : Opened = macro_opened (record { place = place; inside = false }) body old in
    scan_inside (inner_at depth sources) (inner_stays depth sources) body place None 0 (with_less_room put).reading new
    (room_ok (record { place = place; inside = false }) put (λ inside. scan_passage (inner_at depth sources) inside.passage inside.reading) new is)
inner_reads (suc depth) sources place (file name) old new is =
    file_included (inner_at depth sources) sources place name (include_place sources name) old new
    (λ number source ending reading numbered scanned. scan_file sources (inner_at depth sources) (inner_reads depth sources) source.bytes (file_start (number + 1)) ending 0 reading new (at_start sources number source numbered) scanned)
    is

-- what comes after those before it
pub slice_get-behind : {A : Type 0} (before others : List A) (source : A) → slice_get (before ++ source ∷ others) (length before) ≡ Some source
slice_get-behind [] others source = refl
slice_get-behind (first ∷ before) others source = slice_get-behind before others source

-- one source more, where those after it are read
root_step : (all others : List SourceText) (number : ℕ) (source : SourceText) (old between new : Reading) → slice_get all number ≡ Some source → read_source all (number + 1) source old ≡ Ok between
    → Adds between new (AreReadInTurn all (number + 1 + 1)) → Adds old new (AreReadInTurn all (number + 1))
root_step all others number source old between new numbered reads rest = by_root source.root refl where
  by_root : (root : Bool) → source.root ≡ root → Adds old new (AreReadInTurn all (number + 1))
  by_root true root =
      let reads_source : read_passage all (root_passage (number + 1) source.bytes) old ≡ Ok between = rw root at reads in
      let here = scan_file all (inner_at 64 all) (inner_reads 64 all) source.bytes (file_start (number + 1)) (Some []) 0 old between (at_start all number source numbered) reads_source in
      (here.0 ++ rest.0, adds_both old between new here.0 rest.0 here.1 rest.1, read.root_read here.2 rest.2)
  by_root false root =
      let same : Ok old ≡ Ok between = rw root at reads in
      adds_from old between new _ (sym (ap (λ reading. reading.tokens) (same_answer old between same))) (rest.0, rest.1, read.include_passed rest.2)

roots_read : (all : List SourceText) (left before : List SourceText) (number : ℕ) (old new : Reading) → all ≡ before ++ left → number ≡ length before → read_roots all (number + 1) left old ≡ Ok new → Adds old new (AreReadInTurn all (number + 1))
unfolding read_roots
roots_read all [] before number old new is counted reads = adds_none old new _ (sym (ap (λ reading. reading.tokens) (same_answer old new reads))) read.no_source
roots_read all (source ∷ others) before number old new is counted reads =
    let bound = bind_ok (read_source all (number + 1) source old) (λ next. read_roots all (number + 1 + 1) others next) new reads in
    let rest = roots_read all others (before ++ source ∷ []) (number + 1) bound.0 new (is ∙ sym (append_assoc before (source ∷ []) others)) (omega (arith, counted, length-append before (source ∷ []))) bound.2 in
    root_step all others number source old bound.0 new (rw (is, counted) (slice_get-behind before others source)) bound.1 rest

-- the tokens of sources are where the definitions say
pub tokens_stand : (sources : List SourceText) (defines : List DefineText) (tokens : List Lexeme) → tokens_of sources defines ≡ Ok tokens → AreReadInTurn sources 1 tokens
unfolding tokens_of
tokens_stand sources defines tokens is =
    let bound = bind_ok (read_roots sources 1 sources (beginning defines)) (λ reading. Ok reading.tokens) tokens is in
    let adds = roots_read sources sources [] 0 (beginning defines) bound.0 refl refl bound.1 in
    rw (← same_answer bound.0.tokens tokens bound.2, adds.1) adds.2
