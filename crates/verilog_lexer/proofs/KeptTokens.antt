-- What a reading keeps: where its texts come from, and that each token is sound after those before it.
use Rattle.std.proofs.Common.{◌≡◌, ◌+◌, ◌-◌, ℕ, zero, suc, Bool, true, false, cond, ◌==◌, List, [], ◌∷◌, ◌++◌, Option, None, Some, Ok, length, refl, sym, ap, subst, ◌∙◌, ⊎_elim}
use Rattle.std.proofs.lemmas.List.{append-nil, append_assoc}
use Rattle.std.proofs.lemmas.List.Elements.{All-nil, All-cons, All-append}
use Rattle.std.proofs.lemmas.Bool.{cases_lt, false≢true, le-leb, lt-ltb}
use Rattle.std.proofs.lemmas.Option.{none-some, same_Some}
use Rattle.std.specs.List.{All, slice_get}
use Rattle.std.specs.Prelude.{is_none, nat_le, nat_lt}
use Rattle.std.specs.Str.{bytes_eq}
use Rattle.cov_host.specs.Identifier.{is_identifier, is_reserved}
use Rattle.cov_host.specs.declared.place.Place.{Place}
use Rattle.verilog_lexer.specs.Answer.{◌>>=◌, fault_at}
use Rattle.verilog_lexer.specs.Conditions.{named, after_test}
use Rattle.verilog_lexer.specs.Defines.{Macros, DefineText, no_macros, with_macro, without_macro, with_macros}
use Rattle.verilog_lexer.specs.Piece.{Piece, blank, token, define, undefine, condition, inclusion, expansion, fault, piece_length}
use Rattle.verilog_lexer.specs.Reading.{Reading, Step, Entry, macro_text, file, Inner, goes, expanded, meaning, front_piece, entered, ended, scan, scan_passage, Opened, macro_opened, file_opened, opened_file, included, with_less_room, put_in, inner_at, read_passage, root_passage, read_source, read_roots, beginning, tokens_of}
use Rattle.verilog_lexer.specs.Sources.{SourceText, include_place}
use Rattle.verilog_lexer.specs.Spot.{after, within_macro, file_spot}
use Rattle.verilog_lexer.specs.TokenTexts.{IsPartOf, IsTextOf, of_source, of_define, IsSound, AreSound}
use Rattle.verilog_lexer.specs.Tokens.{Lexeme, bad_number, sound_number, is_too_long, is_identifier_kind, with_token}
use Rattle.verilog_lexer.specs.declared.condition.Condition.{Condition}
use Rattle.verilog_lexer.specs.declared.fault.LexKind.TheVariants.{BadByte, OpenCondition}
use Rattle.verilog_lexer.specs.declared.spot.Spot.{Spot}
use Rattle.verilog_lexer.specs.declared.token.TokenKind.{TokenKind}
use Rattle.verilog_lexer.specs.declared.token.TokenKind.TheVariants.{Identifier, Keyword, System, Decimal, Based, Quoted, Operator}
use Rattle.verilog_lexer.proofs.Fronts.{IsFrontOf, HasForm, piece_front}
use Rattle.verilog_lexer.proofs.Parts.{IsPartOf-whole, IsPartOf-trans}
use Rattle.verilog_lexer.proofs.ReadTokens.{no_answer, same_answer, bind_ok, room_ok, with_token_is}
use Rattle.verilog_lexer.proofs.ReadFiles.{slice_get-behind}

-- a part of a text is one of what the text is of
part_text : (sources : List SourceText) (defines : List DefineText) (text part : List ℕ) → IsTextOf sources defines text → IsPartOf text part → IsTextOf sources defines part
part_text sources defines text part (of_source number source found is) within = of_source number source found (IsPartOf-trans source.bytes text part is within)
part_text sources defines text part (of_define number made found is) within = of_define number made found (IsPartOf-trans made.text text part is within)

AreSound-snoc : (before old : List Lexeme) (last : Lexeme) → AreSound before old → IsSound (before ++ old) last → AreSound before (old ++ last ∷ [])
AreSound-snoc before [] last are is = (subst (λ tokens. IsSound tokens last) (append-nil before) is, tt)
AreSound-snoc before (first ∷ old) last are is = (are.0, AreSound-snoc (before ++ first ∷ []) old last are.1 (subst (λ tokens. IsSound tokens last) (sym (append_assoc before (first ∷ []) old)) is))

short_from : (n : ℕ) → nat_lt 255 n ≡ false → nat_le n 255 ≡ true
short_from n is = ⊎_elim (λ above. absurd (false≢true (sym is ∙ lt-ltb 255 n above))) (λ below. le-leb n 255 below) (cases_lt 255 n)

-- a name of the right form that is short enough and no keyword is an identifier
identifier_from : (kind : TokenKind) (word : List ℕ) → HasForm kind word → is_too_long kind word ≡ false → kind ≡ Identifier → is_identifier word ≡ true
identifier_from Identifier word form short is = rw (form.0, form.1, short_from (length word) short) refl
identifier_from Keyword word form short is = absurd (let apart : false ≡ true = ap is_identifier_kind is in cc)
identifier_from System word form short is = absurd (let apart : false ≡ true = ap is_identifier_kind is in cc)
identifier_from Decimal word form short is = absurd (let apart : false ≡ true = ap is_identifier_kind is in cc)
identifier_from Based word form short is = absurd (let apart : false ≡ true = ap is_identifier_kind is in cc)
identifier_from Quoted word form short is = absurd (let apart : false ≡ true = ap is_identifier_kind is in cc)
identifier_from Operator word form short is = absurd (let apart : false ≡ true = ap is_identifier_kind is in cc)

abbrev is_keyword_kind : TokenKind → Bool
is_keyword_kind Keyword = true
is_keyword_kind Identifier = false
is_keyword_kind System = false
is_keyword_kind Decimal = false
is_keyword_kind Based = false
is_keyword_kind Quoted = false
is_keyword_kind Operator = false

keyword_from : (kind : TokenKind) (word : List ℕ) → HasForm kind word → kind ≡ Keyword → is_reserved word ≡ true
keyword_from Keyword word form is = form
keyword_from Identifier word form is = absurd (let apart : false ≡ true = ap is_keyword_kind is in cc)
keyword_from System word form is = absurd (let apart : false ≡ true = ap is_keyword_kind is in cc)
keyword_from Decimal word form is = absurd (let apart : false ≡ true = ap is_keyword_kind is in cc)
keyword_from Based word form is = absurd (let apart : false ≡ true = ap is_keyword_kind is in cc)
keyword_from Quoted word form is = absurd (let apart : false ≡ true = ap is_keyword_kind is in cc)
keyword_from Operator word form is = absurd (let apart : false ≡ true = ap is_keyword_kind is in cc)

sound_from : (bad : Option Place) (nothing : Unit {0}) → sound_number bad ≡ Ok nothing → bad ≡ None
sound_from None nothing is = refl
sound_from (Some place) nothing is = absurd (no_answer _ nothing is)

short_enough_from : (long : Bool) (place : Place) (nothing : Unit {0}) → cond long (fault_at BadByte place) (Ok tt) ≡ Ok nothing → long ≡ false
short_enough_from true place nothing is = absurd (no_answer _ nothing is)
short_enough_from false place nothing is = refl

-- a token that is added is sound after those before it
sound_token : (spot : Spot) (text : List ℕ) (kind : TokenKind) (word : List ℕ) (old new : List Lexeme) → HasForm kind word → with_token spot text kind word old ≡ Ok new
    → IsSound old (record { kind = kind; text = word; place = spot.place }) × (new ≡ old ++ record { kind = kind; text = word; place = spot.place } ∷ [])
sound_token spot text kind word old new form is =
    let parts = with_token_is spot text kind word old new is in
    let short : is_too_long kind word ≡ false = short_enough_from (is_too_long kind word) _ tt parts.1 in (
      record {
        name = λ is_name. identifier_from kind word form short is_name;
        keyword = λ is_keyword. keyword_from kind word form is_keyword;
        number = sound_from (bad_number old kind word spot.place) tt parts.0;
      },
      parts.2,
    )

module _ (sources : List SourceText) (defines : List DefineText) where
  others_text : (byte : ℕ) (others : List ℕ) → IsTextOf sources defines (byte ∷ others) → IsTextOf sources defines others
  others_text byte others from = part_text sources defines (byte ∷ others) others from (record { before = byte ∷ []; behind = []; is = sym (append-nil (byte ∷ others)) })

  -- what has been read is kept in order
  record IsKept (reading : Reading) : Type 0 where
    texts : All (λ lexeme. IsTextOf sources defines lexeme.text) reading.tokens
    macros : (name body : List ℕ) → reading.macros name ≡ Some body → IsTextOf sources defines body
    sound : AreSound [] reading.tokens

  -- the text of a macro that is to be read next comes from the sources too
  abbrev EntryIsKept : Option Entry → Type 0
  EntryIsKept None = Unit {0}
  EntryIsKept (Some (macro_text body)) = IsTextOf sources defines body
  EntryIsKept (Some (file name)) = Unit {0}

  abbrev StepIsKept : Step → Type 0
  StepIsKept step = IsKept step.reading × EntryIsKept step.entry

  goes_kept : (reading : Reading) (step : Step) → IsKept reading → goes reading ≡ Ok step → StepIsKept step
  goes_kept reading step kept is = subst StepIsKept (same_answer (record { reading = reading; entry = None }) step is) (kept, tt)

  token_kept : (old : Reading) (new : List Lexeme) (last : Lexeme) → IsKept old → IsTextOf sources defines last.text → IsSound old.tokens last → new ≡ old.tokens ++ last ∷ [] → IsKept (record old { tokens = new })
  token_kept old new last kept text sound is = record {
    texts = subst (All (λ lexeme. IsTextOf sources defines lexeme.text)) (sym is) (All-append (λ lexeme. IsTextOf sources defines lexeme.text) old.tokens (last ∷ []) kept.texts (All-cons (λ lexeme. IsTextOf sources defines lexeme.text) last [] text (All-nil _)));
    macros = kept.macros;
    sound = subst (AreSound []) (sym is) (AreSound-snoc [] old.tokens last kept.sound sound);
  }

  define_kept : (macros : Macros) (name body asked found : List ℕ) → ((asked found : List ℕ) → macros asked ≡ Some found → IsTextOf sources defines found) → IsTextOf sources defines body
      → with_macro macros name body asked ≡ Some found → IsTextOf sources defines found
  define_kept macros name body asked found kept text is = by_name (bytes_eq name asked) is where
    by_name : (same : Bool) → cond same (Some body) (macros asked) ≡ Some found → IsTextOf sources defines found
    by_name true is = subst (IsTextOf sources defines) (same_Some body found is) text
    by_name false is = kept asked found is

  undefine_kept : (macros : Macros) (name asked found : List ℕ) → ((asked found : List ℕ) → macros asked ≡ Some found → IsTextOf sources defines found) → without_macro macros name asked ≡ Some found → IsTextOf sources defines found
  undefine_kept macros name asked found kept is = by_name (bytes_eq name asked) is where
    by_name : (same : Bool) → cond same None (macros asked) ≡ Some found → IsTextOf sources defines found
    by_name true is = absurd (none-some found is)
    by_name false is = kept asked found is

  expanded_kept : (place : Place) (name : List ℕ) (text : Option (List ℕ)) (old : Reading) (step : Step) → old.macros name ≡ text → IsKept old → expanded place name text old ≡ Ok step → StepIsKept step
  expanded_kept place name None old step found kept is = absurd (no_answer _ step is)
  expanded_kept place name (Some body) old step found kept is =
      subst StepIsKept (same_answer (record { reading = old; entry = Some (macro_text body) }) step is) (kept, kept.macros name body found)

  meaning_kept : (spot : Spot) (text : List ℕ) (piece : Piece) (old : Reading) (step : Step) → IsTextOf sources defines text → IsFrontOf text piece → IsKept old → meaning spot text piece old ≡ Ok step → StepIsKept step
  unfolding IsFrontOf
  meaning_kept spot text (blank n) old step from front kept is = goes_kept old step kept is
  meaning_kept spot text (token kind word) old step from front kept is =
      let bound = bind_ok (with_token spot text kind word old.tokens) (λ tokens. goes (record old { tokens = tokens })) step is in
      let added = sound_token spot text kind word old.tokens bound.0 front.1 bound.1 in
      let part : IsPartOf text word = record { before = []; behind = front.0.behind; is = front.0.is } in
      goes_kept (record old { tokens = bound.0 }) step (token_kept old bound.0 (record { kind = kind; text = word; place = spot.place }) kept (part_text sources defines text word from part) added.0 added.1) bound.2
  meaning_kept spot text (define name body n) old step from front kept is =
      goes_kept (record old { macros = with_macro old.macros name body }) step
      (record { texts = kept.texts; macros = λ asked found found_is. define_kept old.macros name body asked found kept.macros (part_text sources defines text body from front) found_is; sound = kept.sound }) is
  meaning_kept spot text (undefine name n) old step from front kept is =
      let bound = bind_ok (named spot.place name) (λ _. goes (record old { macros = without_macro old.macros name })) step is in
      goes_kept (record old { macros = without_macro old.macros name }) step
      (record { texts = kept.texts; macros = λ asked found found_is. undefine_kept old.macros name asked found kept.macros found_is; sound = kept.sound }) bound.2
  meaning_kept spot text (condition test n) old step from front kept is =
      let bound = bind_ok (after_test spot.place old.macros test old.conditions) (λ conditions. goes (record old { conditions = conditions })) step is in
      goes_kept (record old { conditions = bound.0 }) step (record { texts = kept.texts; macros = kept.macros; sound = kept.sound }) bound.2
  meaning_kept spot text (inclusion name n) old step from front kept is = subst StepIsKept (same_answer (record { reading = old; entry = Some (file name) }) step is) (kept, tt)
  meaning_kept spot text (expansion name n) old step from front kept is = expanded_kept spot.place name (old.macros name) old step refl kept is
  meaning_kept spot text (fault why before) old step from front kept is = absurd (no_answer _ step is)

  ended_kept : (ending : Option (List Condition)) (spot : Spot) (old new : Reading) → IsKept old → ended ending spot old ≡ Ok new → IsKept new
  ended_kept None spot old new kept is = subst IsKept (same_answer old new is) kept
  ended_kept (Some outer) spot old new kept is = by_closed (length old.conditions == 0) is where
    by_closed : (closed : Bool) → cond closed (Ok (record old { conditions = outer })) (fault_at OpenCondition spot.place) ≡ Ok new → IsKept new
    by_closed true is = subst IsKept (same_answer (record old { conditions = outer }) new is) (record { texts = kept.texts; macros = kept.macros; sound = kept.sound })
    by_closed false is = absurd (no_answer _ new is)

  module _ (inner : Inner) (keeps : (spot : Spot) (entry : Entry) (old new : Reading) → EntryIsKept (Some entry) → IsKept old → inner spot entry old ≡ Ok new → IsKept new) where
    entered_kept : (spot : Spot) (entry : Option Entry) (old new : Reading) → EntryIsKept entry → IsKept old → entered inner spot entry old ≡ Ok new → IsKept new
    entered_kept spot None old new from kept is = subst IsKept (same_answer old new is) kept
    entered_kept spot (Some entry) old new from kept is = keeps spot entry old new from kept is

    scan_kept : (text : List ℕ) (spot : Spot) (ending : Option (List Condition)) (left : ℕ) (old new : Reading) → IsTextOf sources defines text → IsKept old → scan inner ending left spot text old ≡ Ok new → IsKept new
    unfolding scan
    scan_kept [] spot ending left old new from kept is = ended_kept ending spot old new kept is
    scan_kept (byte ∷ others) spot ending (suc left) old new from kept is = scan_kept others (after spot byte) ending left old new (others_text byte others from) kept is
    scan_kept (byte ∷ others) spot ending zero old new from kept is =
        let piece : Piece = front_piece (is_none ending) old.conditions (byte ∷ others) in
        let first = bind_ok (meaning spot (byte ∷ others) piece old) (λ step. entered inner spot step.entry step.reading >>= λ next. scan inner ending (piece_length piece - 1) (after spot byte) others next) new is in
        let second = bind_ok (entered inner spot first.0.entry first.0.reading) (λ next. scan inner ending (piece_length piece - 1) (after spot byte) others next) new first.2 in
        let step = meaning_kept spot (byte ∷ others) piece old first.0 from (piece_front byte others (is_none ending) old.conditions) kept first.1 in
        scan_kept others (after spot byte) ending (piece_length piece - 1) second.0 new (others_text byte others from) (entered_kept spot first.0.entry first.0.reading second.0 step.1 step.0 second.1) second.2

  file_kept : (inner : Inner) (spot : Spot) (name : List ℕ) (found : Option ℕ) (old new : Reading) → IsKept old
      → ((text : List ℕ) (spot : Spot) (ending : Option (List Condition)) (reading : Reading) → IsTextOf sources defines text → IsKept reading → scan inner ending 0 spot text reading ≡ Ok new → IsKept new)
      → (included sources spot name found old >>= put_in spot >>= λ inside. scan_passage inner inside.passage inside.reading) ≡ Ok new → IsKept new
  file_kept inner spot name None old new kept scanned is = absurd (no_answer _ new is)
  file_kept inner spot name (Some number) old new kept scanned is = by_source (slice_get sources number) refl is where
    by_source : (source : Option SourceText) → slice_get sources number ≡ source → (opened_file spot name number source old >>= put_in spot >>= λ inside. scan_passage inner inside.passage inside.reading) ≡ Ok new → IsKept new
    by_source None found is = absurd (no_answer _ new is)
    by_source (Some source) found is =
        let put : Opened = file_opened spot number source old in
        scanned source.bytes (file_spot spot (number + 1)) (Some old.conditions) (with_less_room put).reading (of_source number source found (IsPartOf-whole source.bytes)) (record { texts = kept.texts; macros = kept.macros; sound = kept.sound })
        (room_ok spot put (λ inside. scan_passage inner inside.passage inside.reading) new is)

  inner_kept : (depth : ℕ) (spot : Spot) (entry : Entry) (old new : Reading) → EntryIsKept (Some entry) → IsKept old → inner_at depth sources spot entry old ≡ Ok new → IsKept new
  unfolding inner_at
  inner_kept zero spot entry old new from kept is = absurd (no_answer _ new is)
  inner_kept (suc depth) spot (macro_text body) old new from kept is =
      let put : Opened = macro_opened spot body old in
      scan_kept (inner_at depth sources) (inner_kept depth) body (within_macro spot) None 0 (with_less_room put).reading new from (record { texts = kept.texts; macros = kept.macros; sound = kept.sound })
      (room_ok spot put (λ inside. scan_passage (inner_at depth sources) inside.passage inside.reading) new is)
  inner_kept (suc depth) spot (file name) old new from kept is =
      file_kept (inner_at depth sources) spot name (include_place sources name) old new kept (λ text spot ending reading from kept scanned. scan_kept (inner_at depth sources) (inner_kept depth) text spot ending 0 reading new from kept scanned) is

  root_kept : (number : ℕ) (source : SourceText) (root : Bool) (old new : Reading) → IsTextOf sources defines source.bytes → IsKept old → cond root (read_passage sources (root_passage number source.bytes) old) (Ok old) ≡ Ok new → IsKept new
  root_kept number source true old new from kept is = scan_kept (inner_at 64 sources) (inner_kept 64) source.bytes (root_passage number source.bytes).spot (Some []) 0 old new from kept is
  root_kept number source false old new from kept is = subst IsKept (same_answer old new is) kept

  roots_kept : (left before : List SourceText) (number : ℕ) (old new : Reading) → sources ≡ before ++ left → IsKept old → read_roots sources number left old ≡ Ok new → IsKept new
  unfolding read_roots
  roots_kept [] before number old new is kept reads = subst IsKept (same_answer old new reads) kept
  roots_kept (source ∷ others) before number old new is kept reads =
      let bound = bind_ok (read_source sources number source old) (λ next. read_roots sources (number + 1) others next) new reads in
      let from : IsTextOf sources defines source.bytes = of_source (length before) source (rw is (slice_get-behind before others source)) (IsPartOf-whole source.bytes) in
      roots_kept others (before ++ source ∷ []) (number + 1) bound.0 new (is ∙ sym (append_assoc before (source ∷ []) others)) (root_kept number source source.root old bound.0 from kept bound.1) bound.2

  macros_kept : (left before : List DefineText) (macros : Macros) → defines ≡ before ++ left → ((name body : List ℕ) → macros name ≡ Some body → IsTextOf sources defines body)
      → (name body : List ℕ) → with_macros macros left name ≡ Some body → IsTextOf sources defines body
  macros_kept [] before macros is kept name body found = kept name body found
  macros_kept (first ∷ others) before macros is kept name body found =
      let from : IsTextOf sources defines first.text = of_define (length before) first (rw is (slice_get-behind before others first)) (IsPartOf-whole first.text) in
      macros_kept others (before ++ first ∷ []) (with_macro macros first.name first.text) (is ∙ sym (append_assoc before (first ∷ []) others)) (λ asked found found_is. define_kept macros first.name first.text asked found kept from found_is) name body found

  tokens_kept : (tokens : List Lexeme) → tokens_of sources defines ≡ Ok tokens → (reading : Reading) × IsKept reading × (reading.tokens ≡ tokens)
  unfolding tokens_of
  tokens_kept tokens is =
      let bound = bind_ok (read_roots sources 1 sources (beginning defines)) (λ reading. Ok reading.tokens) tokens is in
      let start : IsKept (beginning defines) = record { texts = All-nil _; macros = λ name body found. macros_kept defines [] no_macros refl (λ name body none. absurd (none-some body none)) name body found; sound = tt } in
      (bound.0, roots_kept sources [] 1 (beginning defines) bound.0 refl start bound.1, same_answer bound.0.tokens tokens bound.2)

  -- the text of each token is in a source, or in the text of a macro that was defined before
  pub texts_are_parts : (tokens : List Lexeme) → tokens_of sources defines ≡ Ok tokens → All (λ lexeme. IsTextOf sources defines lexeme.text) tokens
  texts_are_parts tokens is = let kept = tokens_kept tokens is in subst (All (λ lexeme. IsTextOf sources defines lexeme.text)) kept.2 kept.1.texts

  -- each token is sound after those before it
  pub tokens_are_sound : (tokens : List Lexeme) → tokens_of sources defines ≡ Ok tokens → AreSound [] tokens
  tokens_are_sound tokens is = let kept = tokens_kept tokens is in subst (AreSound []) kept.2 kept.1.sound
