-- A reading has at most 4,194,304 tokens.
use Rattle.std.proofs.Common.{◌≡◌, ◌+◌, ◌-◌, ◌<◌, ◌≤◌, ℕ, zero, suc, Bool, true, false, cond, ◌==◌, List, [], ◌∷◌, ◌++◌, Option, None, Some, Ok, length, refl, sym, ap, subst, ⊎_elim, arith}
use Rattle.std.proofs.lemmas.List.{length-append}
use Rattle.std.proofs.lemmas.Bool.{cases_lt, eqb-false}
use Rattle.std.specs.List.{slice_get}
use Rattle.std.specs.Prelude.{is_none}
use Rattle.cov_host.specs.declared.place.Place.{Place}
use Rattle.verilog_lexer.specs.Answer.{Answer, ◌>>=◌, fault_at}
use Rattle.verilog_lexer.specs.Defines.{DefineText}
use Rattle.verilog_lexer.specs.Piece.{Piece, blank, token, define, undefine, condition, inclusion, expansion, fault, piece_length}
use Rattle.verilog_lexer.specs.Reading.{Reading, Step, Entry, macro_text, file, Inner, goes, meaning, front_piece, entered, scan, scan_passage, Opened, macro_opened, file_opened, opened_file, included, with_less_room, put_in, inner_at, read_passage, root_passage, read_source, read_roots, beginning, tokens_of}
use Rattle.verilog_lexer.specs.Sources.{SourceText, include_place}
use Rattle.verilog_lexer.specs.Spot.{after, within_macro, file_spot}
use Rattle.verilog_lexer.specs.Tokens.{Lexeme, bad_number, sound_number, room_for_one, short_enough, with_token}
use Rattle.verilog_lexer.specs.declared.fault.LexKind.TheVariants.{TooManyTokens}
use Rattle.verilog_lexer.specs.declared.token.TokenKind.{TokenKind}
use Rattle.verilog_lexer.proofs.ReadTokens.{no_answer, same_answer, bind_ok, room_ok, ended_same, meaning_is, with_token_is}

abbrev AreFew : List Lexeme → Type 0
AreFew tokens = length tokens ≤ 4194304

same_tokens : (old new : List Lexeme) → new ≡ old → AreFew old → AreFew new
same_tokens old new same few = subst AreFew (sym same) few

-- there is room where one more token is taken
room_from : (full : Bool) (place : Place) (nothing : Unit {0}) → cond full (fault_at TooManyTokens place) (Ok tt) ≡ Ok nothing → full ≡ false
room_from true place nothing is = absurd (no_answer _ nothing is)
room_from false place nothing is = refl

below : (n most : ℕ) → n ≤ most → (n == most) ≡ false → n < most
below n most few apart = ⊎_elim (λ less. less) (λ more. absurd (eqb-false n most apart (omega arith))) (cases_lt n most)

with_token_few : (spot : _) (text : List ℕ) (kind : TokenKind) (word : List ℕ) (old new : List Lexeme) → AreFew old → with_token spot text kind word old ≡ Ok new → AreFew new
with_token_few spot text kind word old new few is =
    let last : Lexeme = record { kind = kind; text = word; place = spot.place } in
    let made : Answer (List Lexeme) = Ok (old ++ last ∷ []) in
    let first = bind_ok (sound_number (bad_number old kind word spot.place)) (λ _. room_for_one old spot.place >>= λ _. short_enough spot text kind word >>= λ _. made) new is in
    let second = bind_ok (room_for_one old spot.place) (λ _. short_enough spot text kind word >>= λ _. made) new first.2 in
    let less : length old < 4194304 = below (length old) 4194304 few (room_from (length old == 4194304) spot.place second.0 second.1) in
    let parts = with_token_is spot text kind word old new is in
    omega (arith, less, ap length parts.2, length-append old (last ∷ []))

meaning_few : (spot : _) (text : List ℕ) (piece : Piece) (old : Reading) (step : Step) → AreFew old.tokens → meaning spot text piece old ≡ Ok step → AreFew step.reading.tokens
meaning_few spot text (blank n) old step few is = same_tokens old.tokens _ (meaning_is spot text (blank n) old step is).0 few
meaning_few spot text (token kind word) old step few is =
    let bound = bind_ok (with_token spot text kind word old.tokens) (λ tokens. goes (record old { tokens = tokens })) step is in
    let same = sym (same_answer (record { reading = record old { tokens = bound.0 }; entry = None }) step bound.2) in
    same_tokens bound.0 _ (ap (λ s. s.reading.tokens) same) (with_token_few spot text kind word old.tokens bound.0 few bound.1)
meaning_few spot text (define name body n) old step few is = same_tokens old.tokens _ (meaning_is spot text (define name body n) old step is).0 few
meaning_few spot text (undefine name n) old step few is = same_tokens old.tokens _ (meaning_is spot text (undefine name n) old step is).0 few
meaning_few spot text (condition test n) old step few is = same_tokens old.tokens _ (meaning_is spot text (condition test n) old step is).0 few
meaning_few spot text (inclusion name n) old step few is = same_tokens old.tokens _ (meaning_is spot text (inclusion name n) old step is).0 few
meaning_few spot text (expansion name n) old step few is = same_tokens old.tokens _ (meaning_is spot text (expansion name n) old step is).1 few
meaning_few spot text (fault why before) old step few is = absurd (no_answer _ step is)

same_reading : (old new : Reading) → AreFew old.tokens → ◌≡◌ {A = Answer Reading} (Ok old) (Ok new) → AreFew new.tokens
same_reading old new few is = subst (λ reading. AreFew reading.tokens) (same_answer old new is) few

module _ (inner : Inner) (keeps : (spot : _) (entry : Entry) (old new : Reading) → AreFew old.tokens → inner spot entry old ≡ Ok new → AreFew new.tokens) where
  entered_few : (spot : _) (entry : Option Entry) (old new : Reading) → AreFew old.tokens → entered inner spot entry old ≡ Ok new → AreFew new.tokens
  entered_few spot None old new few is = same_reading old new few is
  entered_few spot (Some entry) old new few is = keeps spot entry old new few is

  scan_few : (text : List ℕ) (spot : _) (ending : Option (List _)) (left : ℕ) (old new : Reading) → AreFew old.tokens → scan inner ending left spot text old ≡ Ok new → AreFew new.tokens
  unfolding scan
  scan_few [] spot ending left old new few is = same_tokens old.tokens new.tokens (ended_same ending spot old new is) few
  scan_few (byte ∷ others) spot ending (suc left) old new few is = scan_few others (after spot byte) ending left old new few is
  scan_few (byte ∷ others) spot ending zero old new few is =
      let piece : Piece = front_piece (is_none ending) old.conditions (byte ∷ others) in
      let first = bind_ok (meaning spot (byte ∷ others) piece old) (λ step. entered inner spot step.entry step.reading >>= λ next. scan inner ending (piece_length piece - 1) (after spot byte) others next) new is in
      let second = bind_ok (entered inner spot first.0.entry first.0.reading) (λ next. scan inner ending (piece_length piece - 1) (after spot byte) others next) new first.2 in
      let step : AreFew first.0.reading.tokens = meaning_few spot (byte ∷ others) piece old first.0 few first.1 in
      scan_few others (after spot byte) ending (piece_length piece - 1) second.0 new (entered_few spot first.0.entry first.0.reading second.0 step second.1) second.2

module _ (sources : List SourceText) where
  file_few : (inner : Inner) (spot : _) (name : List ℕ) (found : Option ℕ) (old new : Reading) → AreFew old.tokens
      → ((text : List ℕ) (spot : _) (ending : Option (List _)) (reading : Reading) → AreFew reading.tokens → scan inner ending 0 spot text reading ≡ Ok new → AreFew new.tokens)
      → (included sources spot name found old >>= put_in spot >>= λ inside. scan_passage inner inside.passage inside.reading) ≡ Ok new → AreFew new.tokens
  file_few inner spot name None old new few scanned is = absurd (no_answer _ new is)
  file_few inner spot name (Some number) old new few scanned is = by_source (slice_get sources number) is
    where
      by_source : (source : Option SourceText) → (opened_file spot name number source old >>= put_in spot >>= λ inside. scan_passage inner inside.passage inside.reading) ≡ Ok new → AreFew new.tokens
      by_source None is = absurd (no_answer _ new is)
      by_source (Some source) is =
          let put : Opened = file_opened spot number source old in
          scanned source.bytes (file_spot spot (number + 1)) (Some old.conditions) (with_less_room put).reading few (room_ok spot put (λ inside. scan_passage inner inside.passage inside.reading) new is)

  inner_few : (depth : ℕ) (spot : _) (entry : Entry) (old new : Reading) → AreFew old.tokens → inner_at depth sources spot entry old ≡ Ok new → AreFew new.tokens
  unfolding inner_at
  inner_few zero spot entry old new few is = absurd (no_answer _ new is)
  inner_few (suc depth) spot (macro_text body) old new few is =
      let put : Opened = macro_opened spot body old in
      scan_few (inner_at depth sources) (inner_few depth) body (within_macro spot) None 0 (with_less_room put).reading new few
      (room_ok spot put (λ inside. scan_passage (inner_at depth sources) inside.passage inside.reading) new is)
  inner_few (suc depth) spot (file name) old new few is =
      file_few (inner_at depth sources) spot name (include_place sources name) old new few (λ text spot ending reading few scanned. scan_few (inner_at depth sources) (inner_few depth) text spot ending 0 reading new few scanned) is

  root_few : (number : ℕ) (source : SourceText) (root : Bool) (old new : Reading) → AreFew old.tokens → cond root (read_passage sources (root_passage number source.bytes) old) (Ok old) ≡ Ok new → AreFew new.tokens
  root_few number source true old new few is = scan_few (inner_at 64 sources) (inner_few 64) source.bytes (root_passage number source.bytes).spot (Some []) 0 old new few is
  root_few number source false old new few is = same_reading old new few is

  roots_few : (left : List SourceText) (number : ℕ) (old new : Reading) → AreFew old.tokens → read_roots sources number left old ≡ Ok new → AreFew new.tokens
  unfolding read_roots
  roots_few [] number old new few reads = same_reading old new few reads
  roots_few (source ∷ others) number old new few reads =
      let bound = bind_ok (read_source sources number source old) (λ next. read_roots sources (number + 1) others next) new reads in
      roots_few others (number + 1) bound.0 new (root_few number source source.root old bound.0 few bound.1) bound.2

pub few_tokens : (sources : List SourceText) (defines : List DefineText) (tokens : List Lexeme) → tokens_of sources defines ≡ Ok tokens → AreFew tokens
unfolding tokens_of
few_tokens sources defines tokens is =
    let bound = bind_ok (read_roots sources 1 sources (beginning defines)) (λ reading. Ok reading.tokens) tokens is in
    same_tokens bound.0.tokens tokens (sym (same_answer bound.0.tokens tokens bound.2)) (roots_few sources sources 1 (beginning defines) bound.0 (omega arith) bound.1)
