-- The name of an included file that sources lack.
use Rattle.std.proofs.Common.{◌≡◌, ℕ, zero, suc, ◌+◌, ◌-◌, Bool, true, false, if◌then◌else◌, List, [], ◌∷◌, drop, take, Option, None, Some, Ok, Err, refl, subst}
use Rattle.std.specs.Prelude.{IsTrue, codes, not, slice_get, slice_index, ◌==◌, ◌&&◌, is_none}
use Rattle.std.specs.Char.{is_ascii_digit}
use Rattle.std.specs.Str.{bytes_eq}
use Rattle.cov_host.specs.Identifier.{begins_name}
use Rattle.cov_host.specs.declared.place.Place.{Place}
use Rattle.verilog_lexer.specs.Answer.{Answer, ◌>>=◌}
use Rattle.verilog_lexer.specs.Based.{base_of, letter_at}
use Rattle.verilog_lexer.specs.Conditions.{after_test, closing, going_on, innermost, is_left_out, named}
use Rattle.verilog_lexer.specs.Defines.{DefineText}
use Rattle.verilog_lexer.specs.Directive.{directive_of, is_passed_over, is_refused}
use Rattle.verilog_lexer.specs.Piece.{Piece, Test, blank, token, define, undefine, condition, inclusion, expansion, fault, if_defined, if_undefined, else_if_defined, otherwise, end_of_condition, accent_piece, based_as, based_piece, comment_piece, condition_piece, define_piece, directive_word, file_piece, include_piece, is_file_name, left_out_accent, left_out_piece, left_out_quote, left_out_slash, mark_piece, operator_piece, or_piece, other_piece, parenthesis_piece, piece_length, quoted_piece, read_piece, slash_piece, system_piece, up_to, word_piece}
use Rattle.verilog_lexer.specs.Reading.{Entry, Inner, Reading, Step, beginning, ended, entered, expanded, file, front_piece, included, inner_at, is_continuation, looked_up, macro_text, meaning, opened, opened_file, put_in, read_roots, read_source, root_passage, scan, tokens_of}
use Rattle.verilog_lexer.specs.Run.{is_blank, is_white, is_within_line, run, through_pair, through_quote}
use Rattle.verilog_lexer.specs.Sources.{SourceText, include_place}
use Rattle.verilog_lexer.specs.Spot.{after}
use Rattle.verilog_lexer.specs.Tokens.{Lexeme, bad_number, room_for_one, short_enough, sound_number, with_token}
use Rattle.verilog_lexer.specs.declared.fault.LexFault.TheVariants as lex_fault
use Rattle.verilog_lexer.specs.declared.fault.LexKind.{LexKind}
use Rattle.verilog_lexer.specs.declared.fault.LexKind.TheVariants.{BadByte, IncludeMissing, OpenComment, UnknownDirective}
use Rattle.verilog_lexer.specs.declared.token.TokenKind.{TokenKind}
use Rattle.source_files.specs.Files.{Lacks}

-- a fault of a missing file has a place, and the name of a file as its detail
abbrev pub TellsFile : LexKind → Option Place → Option (List ℕ) → Type 0
TellsFile IncludeMissing (Some place) (Some name) = IsTrue (is_file_name name)
TellsFile IncludeMissing (Some place) None = ⊥
TellsFile IncludeMissing None detail = ⊥
TellsFile other place detail = Unit {0}

-- an answer has what holds of its value, or a fault that names a file
Fine : {A : Type 0} → (A → Type 0) → Answer A → Type 0
Fine P (Ok value) = P value
Fine P (Err lex_fault.NoMemory) = Unit {0}
Fine P (Err (lex_fault.At kind place detail)) = TellsFile kind place detail

abbrev Any : {A : Type 0} → A → Type 0
Any value = Unit {0}

ok_fine : {A : Type 0} (P : A → Type 0) (value : A) → P value → Fine P (Ok value)
unfolding Fine
ok_fine P value holds = holds

at_fine : {A : Type 0} (P : A → Type 0) (kind : LexKind) (place : Option Place) (detail : Option (List ℕ)) → TellsFile kind place detail → Fine P (Err (lex_fault.At kind place detail))
unfolding Fine
at_fine P kind place detail tells = tells

then_fine : {A B : Type 0} (P : A → Type 0) (Q : B → Type 0) (a : Answer A) (next : A → Answer B) → Fine P a → ((value : A) → P value → Fine Q (next value)) → Fine Q (a >>= next)
unfolding Fine
then_fine P Q (Ok value) next fine step = step value fine
then_fine P Q (Err lex_fault.NoMemory) next fine step = tt
then_fine P Q (Err (lex_fault.At kind place detail)) next fine step = fine

if_fine : {A : Type 0} (P : A → Type 0) (test : Bool) (a b : Answer A) → Fine P a → Fine P b → Fine P (if test then a else b)
if_fine P true a b first second = first
if_fine P false a b first second = second

-- ---- pieces

GoodPiece : Piece → Type 0
GoodPiece (inclusion name n) = IsTrue (is_file_name name)
GoodPiece (fault kind before) = TellsFile kind None None
GoodPiece other = Unit {0}

abbrev GoodOption : Option Piece → Type 0
GoodOption None = Unit {0}
GoodOption (Some piece) = GoodPiece piece

blank_good : (n : ℕ) → GoodPiece (blank n)
unfolding GoodPiece
blank_good n = tt

token_good : (kind : TokenKind) (text : List ℕ) → GoodPiece (token kind text)
unfolding GoodPiece
token_good kind text = tt

made_good : (name text : List ℕ) (n : ℕ) → GoodPiece (define name text n)
unfolding GoodPiece
made_good name text n = tt

unmade_good : (name : List ℕ) (n : ℕ) → GoodPiece (undefine name n)
unfolding GoodPiece
unmade_good name n = tt

test_good : (test : Test) (n : ℕ) → GoodPiece (condition test n)
unfolding GoodPiece
test_good test n = tt

use_good : (name : List ℕ) (n : ℕ) → GoodPiece (expansion name n)
unfolding GoodPiece
use_good name n = tt

bad_byte_good : (n : ℕ) → GoodPiece (fault BadByte n)
unfolding GoodPiece
bad_byte_good n = tt

open_comment_good : (n : ℕ) → GoodPiece (fault OpenComment n)
unfolding GoodPiece
open_comment_good n = tt

unknown_good : (n : ℕ) → GoodPiece (fault UnknownDirective n)
unfolding GoodPiece
unknown_good n = tt

named_good : (name : List ℕ) (n : ℕ) → IsTrue (is_file_name name) → GoodPiece (inclusion name n)
unfolding GoodPiece
named_good name n is = is

if_good : (test : Bool) (a b : Piece) → GoodPiece a → GoodPiece b → GoodPiece (if test then a else b)
if_good true a b first second = first
if_good false a b first second = second

up_to_good : (made : ℕ → Piece) (other : Piece) (found : Option ℕ) → ((n : ℕ) → GoodPiece (made n)) → GoodPiece other → GoodPiece (up_to made other found)
up_to_good made other None each good = good
up_to_good made other (Some n) each good = each n

or_good : (found : Option Piece) (other : Piece) → GoodOption found → GoodPiece other → GoodPiece (or_piece found other)
or_good None other first second = second
or_good (Some piece) other first second = first

comment_good : (first second : ℕ) (text : List ℕ) → GoodPiece (comment_piece first second text)
comment_good first second text = up_to_good _ _ (through_pair first second 0 (drop 2 text)) (λ n. blank_good _) (open_comment_good 0)

operator_good : (text : List ℕ) → GoodPiece (operator_piece text)
operator_good text = if_good _ _ _ (bad_byte_good 0) (token_good _ _)

based_good : (base : _) (text : List ℕ) → GoodPiece (based_as base text)
based_good None text = bad_byte_good 0
based_good (Some base) text = token_good _ _

file_good_at : (test : Bool) (name : List ℕ) (n : ℕ) (other : Piece) → is_file_name name ≡ test → GoodPiece other → GoodPiece (if test then inclusion name n else other)
file_good_at true name n other is good = named_good name n is
file_good_at false name n other is good = good

file_good : (before : ℕ) (name : List ℕ) → GoodPiece (file_piece before name)
file_good before name = file_good_at (is_file_name name) name _ _ refl (unknown_good 0)

include_good : (start : ℕ) (text : List ℕ) → GoodPiece (include_piece start text)
include_good start text =
    let n = run is_blank text in
    if_good (slice_index text n == 34) (up_to (λ m. file_piece (start + n + 1) (take (m - 1) (drop (n + 1) text))) (fault BadByte (start + n)) (through_quote 0 false (drop (n + 1) text))) (fault UnknownDirective 0)
    (up_to_good (λ m. file_piece (start + n + 1) (take (m - 1) (drop (n + 1) text))) (fault BadByte (start + n)) (through_quote 0 false (drop (n + 1) text)) (λ m. file_good (start + n + 1) (take (m - 1) (drop (n + 1) text))) (bad_byte_good (start + n))) (unknown_good 0)

if_either : {A : Type 0} (P : A → Type 0) (test : Bool) (a b : A) → P a → P b → P (if test then a else b)
if_either P true a b first second = first
if_either P false a b first second = second

condition_good : (word : List ℕ) (start : ℕ) (text : List ℕ) → GoodOption (condition_piece (directive_of word) start text)
unfolding directive_of
condition_good word start text =
    if_either (λ d. GoodOption (condition_piece d start text)) (bytes_eq word (codes "define")) _ _ tt
    (if_either (λ d. GoodOption (condition_piece d start text)) (bytes_eq word (codes "undef")) _ _ tt
    (if_either (λ d. GoodOption (condition_piece d start text)) (bytes_eq word (codes "ifdef")) _ _ (test_good _ _)
    (if_either (λ d. GoodOption (condition_piece d start text)) (bytes_eq word (codes "ifndef")) _ _ (test_good _ _)
    (if_either (λ d. GoodOption (condition_piece d start text)) (bytes_eq word (codes "elsif")) _ _ (test_good _ _)
    (if_either (λ d. GoodOption (condition_piece d start text)) (bytes_eq word (codes "else")) _ _ (test_good _ _)
    (if_either (λ d. GoodOption (condition_piece d start text)) (bytes_eq word (codes "endif")) _ _ (test_good _ _)
    (if_either (λ d. GoodOption (condition_piece d start text)) (bytes_eq word (codes "include")) _ _ tt
    (if_either (λ d. GoodOption (condition_piece d start text)) (is_passed_over word) _ _ tt
    (if_either (λ d. GoodOption (condition_piece d start text)) (is_refused word) _ _ tt tt)))))))))

define_good : (start : ℕ) (text : List ℕ) → GoodPiece (define_piece start text)
define_good start text = if_good _ _ _ (made_good _ _ _) (unknown_good 0)

other_good : (directive word : List ℕ) (start : ℕ) (text : List ℕ) → GoodPiece (other_piece (directive_of directive) word start text)
unfolding directive_of
other_good directive word start text =
    if_either (λ d. GoodPiece (other_piece d word start text)) (bytes_eq directive (codes "define")) _ _ (define_good start text)
    (if_either (λ d. GoodPiece (other_piece d word start text)) (bytes_eq directive (codes "undef")) _ _ (unmade_good _ _)
    (if_either (λ d. GoodPiece (other_piece d word start text)) (bytes_eq directive (codes "ifdef")) _ _ (unknown_good 0)
    (if_either (λ d. GoodPiece (other_piece d word start text)) (bytes_eq directive (codes "ifndef")) _ _ (unknown_good 0)
    (if_either (λ d. GoodPiece (other_piece d word start text)) (bytes_eq directive (codes "elsif")) _ _ (unknown_good 0)
    (if_either (λ d. GoodPiece (other_piece d word start text)) (bytes_eq directive (codes "else")) _ _ (unknown_good 0)
    (if_either (λ d. GoodPiece (other_piece d word start text)) (bytes_eq directive (codes "endif")) _ _ (unknown_good 0)
    (if_either (λ d. GoodPiece (other_piece d word start text)) (bytes_eq directive (codes "include")) _ _ (include_good start text)
    (if_either (λ d. GoodPiece (other_piece d word start text)) (is_passed_over directive) _ _ (blank_good _)
    (if_either (λ d. GoodPiece (other_piece d word start text)) (is_refused directive) _ _ (unknown_good 0) (use_good _ _))))))))))

accent_good : (text : List ℕ) → GoodPiece (accent_piece text)
unfolding accent_piece
accent_good text = if_good _ _ _ (bad_byte_good 0) (or_good (condition_piece (directive_of (directive_word text)) _ _) _ (condition_good (directive_word text) _ _) (other_good (directive_word text) _ _ _))

slash_good : (text : List ℕ) → GoodPiece (slash_piece text)
slash_good text =
    if_good (slice_index text 1 == 47) (blank (run is_within_line text)) _ (blank_good _)
    (if_good (slice_index text 1 == 42) (comment_piece 42 47 text) (operator_piece text) (comment_good 42 47 text) (operator_good text))

parenthesis_good : (text : List ℕ) → GoodPiece (parenthesis_piece text)
parenthesis_good text = if_good (slice_index text 1 == 42 && not (slice_index (drop 2 text) (run is_white (drop 2 text)) == 41)) (comment_piece 42 41 text) (operator_piece text) (comment_good 42 41 text) (operator_good text)

quoted_good : (text : List ℕ) → GoodPiece (quoted_piece text)
quoted_good text = up_to_good _ _ (through_quote 0 false (drop 1 text)) (λ n. token_good _ _) (bad_byte_good 0)

system_good : (text : List ℕ) → GoodPiece (system_piece text)
system_good text = if_good _ _ _ (bad_byte_good 0) (token_good _ _)

based_piece_good : (text : List ℕ) → GoodPiece (based_piece text)
based_piece_good text = based_good (base_of (slice_index text (letter_at text))) text

mark_good : (text : List ℕ) → GoodPiece (mark_piece text)
mark_good text =
    if_good (slice_index text 0 == 47) (slash_piece text) _ (slash_good text)
    (if_good (slice_index text 0 == 40) (parenthesis_piece text) _ (parenthesis_good text)
    (if_good (slice_index text 0 == 34) (quoted_piece text) _ (quoted_good text)
    (if_good (slice_index text 0 == 96) (accent_piece text) _ (accent_good text)
    (if_good (slice_index text 0 == 39) (based_piece text) _ (based_piece_good text)
    (if_good (slice_index text 0 == 36) (system_piece text) (operator_piece text) (system_good text) (operator_good text))))))

read_good : (text : List ℕ) → GoodPiece (read_piece text)
unfolding read_piece
read_good text =
    if_good (is_white (slice_index text 0)) (blank (run is_white text)) _ (blank_good _)
    (if_good (begins_name (slice_index text 0)) (word_piece text) _ (token_good _ _)
    (if_good (is_ascii_digit (slice_index text 0)) _ (mark_piece text) (token_good _ _) (mark_good text)))

left_out_slash_good : (text : List ℕ) → GoodPiece (left_out_slash text)
left_out_slash_good text =
    if_good (slice_index text 1 == 47) (blank (run is_within_line text)) _ (blank_good _)
    (if_good (slice_index text 1 == 42) (comment_piece 42 47 text) (blank 1) (comment_good 42 47 text) (blank_good 1))

left_out_quote_good : (text : List ℕ) → GoodPiece (left_out_quote text)
left_out_quote_good text = up_to_good _ _ (through_quote 0 false (drop 1 text)) (λ n. blank_good _) (blank_good 1)

left_out_accent_good : (text : List ℕ) → GoodPiece (left_out_accent text)
left_out_accent_good text = or_good (condition_piece (directive_of (directive_word text)) _ _) (blank 1) (condition_good (directive_word text) _ _) (blank_good 1)

left_out_good : (text : List ℕ) → GoodPiece (left_out_piece text)
unfolding left_out_piece
left_out_good text =
    if_good (slice_index text 0 == 47) (left_out_slash text) _ (left_out_slash_good text)
    (if_good (slice_index text 0 == 34) (left_out_quote text) _ (left_out_quote_good text)
    (if_good (slice_index text 0 == 96) (left_out_accent text) _ (left_out_accent_good text) (blank_good _)))

front_good : (in_macro : Bool) (conditions : _) (text : List ℕ) → GoodPiece (front_piece in_macro conditions text)
front_good in_macro conditions text =
    if_good (in_macro && is_continuation text) (blank 2) _ (blank_good 2)
    (if_good (is_left_out conditions) (left_out_piece text) (read_piece text) (left_out_good text) (read_good text))

-- ---- what pieces mean

abbrev GoodEntry : Option Entry → Type 0
GoodEntry None = Unit {0}
GoodEntry (Some (macro_text text)) = Unit {0}
GoodEntry (Some (file name)) = IsTrue (is_file_name name)

abbrev GoodStep : Step → Type 0
GoodStep step = GoodEntry step.entry

named_fine : (place : Place) (name : List ℕ) → Fine Any (named place name)
named_fine place name = if_fine Any _ _ _ (at_fine Any _ _ _ tt) (ok_fine Any _ tt)

going_on_fine : (place : Place) (found : _) → Fine Any (going_on place found)
going_on_fine place None = at_fine Any _ _ _ tt
going_on_fine place (Some innermost_one) = if_fine Any _ _ _ (at_fine Any _ _ _ tt) (ok_fine Any _ tt)

closing_fine : (place : Place) (found : _) → Fine Any (closing place found)
closing_fine place None = at_fine Any _ _ _ tt
closing_fine place (Some innermost_one) = ok_fine Any _ tt

after_test_fine : (place : Place) (macros : List ℕ → Option (List ℕ)) (test : Test) (conditions : _) → Fine Any (after_test place macros test conditions)
after_test_fine place macros (if_defined name) conditions = then_fine Any Any (named place name) _ (named_fine place name) (λ v p. ok_fine Any _ tt)
after_test_fine place macros (if_undefined name) conditions = then_fine Any Any (named place name) _ (named_fine place name) (λ v p. ok_fine Any _ tt)
after_test_fine place macros (else_if_defined name) conditions =
    then_fine Any Any (going_on place (innermost conditions)) _ (going_on_fine place (innermost conditions)) (λ c p. then_fine Any Any (named place name) _ (named_fine place name) (λ v q. ok_fine Any _ tt))
after_test_fine place macros otherwise conditions = then_fine Any Any (going_on place (innermost conditions)) _ (going_on_fine place (innermost conditions)) (λ v p. ok_fine Any _ tt)
after_test_fine place macros end_of_condition conditions = then_fine Any Any (closing place (innermost conditions)) _ (closing_fine place (innermost conditions)) (λ v p. ok_fine Any _ tt)

sound_fine : (found : Option Place) → Fine Any (sound_number found)
sound_fine None = ok_fine Any _ tt
sound_fine (Some place) = at_fine Any _ _ _ tt

token_fine : (spot : _) (text : List ℕ) (kind : TokenKind) (word : List ℕ) (tokens : List Lexeme) → Fine Any (with_token spot text kind word tokens)
token_fine spot text kind word tokens =
    then_fine Any Any (sound_number (bad_number tokens kind word spot.place)) _ (sound_fine (bad_number tokens kind word spot.place)) (λ a p.
    then_fine Any Any (room_for_one tokens spot.place) _ (if_fine Any _ _ _ (at_fine Any _ _ _ tt) (ok_fine Any _ tt)) (λ b q.
    then_fine Any Any (short_enough spot text kind word) _ (if_fine Any _ _ _ (at_fine Any _ _ _ tt) (ok_fine Any _ tt)) (λ c r. ok_fine Any _ tt)))

expanded_fine : (place : Place) (name : List ℕ) (found : Option (List ℕ)) (reading : Reading) → Fine GoodStep (expanded place name found reading)
expanded_fine place name None reading = at_fine GoodStep _ _ _ tt
expanded_fine place name (Some text) reading = ok_fine GoodStep _ tt

tells_at : (kind : LexKind) (place : Place) → TellsFile kind None None → TellsFile kind (Some place) None
tells_at IncludeMissing place tells = absurd tells
tells_at other place tells = tells

meaning_fine : (spot : _) (text : List ℕ) (piece : Piece) (reading : Reading) → GoodPiece piece → Fine GoodStep (meaning spot text piece reading)
unfolding GoodPiece
meaning_fine spot text (blank n) reading good = ok_fine GoodStep _ tt
meaning_fine spot text (token kind word) reading good = then_fine Any GoodStep (with_token spot text kind word reading.tokens) _ (token_fine spot text kind word reading.tokens) (λ v p. ok_fine GoodStep _ tt)
meaning_fine spot text (define name body n) reading good = ok_fine GoodStep _ tt
meaning_fine spot text (undefine name n) reading good = then_fine Any GoodStep (named spot.place name) _ (named_fine spot.place name) (λ v p. ok_fine GoodStep _ tt)
meaning_fine spot text (condition test n) reading good = then_fine Any GoodStep (after_test spot.place reading.macros test reading.conditions) _ (after_test_fine spot.place reading.macros test reading.conditions) (λ v p. ok_fine GoodStep _ tt)
meaning_fine spot text (inclusion name n) reading good = ok_fine GoodStep _ good
meaning_fine spot text (expansion name n) reading good = expanded_fine spot.place name (reading.macros name) reading
meaning_fine spot text (fault kind before) reading good = at_fine GoodStep kind _ None (tells_at kind _ good)

-- ---- texts

ended_fine : (ending : _) (spot : _) (reading : Reading) → Fine Any (ended ending spot reading)
ended_fine None spot reading = ok_fine Any _ tt
ended_fine (Some conditions) spot reading = if_fine Any _ _ _ (ok_fine Any _ tt) (at_fine Any _ _ _ tt)

abbrev InnerFine : Inner → Type 0
InnerFine inner = (spot : _) (entry : Entry) (reading : Reading) → GoodEntry (Some entry) → Fine Any (inner spot entry reading)

entered_fine : (inner : Inner) → InnerFine inner → (spot : _) (entry : Option Entry) (reading : Reading) → GoodEntry entry → Fine Any (entered inner spot entry reading)
entered_fine inner fine spot None reading good = ok_fine Any _ tt
entered_fine inner fine spot (Some entry) reading good = fine spot entry reading good

scan_fine : (inner : Inner) → InnerFine inner → (text : List ℕ) (ending : _) (left : ℕ) (spot : _) (reading : Reading) → Fine Any (scan inner ending left spot text reading)
unfolding scan
scan_fine inner fine [] ending left spot reading = ended_fine ending spot reading
scan_fine inner fine (byte ∷ others) ending (suc left) spot reading = scan_fine inner fine others ending left (after spot byte) reading
scan_fine inner fine (byte ∷ others) ending zero spot reading =
    let piece = front_piece (is_none ending) reading.conditions (byte ∷ others) in
    then_fine GoodStep Any (meaning spot (byte ∷ others) piece reading) _ (meaning_fine spot (byte ∷ others) piece reading (front_good (is_none ending) reading.conditions (byte ∷ others))) (λ step good.
    then_fine Any Any (entered inner spot step.entry step.reading) _ (entered_fine inner fine spot step.entry step.reading good) (λ next p.
    scan_fine inner fine others ending (piece_length piece - 1) (after spot byte) next))

opened_file_fine : (spot : _) (name : List ℕ) (place : ℕ) (found : Option SourceText) (reading : Reading) → IsTrue (is_file_name name) → Fine Any (opened_file spot name place found reading)
opened_file_fine spot name place None reading good = at_fine Any IncludeMissing (Some spot.place) (Some name) good
opened_file_fine spot name place (Some source) reading good = ok_fine Any _ tt

included_fine : (sources : List SourceText) (spot : _) (name : List ℕ) (found : Option ℕ) (reading : Reading) → IsTrue (is_file_name name) → Fine Any (included sources spot name found reading)
included_fine sources spot name None reading good = opened_file_fine spot name 0 None reading good
included_fine sources spot name (Some place) reading good = opened_file_fine spot name place (slice_get sources place) reading good

looked_up_fine : (sources : List SourceText) (spot : _) (entry : Entry) (reading : Reading) → GoodEntry (Some entry) → Fine Any (looked_up sources spot entry reading)
looked_up_fine sources spot (macro_text text) reading good = ok_fine Any _ tt
looked_up_fine sources spot (file name) reading good = included_fine sources spot name (include_place sources name) reading good

opened_fine : (sources : List SourceText) (spot : _) (entry : Entry) (reading : Reading) → GoodEntry (Some entry) → Fine Any (opened sources spot entry reading)
opened_fine sources spot entry reading good =
    then_fine Any Any (looked_up sources spot entry reading) (put_in spot) (looked_up_fine sources spot entry reading good) (λ inside p. if_fine Any _ _ _ (at_fine Any _ _ _ tt) (ok_fine Any _ tt))

inner_fine : (depth : ℕ) (sources : List SourceText) → InnerFine (inner_at depth sources)
unfolding inner_at
inner_fine zero sources spot entry reading good = at_fine Any _ _ _ tt
inner_fine (suc depth) sources spot entry reading good =
    then_fine Any Any (opened sources spot entry reading) _ (opened_fine sources spot entry reading good) (λ inside p.
    scan_fine (inner_at depth sources) (inner_fine depth sources) inside.passage.text inside.passage.ending 0 inside.passage.spot inside.reading)

source_fine : (all : List SourceText) (number : ℕ) (source : SourceText) (reading : Reading) → Fine Any (read_source all number source reading)
source_fine all number source reading =
    if_fine Any _ _ _ (scan_fine (inner_at 64 all) (inner_fine 64 all) source.bytes (Some []) 0 (root_passage number source.bytes).spot reading) (ok_fine Any _ tt)

roots_fine : (all : List SourceText) (number : ℕ) (left : List SourceText) (reading : Reading) → Fine Any (read_roots all number left reading)
unfolding read_roots
roots_fine all number [] reading = ok_fine Any _ tt
roots_fine all number (source ∷ others) reading =
    then_fine Any Any (read_source all number source reading) _ (source_fine all number source reading) (λ next p. roots_fine all (number + 1) others next)

tokens_fine : (sources : List SourceText) (defines : List DefineText) → Fine Any (tokens_of sources defines)
unfolding tokens_of
tokens_fine sources defines = then_fine Any Any (read_roots sources 1 sources (beginning defines)) _ (roots_fine sources 1 sources (beginning defines)) (λ reading p. ok_fine Any _ tt)

pub missing_name : (sources : List SourceText) (defines : List DefineText) (name : List ℕ) → Lacks sources defines name → IsTrue (is_file_name name)
unfolding Fine
missing_name sources defines name lacks = subst (Fine Any) lacks.1 (tokens_fine sources defines)

-- a fault of a missing file has a place and a name
pub missing_tells : (sources : List SourceText) (defines : List DefineText) (place : Option Place) (detail : Option (List ℕ)) → tokens_of sources defines ≡ Err (lex_fault.At IncludeMissing place detail) → TellsFile IncludeMissing place detail
unfolding Fine
missing_tells sources defines place detail is = subst (Fine Any) is (tokens_fine sources defines)
