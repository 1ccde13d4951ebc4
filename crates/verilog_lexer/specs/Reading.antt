-- What sources say: their tokens under definitions, or the fault that is first (IEEE 1364-2001 clause 19).
-- Bytes are written as numbers: 10 line feed, 92 backslash.
use Rattle.std.specs.Prelude.{ℕ, zero, suc, ◌+◌, ◌-◌, nat_lt, Bool, false, ◌==◌, List, [], ◌∷◌, Option, None, Some, Ok, Err, if◌then◌else◌, length, slice_get, slice_index, is_none, ◌&&◌, take}
use Rattle.cov_host.specs.declared.place.Place.{Place}
use Rattle.verilog_lexer.specs.Answer.{Answer, ◌>>=◌, fault_at}
use Rattle.verilog_lexer.specs.Spot.{after, after_all, within_macro, file_spot}
use Rattle.verilog_lexer.specs.Tokens.{Lexeme, with_token}
use Rattle.verilog_lexer.specs.Defines.{Macros, DefineText, no_macros, with_macro, without_macro, with_macros}
use Rattle.verilog_lexer.specs.Conditions.{is_left_out, named, after_test}
use Rattle.verilog_lexer.specs.Piece.{Piece, blank, token, define, undefine, condition, inclusion, expansion, fault, piece_length, read_piece, left_out_piece}
use Rattle.verilog_lexer.specs.Sources.{SourceText, include_place}
use Rattle.verilog_lexer.specs.declared.spot.Spot.{Spot}
use Rattle.verilog_lexer.specs.declared.condition.Condition.{Condition}
use Rattle.verilog_lexer.specs.declared.fault.LexFault.TheVariants as lex_fault
use Rattle.verilog_lexer.specs.declared.fault.LexKind.TheVariants.{OpenCondition, UnknownMacro, MacroDepth, IncludeMissing, ExpansionTooLong}

-- what has been read so far: the tokens, the macros, the open conditions of the file, and how many bytes may still be put in
pub record Reading : Type 0 where
  pub tokens : List Lexeme
  pub macros : Macros
  pub conditions : List Condition
  pub room : ℕ

-- what is to be read in the place of a directive or a macro
pub data Entry : Type 0 where
  macro_text : List ℕ → Entry
  file : List ℕ → Entry

-- what has been read, and what is to be read next, before the text goes on
pub record Step : Type 0 where
  pub reading : Reading
  pub entry : Option Entry

abbrev pub goes : Reading → Answer Step
goes reading = Ok (record { reading = reading; entry = None })

abbrev pub enters : Reading → Entry → Answer Step
enters reading entry = Ok (record { reading = reading; entry = Some entry })

abbrev pub expanded : Place → (name : List ℕ) → Option (List ℕ) → Reading → Answer Step
expanded place name None reading = Err (lex_fault.At UnknownMacro (Some place) (Some name))
expanded place name (Some text) reading = enters reading (macro_text text)

-- what the piece at the front of a text means
abbrev pub meaning : Spot → (text : List ℕ) → Piece → Reading → Answer Step
meaning spot text (blank n) reading = goes reading
meaning spot text (token kind word) reading = with_token spot text kind word reading.tokens >>= λ tokens. goes (record reading { tokens = tokens })
meaning spot text (define name body n) reading = goes (record reading { macros = with_macro reading.macros name body })
meaning spot text (undefine name n) reading = named spot.place name >>= λ _. goes (record reading { macros = without_macro reading.macros name })
meaning spot text (condition test n) reading = after_test spot.place reading.macros test reading.conditions >>= λ conditions. goes (record reading { conditions = conditions })
meaning spot text (inclusion name n) reading = enters reading (file name)
meaning spot text (expansion name n) reading = expanded spot.place name (reading.macros name) reading
meaning spot text (fault kind before) reading = fault_at kind (after_all spot (take before text)).place

-- a backslash before the end of a line, which continues the text of a macro
abbrev pub is_continuation : List ℕ → Bool
is_continuation text = slice_index text 0 == 92 && slice_index text 1 == 10

-- the piece at the front, which is another one where a condition leaves the text out
abbrev pub front_piece : (in_macro : Bool) → List Condition → List ℕ → Piece
front_piece in_macro conditions text =
    if in_macro && is_continuation text then blank 2
    else if is_left_out conditions then left_out_piece text
    else read_piece text

-- what is left of a text: where it begins, and, for a file, the open conditions of what is round it
pub record PassageText : Type 0 where
  pub text : List ℕ
  pub spot : Spot
  pub ending : Option (List Condition)

-- at the end of a file its conditions are closed
abbrev pub ended : Option (List Condition) → Spot → Reading → Answer Reading
ended None spot reading = Ok reading
ended (Some outer) spot reading = if length reading.conditions == 0 then Ok (record reading { conditions = outer }) else fault_at OpenCondition spot.place

-- how what is entered is read
abbrev pub Inner : Type 0
Inner = Spot → Entry → Reading → Answer Reading

abbrev pub entered : Inner → Spot → Option Entry → Reading → Answer Reading
entered inner spot None reading = Ok reading
entered inner spot (Some entry) reading = inner spot entry reading

-- the reading of a text from left to right, where this many bytes are left of the piece before
unfoldable pub scan : Inner → (ending : Option (List Condition)) → (left : ℕ) → Spot → List ℕ → Reading → Answer Reading
scan inner ending left spot [] reading = ended ending spot reading
scan inner ending (suc left) spot (byte ∷ others) reading = scan inner ending left (after spot byte) others reading
scan inner ending zero spot (byte ∷ others) reading =
    meaning spot (byte ∷ others) (front_piece (is_none ending) reading.conditions (byte ∷ others)) reading >>= λ step.
    entered inner spot step.entry step.reading >>= λ next.
    scan inner ending (piece_length (front_piece (is_none ending) reading.conditions (byte ∷ others)) - 1) (after spot byte) others next

-- what is entered, with what has been read: the text of a macro, or a file with no conditions of its own yet
pub record Opened : Type 0 where
  pub passage : PassageText
  pub reading : Reading

-- the text of a macro, or a file at this place among the sources
abbrev pub macro_opened : Spot → (text : List ℕ) → Reading → Opened
macro_opened spot text reading = record { passage = record { text = text; spot = within_macro spot; ending = None }; reading = reading }

abbrev pub file_opened : Spot → (place : ℕ) → SourceText → Reading → Opened
file_opened spot place source reading = record {
  passage = record { text = source.bytes; spot = file_spot spot (place + 1); ending = Some reading.conditions };
  reading = record reading { conditions = [] };
}

abbrev pub opened_file : Spot → (name : List ℕ) → (place : ℕ) → Option SourceText → Reading → Answer Opened
opened_file spot name place None reading = Err (lex_fault.At IncludeMissing (Some spot.place) (Some name))
opened_file spot name place (Some source) reading = Ok (file_opened spot place source reading)

abbrev pub included : List SourceText → Spot → (name : List ℕ) → Option ℕ → Reading → Answer Opened
included sources spot name None reading = opened_file spot name 0 None reading
included sources spot name (Some place) reading = opened_file spot name place (slice_get sources place) reading

-- what is to be put in
abbrev pub looked_up : List SourceText → Spot → Entry → Reading → Answer Opened
looked_up sources spot (macro_text text) reading = Ok (macro_opened spot text reading)
looked_up sources spot (file name) reading = included sources spot name (include_place sources name) reading

-- a text that is put in takes its bytes and 8 more of the room
abbrev pub bytes_taken : Opened → ℕ
bytes_taken inside = length inside.passage.text + 8

abbrev pub with_less_room : Opened → Opened
with_less_room inside = record inside { reading = record inside.reading { room = inside.reading.room - bytes_taken inside } }

-- there is so much room, or the use or the inclusion is one too many
abbrev pub put_in : Spot → Opened → Answer Opened
put_in spot inside = if nat_lt inside.reading.room (bytes_taken inside) then fault_at ExpansionTooLong spot.place else Ok (with_less_room inside)

abbrev pub opened : List SourceText → Spot → Entry → Reading → Answer Opened
opened sources spot entry reading = looked_up sources spot entry reading >>= put_in spot

-- the reading of what is left of a text
abbrev pub scan_passage : Inner → PassageText → Reading → Answer Reading
scan_passage inner passage reading = scan inner passage.ending 0 passage.spot passage.text reading

-- the reading of what is entered, where this number of others may be entered inside one another
unfoldable pub inner_at : ℕ → List SourceText → Inner
inner_at zero sources spot entry reading = fault_at MacroDepth spot.place
inner_at (suc depth) sources spot entry reading =
    opened sources spot entry reading >>= λ inside. scan_passage (inner_at depth sources) inside.passage inside.reading

-- uses of macros and inclusions nest at most 64 deep
abbrev pub read_passage : List SourceText → PassageText → Reading → Answer Reading
read_passage sources passage reading = scan_passage (inner_at 64 sources) passage reading

-- a file that is read by itself
abbrev pub root_passage : (number : ℕ) → (text : List ℕ) → PassageText
root_passage number text = record {
  text = text;
  spot = record { place = record { source = number; line = 1; column = 1 }; inside = false };
  ending = Some [];
}

-- a file is read where it is one that is read by itself
abbrev pub read_source : (all : List SourceText) → (number : ℕ) → SourceText → Reading → Answer Reading
read_source all number source reading = if source.root then read_passage all (root_passage number source.bytes) reading else Ok reading

-- the files that are read by themselves, one after the other, from the source with this number on
unfoldable pub read_roots : (all : List SourceText) → (number : ℕ) → (left : List SourceText) → Reading → Answer Reading
read_roots all number [] reading = Ok reading
read_roots all number (source ∷ others) reading = read_source all number source reading >>= λ next. read_roots all (number + 1) others next

-- nothing is read yet, these macros are defined, and 134,217,728 bytes may be put in
abbrev pub beginning : List DefineText → Reading
beginning defines = record { tokens = []; macros = with_macros no_macros defines; conditions = []; room = 134217728 }

-- the tokens of sources under defines, or the fault that is first
unfoldable pub tokens_of : List SourceText → List DefineText → Answer (List Lexeme)
tokens_of sources defines = read_roots sources 1 sources (beginning defines) >>= λ reading. Ok reading.tokens
