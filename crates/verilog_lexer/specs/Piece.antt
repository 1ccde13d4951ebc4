-- What is at the front of a text: a token, or a directive with what belongs to it (IEEE 1364-2001 clauses 2 and 19).
-- Bytes are written as numbers: 34 double quote, 36 dollar sign, 39 quote, 40 open parenthesis, 41 close parenthesis, 42 star, 47 slash, 96 grave accent; 32 to 126 are printable.
use Rattle.std.specs.Prelude.{ℕ, ◌+◌, ◌-◌, nat_le, Bool, false, not, ◌&&◌, ◌||◌, ◌==◌, List, [], Option, None, Some, if◌then◌else◌, slice_index, take, drop, length}
use Rattle.std.specs.List.{list_all}
use Rattle.std.specs.Char.{is_ascii_digit}
use Rattle.cov_host.specs.Identifier.{is_reserved, is_identifier, begins_name, continues_name}
use Rattle.verilog_lexer.specs.Run.{is_white, is_blank, is_within_line, run, through_pair, through_quote}
use Rattle.verilog_lexer.specs.Operator.{operator_length}
use Rattle.verilog_lexer.specs.Based.{base_of, letter_at, based_length, is_decimal_part}
use Rattle.verilog_lexer.specs.DefineText.{define_text_length}
use Rattle.verilog_lexer.specs.Directive.{directive_of, is_use}
use Rattle.verilog_lexer.specs.declared.based.Base.{Base}
use Rattle.verilog_lexer.specs.declared.directive.Directive.{Directive}
use Rattle.verilog_lexer.specs.declared.directive.Directive.TheVariants.{Define, Undef, Ifdef, Ifndef, Elsif, Else, Endif, Include, PassedOver, Refused, Use}
use Rattle.verilog_lexer.specs.declared.token.TokenKind.{TokenKind}
use Rattle.verilog_lexer.specs.declared.token.TokenKind.TheVariants as kind
use Rattle.verilog_lexer.specs.declared.fault.LexKind.{LexKind}
use Rattle.verilog_lexer.specs.declared.fault.LexKind.TheVariants.{BadByte, OpenComment, UnknownDirective}

-- what a directive of conditions asks; a name that is not there is empty
pub data Test : Type 0 where
  if_defined : List ℕ → Test
  if_undefined : List ℕ → Test
  else_if_defined : List ℕ → Test
  otherwise : Test
  end_of_condition : Test

-- what is at the front, with the number of its bytes where it does not show
pub data Piece : Type 0 where
  blank : ℕ → Piece
  token : TokenKind → List ℕ → Piece
  define : (name text : List ℕ) → ℕ → Piece
  undefine : List ℕ → ℕ → Piece
  condition : Test → ℕ → Piece
  inclusion : List ℕ → ℕ → Piece
  expansion : List ℕ → ℕ → Piece
  -- a fault, and the number of bytes before it
  fault : LexKind → ℕ → Piece

-- how many bytes a piece has
abbrev pub piece_length : Piece → ℕ
piece_length (blank n) = n
piece_length (token kind text) = length text
piece_length (define name text n) = n
piece_length (undefine name n) = n
piece_length (condition test n) = n
piece_length (inclusion name n) = n
piece_length (expansion name n) = n
piece_length (fault kind before) = 0

-- a piece of as many bytes as there are, if there are
abbrev pub up_to : (ℕ → Piece) → Piece → Option ℕ → Piece
up_to made other None = other
up_to made other (Some n) = made n

abbrev pub token_of : TokenKind → List ℕ → ℕ → Piece
token_of kind text n = token kind (take n text)

-- a name or a keyword
abbrev pub word_piece : List ℕ → Piece
word_piece text = token_of (if is_reserved (take (run continues_name text) text) then kind.Keyword else kind.Identifier) text (run continues_name text)

abbrev pub quoted_piece : List ℕ → Piece
quoted_piece text = up_to (λ n. token_of kind.Quoted text (n + 1)) (fault BadByte 0) (through_quote 0 false (drop 1 text))

-- a based number of this base
abbrev pub based_as : Option Base → List ℕ → Piece
based_as None text = fault BadByte 0
based_as (Some base) text = token_of kind.Based text (based_length base text)

abbrev pub based_piece : List ℕ → Piece
based_piece text = based_as (base_of (slice_index text (letter_at text))) text

abbrev pub system_piece : List ℕ → Piece
system_piece text = if run continues_name (drop 1 text) == 0 then fault BadByte 0 else token_of kind.System text (run continues_name (drop 1 text) + 1)

abbrev pub operator_piece : List ℕ → Piece
operator_piece text = if operator_length text == 0 then fault BadByte 0 else token_of kind.Operator text (operator_length text)

-- what is between two bytes and the next such pair of bytes counts as white space
abbrev pub comment_piece : (first second : ℕ) → List ℕ → Piece
comment_piece first second text = up_to (λ n. blank (n + 2)) (fault OpenComment 0) (through_pair first second 0 (drop 2 text))

-- a comment to the end of the line, one between marks, or a quotient
abbrev pub slash_piece : List ℕ → Piece
slash_piece text =
    if slice_index text 1 == 47 then blank (run is_within_line text)
    else if slice_index text 1 == 42 then comment_piece 42 47 text
    else operator_piece text

-- an attribute (clause 2.8), unless it is the star in parentheses that means all events
abbrev pub parenthesis_piece : List ℕ → Piece
parenthesis_piece text =
    if slice_index text 1 == 42 && not (slice_index (drop 2 text) (run is_white (drop 2 text)) == 41) then comment_piece 42 41 text
    else operator_piece text

-- the name after blanks, empty where there is no name
abbrev pub name_in : List ℕ → List ℕ
name_in text = if begins_name (slice_index text 0) then take (run continues_name text) text else []

abbrev pub name_behind : List ℕ → List ℕ
name_behind text = name_in (drop (run is_blank text) text)

-- where that name ends
abbrev pub name_end : List ℕ → ℕ
name_end text = run is_blank text + length (name_behind text)

-- what a macro may be named: an identifier that no directive has
abbrev pub is_macro_name : List ℕ → Bool
is_macro_name name = is_identifier name && is_use (directive_of name)

-- the definition of a macro; a macro with arguments is refused
abbrev pub define_piece : (start : ℕ) → List ℕ → Piece
define_piece start text =
    if is_macro_name (name_behind text) && not (slice_index text (name_end text) == 40)
    then define (name_behind text) (take (define_text_length (drop (name_end text) text)) (drop (name_end text) text)) (start + name_end text + define_text_length (drop (name_end text) text))
    else fault UnknownDirective 0

-- one or more bytes from 32 to 126
abbrev pub is_file_name : List ℕ → Bool
is_file_name name = not (length name == 0) && list_all (λ byte. nat_le 32 byte && nat_le byte 126) name

-- the inclusion of the file whose name is in the quotes, where before is the number of bytes before it
abbrev pub file_piece : (before : ℕ) → (name : List ℕ) → Piece
file_piece before name = if is_file_name name then inclusion name (before + length name + 1) else fault UnknownDirective 0

abbrev pub include_piece : (start : ℕ) → List ℕ → Piece
include_piece start text =
    if slice_index text (run is_blank text) == 34
    then up_to (λ n. file_piece (start + run is_blank text + 1) (take (n - 1) (drop (run is_blank text + 1) text))) (fault BadByte (start + run is_blank text)) (through_quote 0 false (drop (run is_blank text + 1) text))
    else fault UnknownDirective 0

-- a directive of conditions, with where its name ends
abbrev pub condition_piece : Directive → (start : ℕ) → List ℕ → Option Piece
condition_piece Ifdef start text = Some (condition (if_defined (name_behind text)) (start + name_end text))
condition_piece Ifndef start text = Some (condition (if_undefined (name_behind text)) (start + name_end text))
condition_piece Elsif start text = Some (condition (else_if_defined (name_behind text)) (start + name_end text))
condition_piece Else start text = Some (condition otherwise start)
condition_piece Endif start text = Some (condition end_of_condition start)
condition_piece Define start text = None
condition_piece Undef start text = None
condition_piece Include start text = None
condition_piece PassedOver start text = None
condition_piece Refused start text = None
condition_piece Use start text = None

-- any other directive
abbrev pub other_piece : Directive → (word : List ℕ) → (start : ℕ) → List ℕ → Piece
other_piece Define word start text = define_piece start text
other_piece Undef word start text = undefine (name_behind text) (start + name_end text)
other_piece Include word start text = include_piece start text
other_piece PassedOver word start text = blank (start + run is_within_line text)
other_piece Refused word start text = fault UnknownDirective 0
other_piece Use word start text = expansion word start
other_piece Ifdef word start text = fault UnknownDirective 0
other_piece Ifndef word start text = fault UnknownDirective 0
other_piece Elsif word start text = fault UnknownDirective 0
other_piece Else word start text = fault UnknownDirective 0
other_piece Endif word start text = fault UnknownDirective 0

abbrev pub or_piece : Option Piece → Piece → Piece
or_piece None other = other
or_piece (Some piece) other = piece

-- the word after a grave accent
abbrev pub directive_word : List ℕ → List ℕ
directive_word text = name_in (drop 1 text)

-- the directive or the use of a macro at a grave accent
unfoldable pub accent_piece : List ℕ → Piece
accent_piece text =
    if length (directive_word text) == 0 then fault BadByte 0
    else or_piece (condition_piece (directive_of (directive_word text)) (length (directive_word text) + 1) (drop (length (directive_word text) + 1) text))
    (other_piece (directive_of (directive_word text)) (directive_word text) (length (directive_word text) + 1) (drop (length (directive_word text) + 1) text))

-- what begins with a mark
abbrev pub mark_piece : List ℕ → Piece
mark_piece text =
    if slice_index text 0 == 47 then slash_piece text
    else if slice_index text 0 == 40 then parenthesis_piece text
    else if slice_index text 0 == 34 then quoted_piece text
    else if slice_index text 0 == 96 then accent_piece text
    else if slice_index text 0 == 39 then based_piece text
    else if slice_index text 0 == 36 then system_piece text
    else operator_piece text

-- what is at the front of a text that is read
unfoldable pub read_piece : List ℕ → Piece
read_piece text =
    if is_white (slice_index text 0) then blank (run is_white text)
    else if begins_name (slice_index text 0) then word_piece text
    else if is_ascii_digit (slice_index text 0) then token_of kind.Decimal text (run is_decimal_part text)
    else mark_piece text

-- the byte begins no comment, string or directive
abbrev pub is_plain : ℕ → Bool
is_plain byte = not (byte == 47 || byte == 34 || byte == 96)

abbrev pub left_out_slash : List ℕ → Piece
left_out_slash text =
    if slice_index text 1 == 47 then blank (run is_within_line text)
    else if slice_index text 1 == 42 then comment_piece 42 47 text
    else blank 1

abbrev pub left_out_quote : List ℕ → Piece
left_out_quote text = up_to (λ n. blank (n + 1)) (blank 1) (through_quote 0 false (drop 1 text))

abbrev pub left_out_accent : List ℕ → Piece
left_out_accent text =
    or_piece (condition_piece (directive_of (directive_word text)) (length (directive_word text) + 1) (drop (length (directive_word text) + 1) text)) (blank 1)

-- what is at the front of a text that a condition leaves out: only directives of conditions are read there
unfoldable pub left_out_piece : List ℕ → Piece
left_out_piece text =
    if slice_index text 0 == 47 then left_out_slash text
    else if slice_index text 0 == 34 then left_out_quote text
    else if slice_index text 0 == 96 then left_out_accent text
    else blank (run is_plain (drop 1 text) + 1)
