-- The text of a macro, which a directive defines (IEEE 1364-2001 clause 19.3.1).
-- Bytes are written as numbers: 10 line feed, 34 double quote, 42 star, 47 slash, 92 backslash.
use Rattle.std.specs.Prelude.{ℕ, ◌+◌, Bool, true, false, ◌&&◌, ◌==◌, List, [], ◌∷◌, Option, None, Some, if◌then◌else◌, slice_index}
use Rattle.std.specs.Option.{option_map_or}
use Rattle.verilog_lexer.specs.declared.define_text.Within.{Within}
use Rattle.verilog_lexer.specs.declared.define_text.Within.TheVariants.{Code, Quote, Comment}
use Rattle.verilog_lexer.specs.declared.define_text.Standing.{Standing}

-- the byte belongs to the text, and what follows is part of this, the next byte being taken along or not
abbrev pub goes_on : Within → (taken : Bool) → Option Standing
goes_on within taken = Some (record { within = within; taken = taken })

-- outside of strings and comments a comment to the end of the line ends the text
abbrev pub turn_in_code : ℕ → ℕ → Option Standing
turn_in_code byte next =
    if byte == 47 && next == 47 then None
    else if byte == 47 && next == 42 then goes_on Comment true
    else if byte == 34 then goes_on Quote false
    else goes_on Code false

-- in a string a backslash takes the next byte with it
abbrev pub turn_in_quote : ℕ → Option Standing
turn_in_quote byte =
    if byte == 92 then goes_on Quote true
    else if byte == 34 then goes_on Code false
    else goes_on Quote false

-- in a comment between two marks
abbrev pub turn_in_comment : ℕ → ℕ → Option Standing
turn_in_comment byte next = if byte == 42 && next == 47 then goes_on Code true else goes_on Comment false

abbrev pub turn_within : Within → ℕ → ℕ → Option Standing
turn_within Code byte next = turn_in_code byte next
turn_within Quote byte next = turn_in_quote byte
turn_within Comment byte next = turn_in_comment byte next

-- what the next line begins within: a string is on one line
abbrev pub on_next_line : Within → Within
on_next_line Code = Code
on_next_line Quote = Code
on_next_line Comment = Comment

-- whether the text goes on with a byte: the line's end ends it, unless a backslash is directly before
abbrev pub turn : Standing → ℕ → ℕ → Option Standing
turn state byte next =
    if byte == 92 && next == 10 then goes_on (on_next_line state.within) true
    else if state.taken then goes_on state.within false
    else if byte == 10 then None
    else turn_within state.within byte next

-- how many bytes the text of a macro has, after those that are passed
abbrev pub text_length : (passed : ℕ) → Standing → List ℕ → ℕ
text_length passed state [] = passed
text_length passed state (byte ∷ others) =
    option_map_or (λ next. text_length (passed + 1) next others) (turn state byte (slice_index others 0)) passed

-- how many bytes at the front are the text of a macro
unfoldable pub define_text_length : List ℕ → ℕ
define_text_length text = text_length 0 (record { within = Code; taken = false }) text
