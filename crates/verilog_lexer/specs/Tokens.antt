-- Tokens one after the other, and what is wrong with one (IEEE 1364-2001 clause 2).
use Rattle.std.specs.Prelude.{ℕ, ◌-◌, ◌^◌, nat_lt, Bool, true, false, not, ◌&&◌, ◌==◌, List, [], ◌∷◌, ◌++◌, Option, None, Some, Ok, if◌then◌else◌, length, slice_get, take, is_some}
use Rattle.cov_host.specs.declared.place.Place.{Place}
use Rattle.verilog_lexer.specs.Answer.{Answer, ◌>>=◌, fault_at}
use Rattle.verilog_lexer.specs.Number.{number_within}
use Rattle.verilog_lexer.specs.Based.{is_sound_based}
use Rattle.verilog_lexer.specs.Spot.{after_all}
use Rattle.verilog_lexer.specs.declared.spot.Spot.{Spot}
use Rattle.verilog_lexer.specs.declared.token.TokenKind.{TokenKind}
use Rattle.verilog_lexer.specs.declared.token.TokenKind.TheVariants.{Identifier, Keyword, System, Decimal, Based, Quoted, Operator}
use Rattle.verilog_lexer.specs.declared.fault.LexKind.TheVariants.{BadByte, BadNumber, TooManyTokens}

-- a token without where its text lies in memory
pub record Lexeme : Type 0 where
  pub kind : TokenKind
  pub text : List ℕ
  pub place : Place

-- the last token
abbrev pub last_of : List Lexeme → Option Lexeme
last_of tokens = slice_get tokens (length tokens - 1)

-- the token, if it is a plain decimal number
abbrev pub decimal_of : Option Lexeme → Option Lexeme
decimal_of None = None
decimal_of (Some token) = if_decimal token.kind token where
  if_decimal : TokenKind → Lexeme → Option Lexeme
  if_decimal Decimal token = Some token
  if_decimal Identifier token = None
  if_decimal Keyword token = None
  if_decimal System token = None
  if_decimal Based token = None
  if_decimal Quoted token = None
  if_decimal Operator token = None

abbrev pub is_from_one : Option ℕ → Bool
is_from_one None = false
is_from_one (Some n) = not (n == 0)

-- the number of bits of a literal is from 1 to 128
abbrev pub is_size : List ℕ → Bool
is_size text = is_from_one (number_within 128 text)

-- the place of a fault, unless all is well
abbrev pub unless : Bool → Place → Option Place
unless well place = if well then None else Some place

-- where a bad literal begins that ends with this based number, if it is bad; a decimal number before it is its size
abbrev pub bad_based : (size : Option Lexeme) → (text : List ℕ) → Place → Option Place
bad_based None text place = unless (is_sound_based false text) place
bad_based (Some size) text place = unless (is_size size.text && is_sound_based true text) size.place

-- where a bad number begins, if the token that follows these tokens makes one
abbrev pub bad_number : List Lexeme → TokenKind → (text : List ℕ) → Place → Option Place
bad_number before Decimal text place = unless (is_some (number_within (2 ^ 32 - 1) text)) place
bad_number before Based text place = bad_based (decimal_of (last_of before)) text place
bad_number before Identifier text place = None
bad_number before Keyword text place = None
bad_number before System text place = None
bad_number before Quoted text place = None
bad_number before Operator text place = None

abbrev pub is_identifier_kind : TokenKind → Bool
is_identifier_kind Identifier = true
is_identifier_kind Decimal = false
is_identifier_kind Keyword = false
is_identifier_kind System = false
is_identifier_kind Based = false
is_identifier_kind Quoted = false
is_identifier_kind Operator = false

-- an identifier of more than 255 bytes
abbrev pub is_too_long : TokenKind → List ℕ → Bool
is_too_long kind text = is_identifier_kind kind && nat_lt 255 (length text)

abbrev pub sound_number : Option Place → Answer (Unit {0})
sound_number None = Ok tt
sound_number (Some place) = fault_at BadNumber place

-- at most 4,194,304 tokens
abbrev pub room_for_one : List Lexeme → Place → Answer (Unit {0})
room_for_one tokens place = if length tokens == 4194304 then fault_at TooManyTokens place else Ok tt

-- the fault is at the 256th byte of the text, which begins with the token
abbrev pub short_enough : Spot → (text : List ℕ) → TokenKind → List ℕ → Answer (Unit {0})
short_enough spot text kind word = if is_too_long kind word then fault_at BadByte (after_all spot (take 255 text)).place else Ok tt

-- the tokens with one more at their end, with which the text begins
abbrev pub with_token : Spot → (text : List ℕ) → TokenKind → List ℕ → List Lexeme → Answer (List Lexeme)
with_token spot text kind word tokens =
    sound_number (bad_number tokens kind word spot.place) >>= λ _.
    room_for_one tokens spot.place >>= λ _.
    short_enough spot text kind word >>= λ _.
    Ok (tokens ++ record { kind = kind; text = word; place = spot.place } ∷ [])
