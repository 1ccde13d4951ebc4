-- What the texts of the tokens of sources are.
use Rattle.std.specs.Prelude.{ℕ, ◌≡◌, true, List, [], ◌∷◌, ◌++◌, None, Some, slice_get}
use Rattle.cov_host.specs.Identifier.{is_identifier, is_reserved}
use Rattle.verilog_lexer.specs.Defines.{DefineText}
use Rattle.verilog_lexer.specs.Sources.{SourceText}
use Rattle.verilog_lexer.specs.Tokens.{Lexeme, bad_number}
use Rattle.verilog_lexer.specs.declared.token.TokenKind.TheVariants.{Identifier, Keyword}

-- the text has the part, its bytes one after the other
pub record IsPartOf (text part : List ℕ) : Type 0 where
  pub before : List ℕ
  pub behind : List ℕ
  pub is : text ≡ before ++ part ++ behind

-- the bytes are a part of a source, or of the text of a macro that was defined before
pub data IsTextOf (sources : List SourceText) (defines : List DefineText) (bytes : List ℕ) : Type 0 where
  of_source : (number : ℕ) (source : SourceText) → slice_get sources number ≡ Some source → IsPartOf source.bytes bytes → IsTextOf sources defines bytes
  of_define : (number : ℕ) (define : DefineText) → slice_get defines number ≡ Some define → IsPartOf define.text bytes → IsTextOf sources defines bytes

-- the token may follow these tokens: a name is an identifier, and a number is a literal that fits
pub record IsSound (before : List Lexeme) (token : Lexeme) : Type 0 where
  pub name : token.kind ≡ Identifier → is_identifier token.text ≡ true
  pub keyword : token.kind ≡ Keyword → is_reserved token.text ≡ true
  pub number : bad_number before token.kind token.text token.place ≡ None

-- each of the tokens may follow those before it
abbrev pub AreSound : (before tokens : List Lexeme) → Type 0
AreSound before [] = Unit {0}
AreSound before (token ∷ others) = IsSound before token × AreSound (before ++ token ∷ []) others
