-- The places of the tokens of sources.
-- Bytes are written as numbers: 96 grave accent.
use Rattle.std.specs.Prelude.{ℕ, ◌≡◌, ◌<◌, ◌+◌, List, [], ◌∷◌, ◌++◌, Some, true, false, length, slice_get}
use Rattle.std.specs.List.{All}
use Rattle.cov_host.specs.Identifier.{has_name_form}
use Rattle.cov_host.specs.declared.place.Place.{Place}
use Rattle.verilog_lexer.specs.Directive.{directive_of}
use Rattle.verilog_lexer.specs.Sources.{SourceText}
use Rattle.verilog_lexer.specs.Spot.{after_all}
use Rattle.verilog_lexer.specs.Tokens.{Lexeme}
use Rattle.verilog_lexer.specs.declared.directive.Directive.TheVariants.{Use}

-- where the file with this number begins
abbrev pub file_start : ℕ → Place
file_start number = record { source = number; line = 1; column = 1 }

-- the place after bytes of a file that begin at a place
abbrev pub place_behind : Place → List ℕ → Place
place_behind place bytes = (after_all (record { place = place; inside = false }) bytes).place

-- the source has the bytes at the place, where sources are counted from 1
pub record StandsAt (sources : List SourceText) (bytes : List ℕ) (place : Place) : Type 0 where
  pub number : ℕ
  pub source : SourceText
  pub before : List ℕ
  pub behind : List ℕ
  pub numbered : slice_get sources number ≡ Some source
  pub text : source.bytes ≡ before ++ bytes ++ behind
  pub counted : place ≡ place_behind (file_start (number + 1)) before

-- the name of a macro, which no directive has
pub record IsMacroName (name : List ℕ) : Type 0 where
  pub form : has_name_form name ≡ true
  pub used : directive_of name ≡ Use

-- the tokens that one reading of a file gives from a place on
pub data AreRead (sources : List SourceText) : Place → List Lexeme → Type 0 where
  nothing : {place : Place} → AreRead sources place []
  -- bytes that give none
  blank_bytes : {place : Place} {bytes : List ℕ} {others : List Lexeme} → StandsAt sources bytes place
      → AreRead sources (place_behind place bytes) others → AreRead sources place others
  -- a token, at the place of its text
  one_token : {token : Lexeme} {others : List Lexeme} → StandsAt sources token.text token.place → 0 < length token.text
      → AreRead sources (place_behind token.place token.text) others → AreRead sources token.place (token ∷ others)
  -- a grave accent and the name of a macro, whose tokens all have the place of the use
  macro_use : {place : Place} {name : List ℕ} {others : List Lexeme} (inside : List Lexeme) → IsMacroName name → StandsAt sources (96 ∷ name) place → All (λ token. token.place ≡ place) inside
      → AreRead sources (place_behind place (96 ∷ name)) others → AreRead sources place (inside ++ others)
  -- the inclusion of a file, which is a reading of its own
  inclusion : {place : Place} {number : ℕ} {directive : List ℕ} {inside others : List Lexeme} → StandsAt sources directive place → AreRead sources (file_start number) inside
      → AreRead sources (place_behind place directive) others → AreRead sources place (inside ++ others)

-- the tokens of the files that are read by themselves, one after the other, from the source with this number on
pub data AreReadInTurn (sources : List SourceText) : ℕ → List Lexeme → Type 0 where
  no_source : {number : ℕ} → AreReadInTurn sources number []
  -- a file that is read only where it is included
  include_passed : {number : ℕ} {others : List Lexeme} → AreReadInTurn sources (number + 1) others → AreReadInTurn sources number others
  root_read : {number : ℕ} {inside others : List Lexeme} → AreRead sources (file_start number) inside → AreReadInTurn sources (number + 1) others
      → AreReadInTurn sources number (inside ++ others)
