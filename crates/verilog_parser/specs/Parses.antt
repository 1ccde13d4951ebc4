-- What tokens say, and where the fault of tokens that are no modules is.
use Rattle.std.specs.Prelude.{◌≡◌, ℕ, List, ◌∷◌, drop, Option, Some, None, Result, Ok, Err}
use Rattle.cov_host.specs.declared.place.Place.{Place}
use Rattle.verilog_lexer.specs.Tokens.{Lexeme}
use Rattle.verilog_tree.specs.Tree as t
use Rattle.verilog_tree.specs.View.{modules_view}
use Rattle.verilog_tree.specs.declared.module.Module.{Module}
use Rattle.grammar_rules.specs.Grammar.{IsSpelled, IsUnexpected, IsTooDeep, EndsEarly}
use Rattle.grammar_rules.specs.Deep.{IsFirstTooDeep}
use Rattle.grammar_rules.specs.Around.{IsDeepInEach}
use Rattle.verilog_grammar.specs.Kind.{kind_of}
use Rattle.verilog_grammar.specs.Language.{verilog}
use Rattle.verilog_grammar.specs.Verilog.{grammar}
use Rattle.verilog_parser.specs.LeftOut.{form_of}
use Rattle.verilog_parser.specs.declared.fault.ParseFault.{ParseFault}
use Rattle.verilog_parser.specs.declared.fault.ParseFault.TheVariants as fault
use Rattle.verilog_parser.specs.declared.fault.ParseKind.TheVariants.{Unexpected, EarlyEnd, TooDeep, LeftOut}

-- the tokens spell the modules, and statements and expressions nest no deeper than 256
abbrev pub AreModules : List Lexeme → List t.Module → Type 0
AreModules tokens modules = IsSpelled verilog grammar 256 tokens modules

-- The tokens before the token at the place go on to modules, and with it they do not; it begins this form that is left out, or none.
pub record IsRefused (tokens : List Lexeme) (place : Place) (form : Option (List ℕ)) : Type 0 where
  pub at : ℕ
  pub token : Lexeme
  pub others : List Lexeme
  pub stands : drop at tokens ≡ token ∷ others
  pub is_place : token.place ≡ place
  pub is_form : form_of (kind_of token) ≡ form
  pub refused : IsUnexpected verilog grammar tokens at

-- The tokens up to this one go on to modules, but to none that nest no deeper than 256.
abbrev pub NestTooDeep : List Lexeme → ℕ → Type 0
NestTooDeep tokens at = IsTooDeep verilog grammar 256 tokens at

-- With this token, the part at the place is the first that nests too deep, and has at least 256 parts around it in all modules that the tokens up to it go on to.
abbrev pub IsTooDeepAt : List Lexeme → ℕ → Place → Type 0
IsTooDeepAt tokens at place = IsFirstTooDeep verilog grammar 256 tokens (drop at tokens) place × IsDeepInEach verilog grammar 256 tokens at place

-- the fault is in the tokens
abbrev pub StandsIn : List Lexeme → ParseFault → Type 0
StandsIn tokens fault.NoMemory = Unit {0}
StandsIn tokens (fault.At Unexpected (Some place) None) = IsRefused tokens place None
StandsIn tokens (fault.At LeftOut (Some place) (Some form)) = IsRefused tokens place (Some form)
StandsIn tokens (fault.At EarlyEnd None None) = EndsEarly verilog grammar tokens
StandsIn tokens (fault.At TooDeep (Some place) None) = (at : ℕ) × NestTooDeep tokens at × IsTooDeepAt tokens at place
StandsIn tokens (fault.At kind place detail) = ⊥

-- the fault of this token, with which no rule goes on
abbrev pub IsRefusalOf : Lexeme → ParseFault → Type 0
IsRefusalOf token fault.NoMemory = Unit {0}
IsRefusalOf token (fault.At Unexpected (Some place) None) = (token.place ≡ place) × (form_of (kind_of token) ≡ None)
IsRefusalOf token (fault.At LeftOut (Some place) (Some form)) = (token.place ≡ place) × (form_of (kind_of token) ≡ Some form)
IsRefusalOf token (fault.At kind place detail) = ⊥

-- the answer is these modules, if it is not want of memory
abbrev pub IsAnswer : List t.Module → Result (List Module) ParseFault → Type 0
IsAnswer modules (Ok found) = modules_view found ≡ modules
IsAnswer modules (Err f) = f ≡ fault.NoMemory
