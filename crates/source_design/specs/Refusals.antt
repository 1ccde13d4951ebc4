-- Why sources are refused, whose files are all there.
use Rattle.std.specs.Prelude.{◌≡◌, ◌≢◌, ℕ, List, Option, None, Some, Ok, Err}
use Rattle.std.specs.Option.{option_map}
use Rattle.cov_host.specs.declared.place.Place.{Place}
use Rattle.flat_design.specs.Fault.{of_constant, of_modules}
use Rattle.verilog_lexer.specs.Defines.{DefineText}
use Rattle.verilog_lexer.specs.Reading.{tokens_of}
use Rattle.verilog_lexer.specs.Sources.{SourceText, name_of}
use Rattle.verilog_lexer.specs.Tokens.{Lexeme}
use Rattle.verilog_lexer.specs.declared.fault.LexFault.TheVariants as lex_fault
use Rattle.verilog_lexer.specs.declared.fault.LexKind.TheVariants.{IncludeMissing}
use Rattle.verilog_parser.specs.Parses.{StandsIn}
use Rattle.verilog_parser.specs.declared.fault.ParseFault.TheVariants as parse_fault
use Rattle.source_design.specs.Accepted.{AreFaulty}
use Rattle.source_design.specs.declared.fault.SourceKind.{SourceKind}
use Rattle.source_design.specs.declared.fault.SourceKind.TheVariants as kind
use Rattle.source_design.specs.declared.fault.SourceRefusal.{SourceRefusal}
use Rattle.source_design.specs.declared.fault.SourceSpot.{SourceSpot}

-- the place by the name of its source
abbrev pub spot_of : List SourceText → Option Place → Option SourceSpot
spot_of sources None = None
spot_of sources (Some place) = option_map (λ name. record { file = name; line = place.line; column = place.column }) (name_of sources place.source)

-- the fault at the place is the first one of the lexer, of the parser, or of elaboration
abbrev pub IsFoundAt : List SourceText → List DefineText → List ℕ → SourceKind → Option Place → Option (List ℕ) → Type 0
IsFoundAt sources defines top (kind.Lex k) place detail = tokens_of sources defines ≡ Err (lex_fault.At k place detail)
IsFoundAt sources defines top (kind.Parse k) place detail = (tokens : List Lexeme) × (tokens_of sources defines ≡ Ok tokens) × StandsIn tokens (parse_fault.At k place detail)
IsFoundAt sources defines top (kind.Const k) (Some place) None = AreFaulty sources defines top (of_constant k place)
IsFoundAt sources defines top (kind.Elab k) place (Some name) = AreFaulty sources defines top (of_modules k place name)
IsFoundAt sources defines top k place detail = ⊥

-- the sources with this top have a fault, other than a missing file, at the place that is reported
pub record AreRefused (sources : List SourceText) (defines : List DefineText) (top : List ℕ) (refusal : SourceRefusal) : Type 0 where
  pub place : Option Place
  pub found : IsFoundAt sources defines top refusal.kind place refusal.detail
  pub no_file : refusal.kind ≢ kind.Lex IncludeMissing
  pub spot : refusal.spot ≡ spot_of sources place
