-- Which sources are accepted, and the design of accepted sources.
use Rattle.std.specs.Prelude.{◌≡◌, ℕ, List, Ok, Err}
use Rattle.design_model.specs.View.{design_view}
use Rattle.design_model.specs.declared.design.Design.{Design}
use Rattle.flat_design.specs.Fault.{Fault}
use Rattle.flat_design.specs.Faults.{answer}
use Rattle.verilog_lexer.specs.Defines.{DefineText}
use Rattle.verilog_lexer.specs.Reading.{tokens_of}
use Rattle.verilog_lexer.specs.Sources.{SourceText}
use Rattle.verilog_lexer.specs.Tokens.{Lexeme}
use Rattle.verilog_tree.specs.Tree as t
use Rattle.verilog_parser.specs.Parses.{AreModules}

-- the sources have tokens, and these spell the modules within the depth
pub record AreAccepted (sources : List SourceText) (defines : List DefineText) (modules : List t.Module) : Type 0 where
  pub tokens : List Lexeme
  pub lexed : tokens_of sources defines ≡ Ok tokens
  pub spelled : AreModules tokens modules

-- the sources are accepted, and their modules with this top are this flat design
pub record StandFor (sources : List SourceText) (defines : List DefineText) (top : List ℕ) (design : Design) : Type 0 where
  pub modules : List t.Module
  pub accepted : AreAccepted sources defines modules
  pub flat : answer modules top ≡ Ok (design_view design)

-- the sources are accepted, and this is the first fault of their modules with this top
pub record AreFaulty (sources : List SourceText) (defines : List DefineText) (top : List ℕ) (fault : Fault) : Type 0 where
  pub modules : List t.Module
  pub accepted : AreAccepted sources defines modules
  pub first : answer modules top ≡ Err fault
