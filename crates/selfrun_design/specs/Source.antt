-- What the text of a selfrun means.
use Rattle.std.specs.Prelude.{◌≡◌, true, List, [], ◌∷◌, Ok, codes}
use Rattle.std.specs.Global.{Global}
use Rattle.design_model.specs.View.{design_view}
use Rattle.design_model.specs.declared.design.Design.{Design}
use Rattle.flat_design.specs.Faults.{answer}
use Rattle.selfrun_files.specs.Files.{source_name}
use Rattle.selfrun_files.specs.Source.{source_text}
use Rattle.grammar_rules.specs.Grammar.{IsSpelled}
use Rattle.verilog_grammar.specs.Language.{verilog}
use Rattle.verilog_grammar.specs.Verilog.{grammar}
use Rattle.verilog_lexer.specs.Reading.{tokens_of}
use Rattle.verilog_lexer.specs.Sources.{SourceText}
use Rattle.verilog_lexer.specs.Tokens.{Lexeme}
use Rattle.verilog_tree.specs.Tree as t
use Rattle.selfrun_design.specs.Selfrun.{selfrun}

-- the one source
abbrev pub source : SourceText
source = record { name = source_name; bytes = source_text; root = true }

-- it has tokens, these spell modules, and the flat design of these is the design
pub record StandsForSelfrun : Type 0 where
  pub tokens : List Lexeme
  pub modules : List t.Module
  pub lexed : tokens_of (source ∷ []) [] ≡ Ok tokens
  pub spelled : IsSpelled verilog grammar 256 tokens modules
  pub flat : answer modules (codes "selfrun") ≡ Ok selfrun

-- with an allocator there is a design of the code that is seen as the design
abbrev pub HasCode : Type 0
HasCode = Global → (design : Design) × (design_view design ≡ selfrun)
