use Rattle.std.proofs.Common.{◌∙◌, ap}
use Rattle.verilog_grammar.specs.Statements.{case_kind}
use Rattle.verilog_expressions.proofs.Taken.{kind_taken}
use Rattle.verilog_parser.proofs.statement.case_word.Goals as goal

pub returns-clause-kind : goal.returns-clause-kind
returns-clause-kind c = c.case_kind-kind.ensures ∙ ap case_kind (c.kind.ensures ∙ kind_taken _ _ _ c.in_ok-word.ensures)
