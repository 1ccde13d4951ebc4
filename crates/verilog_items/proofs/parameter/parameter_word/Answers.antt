use Rattle.std.proofs.Common.{◌∙◌, ap}
use Rattle.verilog_grammar.specs.Modules.{is_local}
use Rattle.verilog_expressions.proofs.Taken.{kind_taken}
use Rattle.verilog_items.proofs.parameter.parameter_word.Goals as goal

pub returns-clause-local : goal.returns-clause-local
returns-clause-local c = c.is_local-local.ensures ∙ ap is_local (c.kind.ensures ∙ kind_taken _ _ _ c.in_ok-word.ensures)
