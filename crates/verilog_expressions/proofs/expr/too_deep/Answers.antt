use Rattle.std.proofs.Common.{sym, ◌∙◌}
use Rattle.verilog_grammar.specs.Language.{expression as an_expression}
use Rattle.verilog_expressions.proofs.Gives.{too_deep_at}
use Rattle.verilog_expressions.proofs.expr.too_deep.Goals as goal

pub returns-then-begins_expression : goal.returns-then-begins_expression
returns-then-begins_expression c = rw c.deep.ensures (too_deep_at an_expression c.args.cursor.now (sym c.begins_expression.ensures ∙ c.if-begins_expression.true))
