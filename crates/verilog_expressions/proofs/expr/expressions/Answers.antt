use Rattle.std.proofs.Common.{arith}
use Rattle.verilog_grammar.specs.Language.{expression as an_expression}
use Rattle.verilog_expressions.proofs.Lowness.{read_low}
use Rattle.verilog_expressions.proofs.expr.expressions.Goals as goal

pub with_others-requires-clause-first : goal.with_others-requires-clause-first
with_others-requires-clause-first c = read_low c.args.depth an_expression _ _ _ (omega arith) c.in_ok-first.ensures
