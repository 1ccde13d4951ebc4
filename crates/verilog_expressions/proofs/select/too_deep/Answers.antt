use Rattle.std.proofs.Common.{sym, ◌∙◌}
use Rattle.verilog_grammar.specs.Language.{target as a_target}
use Rattle.verilog_expressions.proofs.Gives.{too_deep_at}
use Rattle.verilog_expressions.proofs.select.too_deep.Goals as goal

pub returns-then-begins_target : goal.returns-then-begins_target
returns-then-begins_target c = rw c.deep.ensures (too_deep_at a_target c.args.cursor.now (sym c.begins_target.ensures ∙ c.if-begins_target.true))
