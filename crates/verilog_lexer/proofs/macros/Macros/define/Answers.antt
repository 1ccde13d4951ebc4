use Rattle.std.proofs.Common.{ap, ◌∙◌}
use Rattle.std.specs.Option.{option_map}
use Rattle.verilog_lexer.proofs.MacroLemmas.{fun_ext, option_map-cond}
use Rattle.verilog_lexer.proofs.macros.Macros.define.Goals as goal

pub returns-clause-ok : goal.returns-clause-ok
returns-clause-ok c = fun_ext (λ asked. ap (option_map (λ text. text.now)) (c.in_ok-insert.ensures.updates.0 (record c.args.name { now = asked })) ∙ option_map-cond (λ text. text.now) _ c.args.text _)
