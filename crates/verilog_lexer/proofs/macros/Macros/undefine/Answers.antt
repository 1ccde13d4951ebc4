use Rattle.std.proofs.Common.{ap, ◌∙◌}
use Rattle.std.specs.Option.{option_map}
use Rattle.verilog_lexer.proofs.MacroLemmas.{fun_ext, option_map-cond_none}
use Rattle.verilog_lexer.proofs.macros.Macros.undefine.Goals as goal

pub returns : goal.returns
returns c = fun_ext (λ asked. ap (option_map (λ text. text.now)) (c.swap_remove.ensures.updates.0 (record c.args.name { now = asked })) ∙ option_map-cond_none (λ text. text.now) _ _)
