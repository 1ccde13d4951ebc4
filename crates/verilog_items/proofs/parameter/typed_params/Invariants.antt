use Rattle.std.proofs.Common.{◌≡◌, length}
use Rattle.grammar_rules.specs.Rule.{made, going}
use Rattle.grammar_rules.specs.Grammar.{reads}
use Rattle.verilog_grammar.specs.Language.{verilog}
use Rattle.verilog_grammar.specs.Verilog.{grammar}
use Rattle.verilog_grammar.specs.Parts.{listed}
use Rattle.verilog_grammar.specs.Modules.{header_param_rule, header_params, plain_type}
use Rattle.verilog_items.specs.Declarations.{with_params}
use Rattle.verilog_items.proofs.Listed.{behind}
use Rattle.verilog_items.proofs.parameter.typed_params.Given as goal

abbrev pub invariant-more : goal.invariant-more
invariant-more l =
    going with_params l.params (reads verilog grammar l.depth (behind header_param_rule) l.cursor)
    ≡ reads verilog grammar l.depth (made (header_params plain_type) (listed header_param_rule)) l.fn.cursor

abbrev pub decreases-more : goal.decreases-more
decreases-more l = length l.cursor
