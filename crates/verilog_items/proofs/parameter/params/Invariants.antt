use Rattle.std.proofs.Common.{◌≡◌, ◌++◌, map, length}
use Rattle.grammar_rules.specs.Rule.{going}
use Rattle.grammar_rules.specs.Grammar.{reads}
use Rattle.verilog_grammar.specs.Language.{verilog}
use Rattle.verilog_grammar.specs.Verilog.{grammar}
use Rattle.verilog_tree.specs.View.{params_view}
use Rattle.verilog_grammar.specs.Parts.{listed}
use Rattle.verilog_grammar.specs.Modules.{valued_rule, param_of}
use Rattle.verilog_items.specs.Declarations.{type_view, param_valueds}
use Rattle.verilog_items.proofs.Listed.{behind}
use Rattle.verilog_items.proofs.parameter.params.Given as goal

abbrev pub invariant-more : goal.invariant-more
invariant-more l = record {
  read : going ◌++◌ (param_valueds l.all.items) (reads verilog grammar l.depth (behind valued_rule) l.cursor) ≡ reads verilog grammar l.depth (listed valued_rule) l.fn.cursor;
  typed : params_view l.all.items ≡ map (param_of l.local (type_view l.kind)) (param_valueds l.all.items);
}

abbrev pub decreases-more : goal.decreases-more
decreases-more l = length l.cursor
