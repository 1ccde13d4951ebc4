use Rattle.std.proofs.Common.{map, refl}
use Rattle.std.proofs.lemmas.Result.{err_from_is_err_and}
use Rattle.verilog_grammar.specs.declared.kind.Kind.TheVariants as k
use Rattle.grammar_rules.specs.Rule.{made}
use Rattle.verilog_grammar.specs.Parts.{listed}
use Rattle.verilog_grammar.specs.Statements.{set_rule}
use Rattle.verilog_grammar.specs.Modules.{continuous_item_of}
use Rattle.verilog_parser.proofs.Processes.{assign_reads, before_fails, before_lacks}
use Rattle.verilog_parser.proofs.process.continuous_items.Goals as goal

pub returns-in_err-items : goal.returns-in_err-items
returns-in_err-items c =
    let p = err_from_is_err_and c.from_residual-in_err-items.result c.from_residual-in_err-items.ensures.1 in
    rw (p.1, p.2, assign_reads _ _ _ _ c.in_ok-word.ensures) (before_fails _ c.args.depth (made (map (continuous_item_of c.in_ok-word.word.place)) (listed set_rule)) k.Semicolon c.take.new.self c.in_err-items.ensures)

pub returns-in_err-take : goal.returns-in_err-take
returns-in_err-take c =
    let p = err_from_is_err_and c.from_residual-in_err-take.result c.from_residual-in_err-take.ensures.1 in
    rw (p.1, p.2, assign_reads _ _ _ _ c.in_ok-word.ensures) (before_lacks _ c.args.depth (made (map (continuous_item_of c.in_ok-word.word.place)) (listed set_rule)) k.Semicolon c.take.new.self _ _ c.in_ok-items.ensures c.in_err-take.ensures)

pub returns : goal.returns
returns c = rw (assign_reads _ _ _ _ c.in_ok-word.ensures, c.in_ok-items.ensures, c.in_ok-take.ensures) refl
