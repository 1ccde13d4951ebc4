use Rattle.std.proofs.Common.{map, refl, sym, ◌∙◌}
use Rattle.std.proofs.lemmas.List.{append-nil}
use Rattle.std.proofs.lemmas.Result.{err_from_is_err_and}
use Rattle.grammar_rules.proofs.Language.{falls}
use Rattle.grammar_rules.proofs.Loops.{one_more, no_more}
use Rattle.verilog_tree.specs.View.{item_view, items_view}
use Rattle.verilog_grammar.specs.declared.kind.Kind.TheVariants as k
use Rattle.verilog_grammar.specs.Language.{verilog}
use Rattle.verilog_grammar.specs.Verilog.{grammar}
use Rattle.verilog_grammar.specs.Parts.{after}
use Rattle.verilog_grammar.specs.Statements.{set_rule}
use Rattle.verilog_grammar.specs.Modules.{continuous_item_of}
use Rattle.verilog_grammar.proofs.Verilog.{tables, passes}
use Rattle.verilog_parser.proofs.Repeated.{begun, turn_fails}
use Rattle.verilog_parser.proofs.Processes.{push_made, made_first, made_pushed}
use Rattle.verilog_parser.proofs.process.assigned.Goals as goal

pub more-init : goal.more-init
more-init c =
    begun (push_made (continuous_item_of c.args.place)) (map (continuous_item_of c.args.place)) _ set_rule (after k.Comma set_rule) _ _ _ _
    (made_first item_view (continuous_item_of c.args.place) _ _ _ _ c.new-items.ensures.items c.in_ok-push.ensures.items c.continuous.ensures) c.in_ok-first.ensures

pub more-preserved : goal.more-preserved
more-preserved c =
    one_more verilog grammar tables passes (push_made (continuous_item_of c.args.place)) _ (after k.Comma set_rule) refl refl _ _ _ _ _ _
    (made_pushed item_view (continuous_item_of c.args.place) _ _ _ _ c.in_ok-push-2.ensures.items c.continuous-in-more.ensures) (sym c.sees.ensures ∙ c.more-test.true) c.in_ok-next.ensures c.more.invariant

pub more-smaller : goal.more-smaller
more-smaller c = falls verilog grammar tables passes _ (after k.Comma set_rule) refl _ _ _ c.in_ok-next.ensures

pub returns : goal.returns
returns c =
    let done = no_more verilog grammar tables passes (push_made (continuous_item_of c.args.place)) _ (after k.Comma set_rule) refl refl (items_view c.more.items.items) _ _ (sym c.sees.ensures ∙ c.more-test.false) c.more.invariant in
    rw append-nil at done

pub returns-in_err-next : goal.returns-in_err-next
returns-in_err-next c =
    let p = err_from_is_err_and c.from_residual-in_err-next.result c.from_residual-in_err-next.ensures.1 in
    rw (p.1, p.2) (turn_fails (push_made (continuous_item_of c.args.place)) _ (after k.Comma set_rule) refl refl (items_view c.more.items.items) _ _ _ (sym c.sees.ensures ∙ c.more-test.true) c.in_err-next.ensures c.more.invariant)
