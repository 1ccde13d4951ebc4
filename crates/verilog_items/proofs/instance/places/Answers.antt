use Rattle.std.proofs.Common.{◌++◌, sym, ◌∙◌}
use Rattle.std.proofs.lemmas.Result.{err_from_is_err_and}
use Rattle.verilog_tree.specs.View.{expr_option_view, given_view}
use Rattle.verilog_tree.specs.declared.item.Given.{Given}
use Rattle.verilog_grammar.specs.Parts.{an_expression, optional}
use Rattle.verilog_grammar.specs.Modules.{connected_by_place}
use Rattle.verilog_items.proofs.Listed.{viewed, viewed_first, both_pushed, both_none, list_begun, list_more, list_done, behind_falls, comma_fails, item_fails}
use Rattle.verilog_items.proofs.instance.places.Goals as goal

pub more-init : goal.more-init
more-init c = record {
  read = list_begun c.args.depth (optional an_expression) _ _ c.args.cursor.now _ (viewed_first (λ (g : Given). expr_option_view g.value) _ _ _ c.new-all.ensures.items c.in_ok-push.ensures.items) c.in_ok-first.ensures.read;
  unnamed = both_pushed given_view connected_by_place (λ (g : Given). expr_option_view g.value) _ _ _ c.in_ok-push.ensures.items (both_none given_view connected_by_place (λ (g : Given). expr_option_view g.value) _ c.new-all.ensures.items) c.in_ok-first.ensures.unnamed;
}

pub more-preserved : goal.more-preserved
more-preserved c = record {
  read = list_more _ (optional an_expression) _ _ _ _ _ _ _ _ (viewed (λ (g : Given). expr_option_view g.value) _ _ _ c.in_ok-push-2.ensures.items) (sym c.sees.ensures ∙ c.more-test.true) c.in_ok-take.ensures c.in_ok-next.ensures.read c.more.invariant.read;
  unnamed = both_pushed given_view connected_by_place (λ (g : Given). expr_option_view g.value) _ _ _ c.in_ok-push-2.ensures.items c.more.invariant.unnamed c.in_ok-next.ensures.unnamed;
}

pub more-smaller : goal.more-smaller
more-smaller c = behind_falls _ (optional an_expression) _ _ _ _ _ c.in_ok-take.ensures c.in_ok-next.ensures.read

pub returns-clause-read : goal.returns-clause-read
returns-clause-read c = list_done _ (optional an_expression) _ _ _ (sym c.sees.ensures ∙ c.more-test.false) c.more.invariant.read

pub returns-in_err-take-clause-read : goal.returns-in_err-take-clause-read
returns-in_err-take-clause-read c =
    let p = err_from_is_err_and c.from_residual-in_err-take.result c.from_residual-in_err-take.ensures.1 in
    rw (p.1, p.2) (comma_fails ◌++◌ _ (optional an_expression) _ _ _ _ (sym c.sees.ensures ∙ c.more-test.true) c.in_err-take.ensures c.more.invariant.read)

pub returns-in_err-next-clause-read : goal.returns-in_err-next-clause-read
returns-in_err-next-clause-read c =
    let p = err_from_is_err_and c.from_residual-in_err-next.result c.from_residual-in_err-next.ensures.1 in
    rw (p.1, p.2) (item_fails ◌++◌ _ (optional an_expression) _ _ _ _ _ _ (sym c.sees.ensures ∙ c.more-test.true) c.in_ok-take.ensures c.in_err-next.ensures.read c.more.invariant.read)
