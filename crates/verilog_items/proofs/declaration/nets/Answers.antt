use Rattle.std.proofs.Common.{◌++◌, sym, ◌∙◌}
use Rattle.std.proofs.lemmas.Result.{err_from_is_err_and}
use Rattle.verilog_tree.specs.View.{declared_view}
use Rattle.verilog_grammar.specs.Modules.{net_rule}
use Rattle.verilog_items.proofs.Listed.{viewed, viewed_first, list_begun, list_more, list_done, behind_falls, comma_fails, item_fails}
use Rattle.verilog_items.proofs.declaration.nets.Goals as goal

pub more-init : goal.more-init
more-init c = list_begun _ net_rule _ _ _ _ (viewed_first declared_view _ _ _ c.new-all.ensures.items c.in_ok-push.ensures.items) c.in_ok-first.ensures

pub more-preserved : goal.more-preserved
more-preserved c =
    list_more _ net_rule _ _ _ _ _ _ _ _ (viewed declared_view _ _ _ c.in_ok-push-2.ensures.items) (sym c.sees.ensures ∙ c.more-test.true) c.in_ok-take.ensures c.in_ok-next.ensures c.more.invariant

pub more-smaller : goal.more-smaller
more-smaller c = behind_falls _ net_rule _ _ _ _ _ c.in_ok-take.ensures c.in_ok-next.ensures

pub returns : goal.returns
returns c = list_done _ net_rule _ _ _ (sym c.sees.ensures ∙ c.more-test.false) c.more.invariant

pub returns-in_err-take : goal.returns-in_err-take
returns-in_err-take c =
    let p = err_from_is_err_and c.from_residual-in_err-take.result c.from_residual-in_err-take.ensures.1 in
    rw (p.1, p.2) (comma_fails ◌++◌ _ net_rule _ _ _ _ (sym c.sees.ensures ∙ c.more-test.true) c.in_err-take.ensures c.more.invariant)

pub returns-in_err-next : goal.returns-in_err-next
returns-in_err-next c =
    let p = err_from_is_err_and c.from_residual-in_err-next.result c.from_residual-in_err-next.ensures.1 in
    rw (p.1, p.2) (item_fails ◌++◌ _ net_rule _ _ _ _ _ _ (sym c.sees.ensures ∙ c.more-test.true) c.in_ok-take.ensures c.in_err-next.ensures c.more.invariant)
