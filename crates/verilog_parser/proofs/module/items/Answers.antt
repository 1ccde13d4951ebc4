use Rattle.std.proofs.Common.{sym, ◌∙◌, map, ap}
use Rattle.std.proofs.lemmas.Result.{err_from_is_err_and}
use Rattle.verilog_tree.specs.View.{item_view}
use Rattle.verilog_parser.proofs.Items.{items_begun, items_more, items_done, item_falls, items_fail}
use Rattle.verilog_items.proofs.Listed.{view_appended}
use Rattle.verilog_parser.proofs.module.items.Goals as goal

pub more-init : goal.more-init
more-init c = items_begun _ _ _ (ap (map item_view) c.new-all.ensures.items)

pub more-preserved : goal.more-preserved
more-preserved c = items_more _ _ _ _ _ _ _ (view_appended item_view _ _ _ c.in_ok-append.ensures.items) (sym c.begins_item.ensures ∙ c.more-test.true) c.in_ok-next.ensures c.more.invariant

pub more-smaller : goal.more-smaller
more-smaller c = item_falls _ _ _ _ c.in_ok-next.ensures

pub returns : goal.returns
returns c = items_done _ _ _ _ (sym c.begins_item.ensures ∙ c.more-test.false) c.more.invariant

pub returns-in_err-next : goal.returns-in_err-next
returns-in_err-next c =
    let p = err_from_is_err_and c.from_residual.result c.from_residual.ensures.1 in
    rw (p.1, p.2) (items_fail _ _ _ _ _ (sym c.begins_item.ensures ∙ c.more-test.true) c.in_err-next.ensures c.more.invariant)
