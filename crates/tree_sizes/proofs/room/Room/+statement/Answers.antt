use Rattle.std.proofs.Common.{◌<◌, ◌∙◌, length, sym, ap, arith}
use Rattle.verilog_tree.specs.declared.statement.StatementForm as form
use Rattle.verilog_tree.proofs.StatementViews.{block_view, if_else_view, case_view, for_view, set_view, body_view, statements_from, arms_from}
use Rattle.tree_sizes.specs.Sizes.{items_size, statement_size, statements_size}
use Rattle.tree_sizes.proofs.room.Room.+statement.Goals as goal

pub statement-returns-in-Block : goal.statement-returns-in-Block
statement-returns-in-Block t c =
    let size = ap statement_size (block_view c.args.statement.now c.in-Block.parts (sym c.deref.ensures ∙ c.in-Block.is)) in
    let parts = rw c.deref-in-Block.ensures.value at c.statements.ensures in
    omega (arith, size, c.take.ensures, parts)

pub statement-returns-in-Some : goal.statement-returns-in-Some
statement-returns-in-Some t c =
    let is = sym c.deref.ensures ∙ c.in-If.is ∙ ap (λ no. form.If c.in-If.test c.in-If.yes no) c.in-Some.is in
    let size = ap statement_size (if_else_view c.args.statement.now c.in-If.test c.in-If.yes c.in-Some.no is) in
    omega (arith, size, c.take.ensures, c.expression.ensures, c.statement.ensures, c.statement-in-Some.ensures)

pub statement-returns-in-Case : goal.statement-returns-in-Case
statement-returns-in-Case t c =
    let size = ap statement_size (case_view c.args.statement.now _ c.in-Case.on c.in-Case.arms (sym c.deref.ensures ∙ c.in-Case.is)) in
    let arms = rw c.deref-in-Case.ensures.value at c.arms.ensures in
    omega (arith, size, c.take.ensures, c.expression-in-Case.ensures, arms)

pub statement-returns-in-For : goal.statement-returns-in-For
statement-returns-in-For t c =
    let size = ap statement_size (for_view c.args.statement.now c.in-For.header (sym c.deref.ensures ∙ c.in-For.is)) in
    let body = ap statement_size (body_view c.in-For.header) in
    omega (arith, size, body, c.take.ensures, c.header.ensures, c.statement-in-For.ensures)

pub statement-returns-in-Set : goal.statement-returns-in-Set
statement-returns-in-Set t c =
    let size = ap statement_size (set_view c.args.statement.now c.in-Set.target _ c.in-Set.value (sym c.deref.ensures ∙ c.in-Set.is)) in
    omega (arith, size, c.take.ensures, c.expression-in-Set.ensures, c.expression-in-Set-2.ensures)

pub statements-loop-statement-preserved : goal.statements-loop-statement-preserved
statements-loop-statement-preserved t c =
    let i = c.loop-statement.statement-index in
    let less : i < length c.args.statements.now = omega arith in
    let size = ap statements_size (statements_from c.args.statements.now i c.statement-item.result less c.statement-item.is) in
    omega (arith, size, c.loop-statement.invariant, c.statement.ensures)

pub arms-loop-arm-preserved : goal.arms-loop-arm-preserved
arms-loop-arm-preserved t c =
    let i = c.loop-arm.arm-index in
    let less : i < length c.args.arms.now = omega arith in
    let size = ap items_size (arms_from c.args.arms.now i c.arm-item.result less c.arm-item.is) in
    let labels = rw c.deref.ensures.value at c.expressions.ensures in
    omega (arith, size, c.loop-arm.invariant, labels, c.statement.ensures)
