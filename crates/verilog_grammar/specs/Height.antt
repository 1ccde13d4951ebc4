-- How high trees are: a number or a name is 1 high, and any other expression or statement is one higher than the
-- highest of those directly in it.
use Rattle.std.specs.Prelude.{ℕ, suc, nat_le, if◌then◌else◌}
use Rattle.verilog_tree.specs.Tree.{Expr, Exprs, no_exprs, an_expr, Header, Statement, sequential_block, if_statement, case_statement, for_loop, assignment, system_task, null_statement, Statements, no_statements, a_statement, CaseItems, no_items, case_item}
use Rattle.verilog_tree.specs.Depth.{depth}
use Rattle.verilog_grammar.specs.Language.{Phrase, expression, operand, target, statement, Value}

abbrev pub greater : ℕ → ℕ → ℕ
greater a b = if nat_le a b then b else a

abbrev pub expr_height : Expr → ℕ
expr_height e = (depth e).height

-- the greatest height of some expressions, 0 without one
abbrev pub exprs_height : Exprs → ℕ
exprs_height no_exprs = 0
exprs_height (an_expr e es) = greater (expr_height e) (exprs_height es)

abbrev pub header_height : Header → ℕ
header_height h = greater (expr_height h.name) (greater (expr_height h.first) (greater (expr_height h.test) (greater (expr_height h.target) (expr_height h.step))))

abbrev mutual
  pub statement_height : Statement → ℕ
  statement_height (sequential_block p ss) = suc (statements_height ss)
  statement_height (if_statement p c s other) = suc (greater (expr_height c) (greater (statement_height s) (statements_height other)))
  statement_height (case_statement p kind e items) = suc (greater (expr_height e) (items_height items))
  statement_height (for_loop p h s) = suc (greater (header_height h) (statement_height s))
  statement_height (assignment p x blocking e) = suc (greater (expr_height x) (expr_height e))
  statement_height (system_task p) = 1
  statement_height (null_statement p) = 1

  pub statements_height : Statements → ℕ
  statements_height no_statements = 0
  statements_height (a_statement s ss) = greater (statement_height s) (statements_height ss)

  pub items_height : CaseItems → ℕ
  items_height no_items = 0
  items_height (case_item labels s items) = greater (exprs_height labels) (greater (statement_height s) (items_height items))

-- how high what a phrase spells is
abbrev pub height : (p : Phrase) → Value p → ℕ
height expression e = expr_height e
height (operand l) e = expr_height e
height target e = expr_height e
height (statement b) s = statement_height s
