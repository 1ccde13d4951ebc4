-- The plain trees of the trees of the code.
use Rattle.std.specs.Prelude.{List, map, Option, Some, None}
use Rattle.std.specs.Option.{option_map}
use Rattle.cov_host.specs.declared.place.Place.{Place}
use Rattle.verilog_tree.specs.Tree as t
use Rattle.verilog_tree.specs.declared.expr.Expr.{Expr, Expr-F, fold-Expr}
use Rattle.verilog_tree.specs.declared.expr.ExprForm.TheOpen.{ExprForm-F}
use Rattle.verilog_tree.specs.declared.statement.Statement.{Statement, Statement-F, fold-Statement}
use Rattle.verilog_tree.specs.declared.statement.StatementForm.TheOpen.{StatementForm-F}
use Rattle.verilog_tree.specs.declared.statement.Arm.{Arm, Arm-F, fold-Arm}
use Rattle.verilog_tree.specs.declared.statement.For.{For, For-F, fold-For}
use Rattle.verilog_tree.specs.declared.item.Range.{Range}
use Rattle.verilog_tree.specs.declared.item.Param.{Param}
use Rattle.verilog_tree.specs.declared.item.Declared.{Declared}
use Rattle.verilog_tree.specs.declared.item.Given.{Given}
use Rattle.verilog_tree.specs.declared.item.One.{One}
use Rattle.verilog_tree.specs.declared.item.Item.{Item}
use Rattle.verilog_tree.specs.declared.item.ItemForm.{ItemForm}
use Rattle.verilog_tree.specs.declared.item.ItemForm.TheVariants.{Port, Net, Var, Integer, Params, Assign, Always, Initial, Instance}
use Rattle.verilog_tree.specs.declared.module.Module.{Module}

-- one level of an expression, which waits for its place
abbrev pub expr_form_step : ExprForm-F (Place → t.Expr) t.Expr → Place → t.Expr
expr_form_step (ExprForm-F.Number n) p = t.literal p n
expr_form_step (ExprForm-F.Name x) p = t.identifier p x
expr_form_step (ExprForm-F.Bit x i) p = t.bit_select p x i
expr_form_step (ExprForm-F.Part x h l b) p = t.part_select p x h l b
expr_form_step (ExprForm-F.Slide x k w up b) p = t.indexed_part p x k w up b
expr_form_step (ExprForm-F.Unary op x) p = t.unary_operator p op x
expr_form_step (ExprForm-F.Binary op x y) p = t.binary_operator p op x y
expr_form_step (ExprForm-F.Choice c x y) p = t.conditional p c x y
expr_form_step (ExprForm-F.Concat v) p = t.concatenation p (t.exprs_of v.items)
expr_form_step (ExprForm-F.Repeat n v) p = t.replication p n (t.exprs_of v.items)
expr_form_step (ExprForm-F.Sign s x) p = t.sign_cast p s x
expr_form_step (ExprForm-F.Paren x) p = t.parentheses p x

-- one level of an expression
abbrev pub expr_step : Expr-F (Place → t.Expr) t.Expr → t.Expr
expr_step e = e.form.value e.place

-- the plain tree of an expression
abbrev pub expr_view : Expr → t.Expr
expr_view = fold-Expr (Place → t.Expr) t.Expr expr_form_step expr_step

abbrev pub exprs_view : List Expr → List t.Expr
exprs_view es = map expr_view es

-- the else statement, if there is one
abbrev pub else_of : Option t.Statement → t.Statements
else_of None = t.no_statements
else_of (Some s) = t.a_statement s t.no_statements

-- the header of a loop, and its body
abbrev pub Loop : Type 0
Loop = t.Header × t.Statement

-- one level of a statement, which waits for its place
abbrev pub statement_form_step : StatementForm-F (Place → t.Statement) t.CaseArm Loop t.Statement → Place → t.Statement
statement_form_step (StatementForm-F.Block v) p = t.sequential_block p (t.statements_of v.items)
statement_form_step (StatementForm-F.If c s other) p = t.if_statement p (expr_view c) s (else_of other)
statement_form_step (StatementForm-F.Case k x v) p = t.case_statement p k (expr_view x) (t.arms_of v.items)
statement_form_step (StatementForm-F.For loop) p = t.for_loop p loop.0 loop.1
statement_form_step (StatementForm-F.Set x b y) p = t.assignment p (expr_view x) b (expr_view y)
statement_form_step StatementForm-F.Task p = t.system_task p
statement_form_step StatementForm-F.Empty p = t.null_statement p

-- one level of a statement
abbrev pub statement_step : Statement-F (Place → t.Statement) t.CaseArm Loop t.Statement → t.Statement
statement_step s = s.form.value s.place

-- one level of an arm
abbrev pub arm_step : Arm-F (Place → t.Statement) t.CaseArm Loop t.Statement → t.CaseArm
arm_step a = record { labels = exprs_view a.labels.items; body = a.body }

-- one level of a loop
abbrev pub loop_step : For-F (Place → t.Statement) t.CaseArm Loop t.Statement → Loop
loop_step l = (
  record { place = l.place; name = expr_view l.name; first = expr_view l.first; test = expr_view l.test; target = expr_view l.target; step = expr_view l.step },
  l.body,
)

-- the plain tree of a statement
abbrev pub statement_view : Statement → t.Statement
statement_view = fold-Statement (Place → t.Statement) t.CaseArm Loop t.Statement statement_form_step arm_step loop_step statement_step

abbrev pub statements_view : List Statement → List t.Statement
statements_view ss = map statement_view ss

-- the plain arm of an arm
abbrev pub arm_view : Arm → t.CaseArm
arm_view = fold-Arm (Place → t.Statement) t.CaseArm Loop t.Statement statement_form_step arm_step loop_step statement_step

abbrev pub arms_view : List Arm → List t.CaseArm
arms_view arms = map arm_view arms

-- the header of a loop, and its body
abbrev pub loop_view : For → Loop
loop_view = fold-For (Place → t.Statement) t.CaseArm Loop t.Statement statement_form_step arm_step loop_step statement_step

-- the plain range of a range
abbrev pub range_view : Range → t.RangeExpr
range_view r = record { high = expr_view r.high; low = expr_view r.low; bracket = r.bracket }

abbrev pub range_option_view : Option Range → Option t.RangeExpr
range_option_view r = option_map range_view r

abbrev pub expr_option_view : Option Expr → Option t.Expr
expr_option_view e = option_map expr_view e

abbrev pub param_view : Param → t.Param
param_view p = record { name = p.name; local = p.local; signed = p.signed; integer = p.integer; range = range_option_view p.range; value = expr_view p.value }

abbrev pub params_view : List Param → List t.Param
params_view ps = map param_view ps

abbrev pub declared_view : Declared → t.Declared
declared_view d = record { name = d.name; value = expr_option_view d.value; words = range_option_view d.words }

abbrev pub declareds_view : List Declared → List t.Declared
declareds_view ds = map declared_view ds

abbrev pub given_view : Given → t.Given
given_view g = record { name = g.name; value = expr_option_view g.value }

abbrev pub givens_view : List Given → List t.Given
givens_view gs = map given_view gs

abbrev pub one_view : One → t.One
one_view o = record { name = o.name; given = givens_view o.given }

abbrev pub ones_view : List One → List t.One
ones_view os = map one_view os

-- the plain form of an item's form
abbrev pub item_form_view : ItemForm → t.ItemForm
item_form_view (Port i r s range names) = t.port_item (record { input = i; reg = r; signed = s; range = range_option_view range; names = names })
item_form_view (Net s range names) = t.net_item (record { signed = s; range = range_option_view range; names = declareds_view names })
item_form_view (Var s range names) = t.variable_item (record { signed = s; range = range_option_view range; names = declareds_view names })
item_form_view (Integer names) = t.integer_item (declareds_view names)
item_form_view (Params ps) = t.parameter_item (params_view ps)
item_form_view (Assign target value) = t.continuous_item (expr_view target) (expr_view value)
item_form_view (Always when body) = t.always_item when (statement_view body)
item_form_view (Initial body) = t.initial_item (statement_view body)
item_form_view (Instance of_module overrides ones) = t.instance_item (record { of_module = of_module; overrides = givens_view overrides; ones = ones_view ones })

abbrev pub item_view : Item → t.Item
item_view i = record { place = i.place; form = item_form_view i.form }

abbrev pub items_view : List Item → List t.Item
items_view is = map item_view is

abbrev pub module_view : Module → t.Module
module_view m = record { name = m.name; params = params_view m.params; ports = m.ports; items = items_view m.items }

-- the plain modules of modules
abbrev pub modules_view : List Module → List t.Module
modules_view ms = map module_view ms
