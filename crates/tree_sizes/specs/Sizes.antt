-- The size of a text: how many parts it has, and the bytes of its names.
use Rattle.std.specs.Prelude.{ℕ, ◌+◌, suc, List, [], ◌∷◌, length, Option, None, Some}
use Rattle.verilog_tree.specs.declared.item.Named.{Named}
use Rattle.verilog_tree.specs.declared.item.When.{When}
use Rattle.verilog_tree.specs.declared.item.When.TheVariants.{Star, Names, Edges}
use Rattle.verilog_tree.specs.Tree.{Expr, literal, identifier, bit_select, part_select, indexed_part, unary_operator, binary_operator, conditional, concatenation, replication, sign_cast, parentheses, Exprs, no_exprs, an_expr, RangeExpr, Header, Statement, sequential_block, if_statement, case_statement, for_loop, assignment, system_task, null_statement, Statements, no_statements, a_statement, CaseItems, no_items, case_item, Param, Declared, Given, One, ItemForm, port_item, net_item, variable_item, integer_item, parameter_item, continuous_item, always_item, initial_item, instance_item, Item, Module}

-- the sizes of all of a list
abbrev pub total : {X : Type 0} → (X → ℕ) → List X → ℕ
total f [] = 0
total f (x ∷ xs) = f x + total f xs

-- a name is one part, with its bytes
abbrev pub name_size : List ℕ → ℕ
name_size x = suc (length x)

-- each literal, name, select, operator and pair of parentheses is a part
abbrev mutual
  pub size : Expr → ℕ
  size (literal p v) = 1
  size (identifier p x) = name_size x
  size (bit_select p of i) = suc (size of + size i)
  size (part_select p of h l b) = suc (size of + size h + size l)
  size (indexed_part p of k w up b) = suc (size of + size k + size w)
  size (unary_operator p op a) = suc (size a)
  size (binary_operator p op a b) = suc (size a + size b)
  size (conditional p c a b) = suc (size c + size a + size b)
  size (concatenation p es) = suc (all_sizes es)
  size (replication p n es) = suc (size n + all_sizes es)
  size (sign_cast p s a) = suc (size a)
  size (parentheses p a) = suc (size a)

  pub all_sizes : Exprs → ℕ
  all_sizes no_exprs = 0
  all_sizes (an_expr e es) = size e + all_sizes es

-- the header of a loop
abbrev pub header_size : Header → ℕ
header_size h = size h.name + size h.first + size h.test + size h.target + size h.step

-- the labels of a case
abbrev pub labels_size : CaseItems → ℕ
labels_size no_items = 0
labels_size (case_item labels s is) = all_sizes labels + labels_size is

-- a statement, with all statements in it
abbrev mutual
  pub statement_size : Statement → ℕ
  statement_size (sequential_block p ss) = suc (statements_size ss)
  statement_size (if_statement p c s other) = suc (size c + statement_size s + statements_size other)
  statement_size (case_statement p kind e is) = suc (size e + items_size is)
  statement_size (for_loop p h s) = suc (header_size h + statement_size s)
  statement_size (assignment p x blocking v) = suc (size x + size v)
  statement_size (system_task p) = 1
  statement_size (null_statement p) = 1

  pub statements_size : Statements → ℕ
  statements_size no_statements = 0
  statements_size (a_statement s ss) = statement_size s + statements_size ss

  pub items_size : CaseItems → ℕ
  items_size no_items = 0
  items_size (case_item labels s is) = all_sizes labels + statement_size s + items_size is

-- a name of the modules
abbrev pub named_size : Named → ℕ
named_size x = name_size x.name

-- a name, if it is given
abbrev pub name_option_size : Option Named → ℕ
name_option_size None = 0
name_option_size (Some x) = named_size x

-- an expression, if it is given
abbrev pub option_size : Option Expr → ℕ
option_size None = 0
option_size (Some e) = size e

-- a range, if it is given
abbrev pub range_size : Option RangeExpr → ℕ
range_size None = 0
range_size (Some r) = size r.high + size r.low

-- a parameter
abbrev pub param_size : Param → ℕ
param_size p = named_size p.name + range_size p.range + size p.value

-- a declared name
abbrev pub declared_size : Declared → ℕ
declared_size d = named_size d.name + option_size d.value + range_size d.words

-- a connection or an override
abbrev pub given_size : Given → ℕ
given_size c = suc (name_option_size c.name + option_size c.value)

-- one of the instances that an item names
abbrev pub one_size : One → ℕ
one_size o = named_size o.name + total given_size o.given

-- what a block waits for
abbrev pub when_size : When → ℕ
when_size Star = 1
when_size (Names xs) = total named_size xs
when_size (Edges es) = total (λ e. named_size e.1) es

-- the form of an item
abbrev pub form_size : ItemForm → ℕ
form_size (port_item i) = range_size i.range + total named_size i.names
form_size (net_item i) = range_size i.range + total declared_size i.names
form_size (variable_item i) = range_size i.range + total declared_size i.names
form_size (integer_item ds) = total declared_size ds
form_size (parameter_item ps) = total param_size ps
form_size (continuous_item x v) = size x + size v
form_size (always_item w s) = when_size w + statement_size s
form_size (initial_item s) = statement_size s
form_size (instance_item i) = named_size i.of_module + total given_size i.overrides + total one_size i.ones

-- an item
abbrev pub item_size : Item → ℕ
item_size i = suc (form_size i.form)

-- a module
abbrev pub module_size : Module → ℕ
module_size m = named_size m.name + total param_size m.params + total named_size m.ports + total item_size m.items
