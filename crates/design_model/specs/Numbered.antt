-- The numbered parts of a text: its line points, and its counted nodes.
use Rattle.std.specs.Prelude.{◌∷◌, ◌++◌, if◌then◌else◌, ℕ, List, [], Option, Some, None, codes}
use Rattle.cov_host.specs.declared.place.Place.{Place}
use Rattle.four_state.specs.declared.operator.Binary.{Binary}
use Rattle.four_state.specs.declared.operator.Binary.TheVariants.{Add, ArithmeticShiftLeft, ArithmeticShiftRight, BitwiseAnd, BitwiseNxor, BitwiseOr, BitwiseXnor, BitwiseXor, CaseEqual, CaseNotEqual, Divide, Equal, GreaterOrEqual, GreaterThan, LessOrEqual, LessThan, LogicalAnd, LogicalOr, Modulus, Multiply, NotEqual, ShiftLeft, ShiftRight, Subtract}
use Rattle.four_state.specs.declared.operator.Unary.{Unary}
use Rattle.four_state.specs.declared.operator.Unary.TheVariants.{BitwiseNot, LogicalNot, Negative, Positive, ReduceAnd, ReduceNand, ReduceNor, ReduceNxor, ReduceOr, ReduceXnor, ReduceXor}
use Rattle.design_model.specs.Tree.{Arms, Process, Stmt, Stmts, Term, a_stmt, arm, assign, binary, block, branch, clocked, comb, empty, no_arms, no_stmts, select, set, turns, unary}
use Rattle.design_model.specs.Value.{head}
use Rattle.design_model.specs.Mentions.{body_terms, index_terms, subterms}
pub use Rattle.point_words.specs.declared.line_word.LineWord.{LineWord}
pub use Rattle.point_words.specs.declared.line_word.LineWord.TheVariants.{If, Case, For, Assign}

-- a line point in a text
pub record LineAt : Type 0 where
  pub line : ℕ
  pub place : Place
  pub of_word : LineWord

-- a line point by its number, place and word
abbrev pub line_at : ℕ → Place → LineWord → LineAt
line_at n p w = record { line = n; place = p; of_word = w }

-- the line points of a body
abbrev mutual
  pub lines : Stmt → List LineAt
  lines (block p ss) = all_lines ss
  lines (branch p n t s other) = line_at n p If ∷ lines s ++ all_lines other
  lines (select p n kind t arms) = line_at n p Case ∷ arm_lines arms
  lines (turns p n ss) = line_at n p For ∷ all_lines ss
  lines (set p n blocking x t) = line_at n p Assign ∷ []
  lines (empty p) = []

  pub all_lines : Stmts → List LineAt
  all_lines no_stmts = []
  all_lines (a_stmt s ss) = lines s ++ all_lines ss

  pub arm_lines : Arms → List LineAt
  arm_lines no_arms = []
  arm_lines (arm labels s arms) = lines s ++ arm_lines arms

-- the line points of a process; an Assign has no line point
abbrev pub lines_of : Process → List LineAt
lines_of (assign i x t counted) = []
lines_of (comb i wakes s) = lines s
lines_of (clocked i events s) = lines s

-- an operator with one operand, as written
abbrev pub unary_text : Unary → List ℕ
unary_text Positive = codes "+"
unary_text Negative = codes "-"
unary_text LogicalNot = codes "!"
unary_text BitwiseNot = codes "~"
unary_text ReduceAnd = codes "&"
unary_text ReduceNand = codes "~&"
unary_text ReduceOr = codes "|"
unary_text ReduceNor = codes "~|"
unary_text ReduceXor = codes "^"
unary_text ReduceXnor = codes "~^"
unary_text ReduceNxor = codes "^~"

-- an operator with two operands, as written
abbrev pub binary_text : Binary → List ℕ
binary_text Multiply = codes "*"
binary_text Divide = codes "/"
binary_text Modulus = codes "%"
binary_text Add = codes "+"
binary_text Subtract = codes "-"
binary_text ShiftLeft = codes "<<"
binary_text ShiftRight = codes ">>"
binary_text ArithmeticShiftLeft = codes "<<<"
binary_text ArithmeticShiftRight = codes ">>>"
binary_text LessThan = codes "<"
binary_text LessOrEqual = codes "<="
binary_text GreaterThan = codes ">"
binary_text GreaterOrEqual = codes ">="
binary_text Equal = codes "=="
binary_text NotEqual = codes "!="
binary_text CaseEqual = codes "==="
binary_text CaseNotEqual = codes "!=="
binary_text BitwiseAnd = codes "&"
binary_text BitwiseXor = codes "^"
binary_text BitwiseXnor = codes "~^"
binary_text BitwiseNxor = codes "^~"
binary_text BitwiseOr = codes "|"
binary_text LogicalAnd = codes "&&"
binary_text LogicalOr = codes "||"

-- what names a node: its operator, or `value`
abbrev pub node_text : Term → List ℕ
node_text (unary h op t) = unary_text op
node_text (binary h op t u) = binary_text op
node_text _ = codes "value"

-- a counted node in a text
pub record NodeAt : Type 0 where
  pub node : ℕ
  pub place : Place
  pub op : List ℕ

-- the term as a node, if it is a counted one
abbrev pub node_at : Option ℕ → Term → List NodeAt
node_at None t = []
node_at (Some n) t = record { node = n; place = (head t).place; op = node_text t } ∷ []

-- the counted nodes among some terms
abbrev pub nodes_in : List Term → List NodeAt
nodes_in [] = []
nodes_in (t ∷ ts) = node_at (head t).node t ++ nodes_in ts

-- the terms of a process that may be counted: not those of an assignment without points
abbrev pub counted_terms : Process → List Term
counted_terms (assign i x t counted) = if counted then index_terms x ++ subterms t else []
counted_terms (comb i wakes s) = body_terms s
counted_terms (clocked i events s) = body_terms s

-- the counted nodes of a process
abbrev pub nodes_of : Process → List NodeAt
nodes_of p = nodes_in (counted_terms p)
