-- The parts of an expression that read a signal or a memory.
use Rattle.std.specs.Prelude.{◌≡◌, true, false, if◌then◌else◌, List, [], ◌∷◌, ◌++◌, map}
use Rattle.std.specs.Borrow.{Bor}
use Rattle.verilog_tree.specs.Tree as t
use Rattle.verilog_tree.specs.Tree.{literal, identifier, bit_select, part_select, indexed_part, unary_operator, binary_operator, conditional, concatenation, replication, sign_cast, parentheses, Exprs, no_exprs, an_expr}
use Rattle.verilog_tree.specs.View.{expr_view}
use Rattle.verilog_tree.specs.declared.expr.Expr.{Expr}
use Rattle.flat_design.specs.Expressions.{faults}
use Rattle.flat_design.specs.Fault.{none}
use Rattle.flat_design.specs.Loops.{is_identifier}
use Rattle.flat_design.specs.Scope.{Scope, names_faulty}

-- the names and selects of an expression from left to right, except for names that are selected from, bounds and counts
abbrev mutual
  pub read_parts : t.Expr → List t.Expr
  read_parts (literal p v) = []
  read_parts (identifier p x) = identifier p x ∷ []
  read_parts (bit_select p of i) = bit_select p of i ∷ (if is_identifier of then [] else read_parts of) ++ read_parts i
  read_parts (part_select p of h l b) = part_select p of h l b ∷ (if is_identifier of then [] else read_parts of)
  read_parts (indexed_part p of b w up k) = indexed_part p of b w up k ∷ (if is_identifier of then [] else read_parts of) ++ read_parts b
  read_parts (unary_operator p op a) = read_parts a
  read_parts (binary_operator p op a b) = read_parts a ++ read_parts b
  read_parts (conditional p c a b) = read_parts c ++ read_parts a ++ read_parts b
  read_parts (concatenation p es) = all_read_parts es
  read_parts (replication p n es) = all_read_parts es
  read_parts (sign_cast p s a) = read_parts a
  read_parts (parentheses p a) = read_parts a

  pub all_read_parts : Exprs → List t.Expr
  all_read_parts no_exprs = []
  all_read_parts (an_expr e es) = read_parts e ++ all_read_parts es

-- the expressions that these refer to
abbrev pub parts_view : List (Bor Expr) → List t.Expr
parts_view es = map (λ e. expr_view e.now) es

-- the expression has no fault, and names nothing whose declaration has one
abbrev pub IsSound : Scope → t.Expr → Type 0
IsSound g e = (none (faults g e) ≡ true) × (names_faulty g e ≡ false)

-- the same of each
abbrev pub AreSound : Scope → List t.Expr → Type 0
AreSound g [] = Unit {0}
AreSound g (e ∷ es) = IsSound g e × AreSound g es
