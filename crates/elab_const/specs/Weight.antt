-- The number of repeats in an expression, also in their counts.
use Rattle.std.specs.Prelude.{ℕ, ◌+◌}
use Rattle.verilog_tree.specs.Tree.{Expr, literal, identifier, bit_select, part_select, indexed_part, unary_operator, binary_operator, conditional, concatenation, replication, sign_cast, parentheses, Exprs, no_exprs, an_expr}

-- of one expression, and of several together
abbrev mutual
  pub repeats : Expr → ℕ
  repeats (literal p v) = 0
  repeats (identifier p x) = 0
  repeats (bit_select p of i) = repeats of + repeats i
  repeats (part_select p of h l b) = repeats of + (repeats h + repeats l)
  repeats (indexed_part p of b w up k) = repeats of + (repeats b + repeats w)
  repeats (unary_operator p op a) = repeats a
  repeats (binary_operator p op a b) = repeats a + repeats b
  repeats (conditional p c a b) = repeats c + (repeats a + repeats b)
  repeats (concatenation p es) = repeats_of_all es
  repeats (replication p n es) = (repeats n + repeats_of_all es) + 1
  repeats (sign_cast p s a) = repeats a
  repeats (parentheses p a) = repeats a

  pub repeats_of_all : Exprs → ℕ
  repeats_of_all no_exprs = 0
  repeats_of_all (an_expr e es) = repeats e + repeats_of_all es
