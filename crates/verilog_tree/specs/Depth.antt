-- How deep expressions nest, and where the first of their innermost parts begins.
use Rattle.std.specs.Prelude.{suc, nat_le, if◌then◌else◌}
use Rattle.cov_host.specs.declared.place.Place.{Place}
use Rattle.verilog_tree.specs.Tree.{Expr, literal, identifier, bit_select, part_select, indexed_part, unary_operator, binary_operator, conditional, concatenation, replication, sign_cast, parentheses, Exprs, no_exprs, an_expr}
pub use Rattle.verilog_tree.specs.declared.depth.Depth.{Depth}

-- a part that has no parts
abbrev pub alone : Place → Depth
alone place = record { height = 1; place = place }

-- no part
abbrev pub none : Place → Depth
none place = record { height = 0; place = place }

-- the deeper of two parts, one after the other, the first where they are equally deep
abbrev pub deeper : Depth → Depth → Depth
deeper a b = if nat_le b.height a.height then a else b

-- a part that has these as its deepest parts
abbrev pub under : Depth → Depth
under d = record { height = suc d.height; place = d.place }

-- how deep an expression is: one more than the deepest of the expressions directly in it
abbrev mutual
  pub depth : Expr → Depth
  depth (literal p v) = alone p
  depth (identifier p x) = alone p
  depth (bit_select p of i) = under (deeper (depth of) (depth i))
  depth (part_select p of h l b) = under (deeper (deeper (depth of) (depth h)) (depth l))
  depth (indexed_part p of k w up b) = under (deeper (deeper (depth of) (depth k)) (depth w))
  depth (unary_operator p op a) = under (depth a)
  depth (binary_operator p op a b) = under (deeper (depth a) (depth b))
  depth (conditional p c a b) = under (deeper (deeper (depth c) (depth a)) (depth b))
  depth (concatenation p es) = under (deepest_of (none p) es)
  depth (replication p n es) = under (deepest_of (depth n) es)
  depth (sign_cast p s a) = under (depth a)
  depth (parentheses p a) = under (depth a)

  -- the deepest of an earlier one and of all of these
  pub deepest_of : Depth → Exprs → Depth
  deepest_of d no_exprs = d
  deepest_of d (an_expr e es) = deepest_of (deeper d (depth e)) es
