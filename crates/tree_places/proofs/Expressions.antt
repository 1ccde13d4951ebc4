-- Where the nodes of the expressions begin that tokens spell, and how many of them are counted.
use Rattle.std.proofs.Common.{◌≡◌, ◌+◌, ◌≤◌, ℕ, Bool, true, false, List, [], ◌∷◌, Option, Some, None, refl, ap, arith}
use Rattle.cov_host.specs.declared.place.Place.{Place}
use Rattle.flat_design.specs.Numbering.{nodes, all_nodes, is_counted_condition, one_if}
use Rattle.flat_design.specs.Scope.{Scope, names_thing}
use Rattle.grammar_rules.specs.Rule.{nest}
use Rattle.grammar_rules.proofs.Holds.{AllOf}
use Rattle.verilog_grammar.specs.declared.level.Level.{Level}
use Rattle.verilog_grammar.specs.declared.level.Level.TheVariants as level
use Rattle.verilog_grammar.specs.Language.{verilog, operand, target}
use Rattle.verilog_grammar.specs.Parts.{Phrased, an_expression}
use Rattle.verilog_grammar.specs.Expressions.{sized_or_decimal, unsized_of, identifier_of, number_rule, SelectEnd, closed, low_end, up_end, down_end, selected_by, select_end_rule, Select, select_rule, selects_rule, BraceEnd, repeated, others, exprs_rule, paren_rule, brace_end_rule, braced_by, braced_rule, cast_rule, prim_rule, unary_rule, binary_of, operators, operation_rule, operations, product_rule, sum_rule, shift_rule, relation_rule, equality_rule, bitwise_and_rule, bitwise_xor_rule, bitwise_or_rule, logical_and_rule, logical_or_rule, level_rule, branches_rule, expr_rule, target_name_rule, targets_rule, target_rule}
use Rattle.verilog_lexer.specs.Tokens.{Lexeme}
use Rattle.verilog_tree.specs.Tree.{Expr, literal, identifier, bit_select, part_select, indexed_part, unary_operator, binary_operator, conditional, concatenation, replication, sign_cast, parentheses, exprs_of, place_of}
use Rattle.parsed_modules.proofs.TokensHold.{Spelling}
use Rattle.tree_places.specs.Placed.{IsPlaced, ArePlaced}
use Rattle.tree_places.proofs.TokensTaken.{total, more_total, Shrinks, Takes, any_takes, one_takes, both_take, either_takes, made_takes, many_take, grow_takes, after_takes, before_takes, listed_takes}

-- the token is at such a place
abbrev pub IsAt : (Place → Type 0) → Lexeme → Type 0
IsAt P t = P t.place

pub at_most_one : (b : Bool) → one_if b ≤ 1
at_most_one true = omega arith
at_most_one false = omega arith

-- so is the first token of an expression
pub begins : (P : Place → Type 0) (e : Expr) → IsPlaced P e → P (place_of e)
begins P (literal p v) h = h
begins P (identifier p x) h = h
begins P (bit_select p of i) h = h.0
begins P (part_select p of a b k) h = h.0
begins P (indexed_part p of a b up k) h = h.0
begins P (unary_operator p op a) h = h.0
begins P (binary_operator p op a b) h = h.0
begins P (conditional p c a b) h = h.0
begins P (concatenation p es) h = h.0
begins P (replication p n es) h = h.0
begins P (sign_cast p s a) h = h.0
begins P (parentheses p a) h = h.0

pub list_placed : (P : Place → Type 0) (es : List Expr) → AllOf (IsPlaced P) es → ArePlaced P (exprs_of es)
list_placed P [] h = tt
list_placed P (e ∷ es) h = (h.0, list_placed P es h.1)

pub list_nodes : (g : Scope) (es : List Expr) → all_nodes g (exprs_of es) ≡ total (nodes g) es
list_nodes g [] = refl
list_nodes g (e ∷ es) = ap (λ n. nodes g e + n) (list_nodes g es)

-- ---- numbers

number_placed : (P : Place → Type 0) (t : Lexeme) (b : Option Lexeme) → P t.place → IsPlaced P (sized_or_decimal t b)
number_placed P t None h = h
number_placed P t (Some b) h = h

number_nodes : (g : Scope) (t : Lexeme) (b : Option Lexeme) → nodes g (sized_or_decimal t b) ≤ 0
number_nodes g t None = omega arith
number_nodes g t (Some b) = omega arith

-- ---- selects

-- so it is with the expression that follows the first one in a bracket
abbrev EndIsPlaced : (Place → Type 0) → SelectEnd → Type 0
EndIsPlaced P closed = Unit {0}
EndIsPlaced P (low_end e) = IsPlaced P e
EndIsPlaced P (up_end e) = IsPlaced P e
EndIsPlaced P (down_end e) = IsPlaced P e

abbrev end_nodes : Scope → SelectEnd → ℕ
end_nodes g closed = 0
end_nodes g (low_end e) = nodes g e
end_nodes g (up_end e) = nodes g e
end_nodes g (down_end e) = nodes g e

abbrev SelectIsPlaced : (Place → Type 0) → Select → Type 0
SelectIsPlaced P s = P s.0.place × (IsPlaced P s.1.0 × EndIsPlaced P s.1.1)

abbrev select_nodes : Scope → Select → ℕ
select_nodes g s = 1 + (nodes g s.1.0 + end_nodes g s.1.1)

select_placed : (P : Place → Type 0) (x : Expr) (t : Lexeme) (e : Expr) (end : SelectEnd) → IsPlaced P x → IsPlaced P e → EndIsPlaced P end → IsPlaced P (selected_by x t e end)
select_placed P x t e closed h k l = (begins P x h, h, k)
select_placed P x t e (low_end w) h k l = (begins P x h, h, k, l)
select_placed P x t e (up_end w) h k l = (begins P x h, h, k, l)
select_placed P x t e (down_end w) h k l = (begins P x h, h, k, l)

selected_nodes : (g : Scope) (x : Expr) (t : Lexeme) (e : Expr) (end : SelectEnd) → nodes g (selected_by x t e end) ≤ nodes g x + (1 + (nodes g e + end_nodes g end))
selected_nodes g x t e closed = omega arith
selected_nodes g x t e (low_end w) = omega arith
selected_nodes g x t e (up_end w) = omega arith
selected_nodes g x t e (down_end w) = omega arith

-- ---- braces

abbrev BraceIsPlaced : (Place → Type 0) → BraceEnd → Type 0
BraceIsPlaced P (repeated es) = AllOf (IsPlaced P) es
BraceIsPlaced P (others es) = AllOf (IsPlaced P) es

abbrev brace_nodes : Scope → BraceEnd → ℕ
brace_nodes g (repeated es) = total (nodes g) es
brace_nodes g (others es) = total (nodes g) es

brace_placed : (P : Place → Type 0) (t : Lexeme) (e : Expr) (end : BraceEnd) → P t.place → IsPlaced P e → BraceIsPlaced P end → IsPlaced P (braced_by t e end)
brace_placed P t e (repeated es) h k l = (h, k, list_placed P es l)
brace_placed P t e (others es) h k l = (h, (k, list_placed P es l))

braced_nodes : (g : Scope) (t : Lexeme) (e : Expr) (end : BraceEnd) → nodes g (braced_by t e end) ≤ 1 + (nodes g e + brace_nodes g end)
braced_nodes g t e (repeated es) = omega (arith, list_nodes g es)
braced_nodes g t e (others es) = omega (arith, list_nodes g es)

module _ (P : Place → Type 0) (g : Scope) (S : Spelling verilog (IsAt P)) (shrinks : Shrinks S) (expressions : Takes S an_expression (IsPlaced P) (nodes g)) (operands : (l : Level) → Takes S (nest (operand l)) (IsPlaced P) (nodes g)) (targets : Takes S (nest target) (IsPlaced P) (nodes g)) where
  number_takes : Takes S number_rule (IsPlaced P) (nodes g)
  unfolding number_rule
  number_takes =
      either_takes (made_takes (both_take one_takes (any_takes shrinks)) (λ p q. number_placed P p.0 p.1 q.0) (λ p. omega (arith, number_nodes g p.0 p.1))) (made_takes {f = unsized_of} {H = IsPlaced P} {u = nodes g} one_takes (λ b q. q) (λ b. omega arith))

  select_end_takes : Takes S select_end_rule (EndIsPlaced P) (end_nodes g)
  unfolding select_end_rule
  select_end_takes =
      either_takes (made_takes one_takes (λ t q. tt) (λ t. omega arith))
      (either_takes (made_takes (after_takes (before_takes expressions)) (λ e q. q) (λ e. omega arith))
      (either_takes (made_takes (after_takes (before_takes expressions)) (λ e q. q) (λ e. omega arith)) (made_takes (after_takes (before_takes expressions)) (λ e q. q) (λ e. omega arith))))

  select_takes : Takes S select_rule (SelectIsPlaced P) (select_nodes g)
  unfolding select_rule
  select_takes = both_take one_takes (both_take expressions select_end_takes)

  selects_take : Takes S selects_rule (IsPlaced P) (nodes g)
  unfolding selects_rule
  selects_take = grow_takes (made_takes {f = identifier_of} {H = IsPlaced P} {u = nodes g} one_takes (λ t q. q) (λ t. omega arith)) select_takes (λ x s h k. select_placed P x s.0 s.1.0 s.1.1 h k.1.0 k.1.1) (λ x s. selected_nodes g x s.0 s.1.0 s.1.1)

  pub exprs_take : Takes S exprs_rule (λ es. AllOf (IsPlaced P) es) (λ es. total (nodes g) es)
  unfolding exprs_rule
  exprs_take = listed_takes expressions

  paren_takes : Takes S paren_rule (IsPlaced P) (nodes g)
  unfolding paren_rule
  paren_takes = made_takes {w = λ p. 1 + nodes g p.1} (both_take one_takes (before_takes expressions)) (λ p q. (q.0, q.1)) (λ p. omega arith)

  brace_end_takes : Takes S brace_end_rule (BraceIsPlaced P) (brace_nodes g)
  unfolding brace_end_rule
  brace_end_takes =
      either_takes (made_takes (after_takes (before_takes (before_takes exprs_take))) (λ es q. q) (λ es. omega arith))
      (made_takes (before_takes (many_take (after_takes expressions))) (λ es q. q) (λ es. more_total (nodes g) es))

  braced_takes : Takes S braced_rule (IsPlaced P) (nodes g)
  unfolding braced_rule
  braced_takes =
      made_takes {w = λ p. 1 + (nodes g p.1.0 + brace_nodes g p.1.1)} (both_take one_takes (both_take expressions brace_end_takes)) (λ p q. brace_placed P p.0 p.1.0 p.1.1 q.0 q.1.0 q.1.1) (λ p. braced_nodes g p.0 p.1.0 p.1.1)

  cast_takes : Takes S cast_rule (IsPlaced P) (nodes g)
  unfolding cast_rule
  cast_takes = made_takes {w = λ p. 1 + (1 + nodes g p.1)} (both_take one_takes (after_takes (before_takes expressions))) (λ p q. (q.0, q.1)) (λ p. omega arith)

  prim_takes : Takes S prim_rule (IsPlaced P) (nodes g)
  unfolding prim_rule
  prim_takes = either_takes number_takes (either_takes selects_take (either_takes paren_takes (either_takes braced_takes cast_takes)))

  unary_takes : Takes S unary_rule (IsPlaced P) (nodes g)
  unfolding unary_rule
  unary_takes = either_takes (made_takes {w = λ p. 1 + nodes g p.1} (both_take one_takes (operands level.Unary)) (λ p q. (q.0, q.1)) (λ p. omega (arith, at_most_one (names_thing g p.1)))) prim_takes

  -- ---- operators

  operators_take : (l : Level) → Takes S (operators l) (IsAt P) (λ t. 1)
  operators_take level.Unary = one_takes
  operators_take level.Product = one_takes
  operators_take level.Sum = one_takes
  operators_take level.Shift = one_takes
  operators_take level.Relation = one_takes
  operators_take level.Equality = one_takes
  operators_take level.BitwiseAnd = one_takes
  operators_take level.BitwiseXor = one_takes
  operators_take level.BitwiseOr = one_takes
  operators_take level.LogicalAnd = one_takes
  operators_take level.LogicalOr = one_takes

  operation_takes : (l tight : Level) → Takes S (operation_rule l tight) (λ p. P p.0.place × IsPlaced P p.1) (λ p. 1 + nodes g p.1)
  unfolding operation_rule
  operation_takes l tight = both_take (operators_take l) (operands tight)

  operations_take : (l tight : Level) {r : Phrased Expr} → Takes S r (IsPlaced P) (nodes g) → Takes S (operations l tight r) (IsPlaced P) (nodes g)
  operations_take l tight h =
      grow_takes h (operation_takes l tight) (λ a p q r. (begins P a q, q, r.1)) (λ a p. omega (arith, at_most_one (names_thing g (binary_of a p))))

  product_takes : Takes S product_rule (IsPlaced P) (nodes g)
  unfolding product_rule
  product_takes = operations_take level.Product level.Unary unary_takes

  sum_takes : Takes S sum_rule (IsPlaced P) (nodes g)
  unfolding sum_rule
  sum_takes = operations_take level.Sum level.Product product_takes

  shift_takes : Takes S shift_rule (IsPlaced P) (nodes g)
  unfolding shift_rule
  shift_takes = operations_take level.Shift level.Sum sum_takes

  relation_takes : Takes S relation_rule (IsPlaced P) (nodes g)
  unfolding relation_rule
  relation_takes = operations_take level.Relation level.Shift shift_takes

  equality_takes : Takes S equality_rule (IsPlaced P) (nodes g)
  unfolding equality_rule
  equality_takes = operations_take level.Equality level.Relation relation_takes

  bitwise_and_takes : Takes S bitwise_and_rule (IsPlaced P) (nodes g)
  unfolding bitwise_and_rule
  bitwise_and_takes = operations_take level.BitwiseAnd level.Equality equality_takes

  bitwise_xor_takes : Takes S bitwise_xor_rule (IsPlaced P) (nodes g)
  unfolding bitwise_xor_rule
  bitwise_xor_takes = operations_take level.BitwiseXor level.BitwiseAnd bitwise_and_takes

  bitwise_or_takes : Takes S bitwise_or_rule (IsPlaced P) (nodes g)
  unfolding bitwise_or_rule
  bitwise_or_takes = operations_take level.BitwiseOr level.BitwiseXor bitwise_xor_takes

  logical_and_takes : Takes S logical_and_rule (IsPlaced P) (nodes g)
  unfolding logical_and_rule
  logical_and_takes = operations_take level.LogicalAnd level.BitwiseOr bitwise_or_takes

  logical_or_takes : Takes S logical_or_rule (IsPlaced P) (nodes g)
  unfolding logical_or_rule
  logical_or_takes = operations_take level.LogicalOr level.LogicalAnd logical_and_takes

  pub level_takes : (l : Level) → Takes S (level_rule l) (IsPlaced P) (nodes g)
  level_takes level.Unary = unary_takes
  level_takes level.Product = product_takes
  level_takes level.Sum = sum_takes
  level_takes level.Shift = shift_takes
  level_takes level.Relation = relation_takes
  level_takes level.Equality = equality_takes
  level_takes level.BitwiseAnd = bitwise_and_takes
  level_takes level.BitwiseXor = bitwise_xor_takes
  level_takes level.BitwiseOr = bitwise_or_takes
  level_takes level.LogicalAnd = logical_and_takes
  level_takes level.LogicalOr = logical_or_takes

  branches_take : Takes S branches_rule (λ p. IsPlaced P p.0 × IsPlaced P p.1) (λ p. (1 + nodes g p.0) + (1 + nodes g p.1))
  unfolding branches_rule
  branches_take = both_take (after_takes expressions) (after_takes expressions)

  pub expr_takes : Takes S expr_rule (IsPlaced P) (nodes g)
  unfolding expr_rule
  expr_takes = grow_takes logical_or_takes branches_take (λ c p q r. (begins P c q, q, r.0, r.1)) (λ c p. omega (arith, at_most_one (is_counted_condition g c)))

  -- ---- left sides of assignments

  target_name_takes : Takes S target_name_rule (IsPlaced P) (nodes g)
  unfolding target_name_rule
  target_name_takes = grow_takes (made_takes {f = identifier_of} {H = IsPlaced P} {u = nodes g} one_takes (λ t q. q) (λ t. omega arith)) select_takes (λ x s h k. select_placed P x s.0 s.1.0 s.1.1 h k.1.0 k.1.1) (λ x s. selected_nodes g x s.0 s.1.0 s.1.1)

  targets_take : Takes S targets_rule (λ es. AllOf (IsPlaced P) es) (λ es. total (nodes g) es)
  unfolding targets_rule
  targets_take = listed_takes targets

  pub target_takes : Takes S target_rule (IsPlaced P) (nodes g)
  unfolding target_rule
  target_takes =
      either_takes target_name_takes
      (made_takes {w = λ p. 1 + total (nodes g) p.1} (both_take one_takes (before_takes targets_take)) (λ p q. (q.0, list_placed P p.1 q.1)) (λ p. omega (arith, list_nodes g p.1)))
