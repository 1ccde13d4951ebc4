-- The literals of the expressions that tokens spell have from 1 to 128 bits.
use Rattle.std.proofs.Common.{List, [], ◌∷◌, ◌++◌, Option, Some, None, arith}
use Rattle.four_state.specs.Vector.{Vector, HasWidth}
use Rattle.verilog_lexer.specs.Tokens.{Lexeme}
use Rattle.verilog_tree.specs.Tree.{Expr, exprs_of}
use Rattle.grammar_rules.specs.Rule.{nest}
use Rattle.grammar_rules.proofs.Holds.{AllOf}
use Rattle.verilog_grammar.specs.declared.level.Level.{Level}
use Rattle.verilog_grammar.specs.declared.level.Level.TheVariants as level
use Rattle.verilog_grammar.specs.Language.{verilog, operand, target}
use Rattle.verilog_grammar.specs.Parts.{Phrased, an_expression}
use Rattle.verilog_grammar.specs.Expressions.{sized_or_decimal, number_rule, SelectEnd, closed, low_end, up_end, down_end, selected_by, select_end_rule, Select, select_rule, selects_rule, BraceEnd, repeated, others, exprs_rule, paren_rule, brace_end_rule, braced_by, braced_rule, cast_rule, prim_rule, unary_rule, operation_rule, operations, product_rule, sum_rule, shift_rule, relation_rule, equality_rule, bitwise_and_rule, bitwise_xor_rule, bitwise_or_rule, logical_and_rule, logical_or_rule, level_rule, branches_rule, expr_rule, target_name_rule, targets_rule, target_rule}
use Rattle.flat_laws.specs.Literals.{literals, all_literals}
use Rattle.parsed_modules.proofs.TokensHold.{Spelling, Gives, any_gives, both_give, second_gives, either_gives, made_gives, many_gives, grow_gives}
use Rattle.parsed_modules.proofs.Parts.{after_gives, before_gives, listed_gives}
use Rattle.parsed_modules.proofs.Lists.{all_append}
use Rattle.parsed_modules.proofs.Widths.{decimal_has_width, based_has_width, width_from_one, width_to_limit}

-- each of the vectors has from 1 to 128 bits
abbrev pub HaveWidths : List Vector → Type 0
HaveWidths vs = AllOf HasWidth vs

-- each literal of the expression has
abbrev pub IsSized : Expr → Type 0
IsSized e = HaveWidths (literals e)

pub two_sized : (xs ys : List Vector) → HaveWidths xs → HaveWidths ys → HaveWidths (xs ++ ys)
two_sized xs ys h k = all_append HasWidth xs ys h k

pub three_sized : (xs ys zs : List Vector) → HaveWidths xs → HaveWidths ys → HaveWidths zs → HaveWidths (xs ++ ys ++ zs)
three_sized xs ys zs h k l = two_sized (xs ++ ys) zs (two_sized xs ys h k) l

pub list_sized : (es : List Expr) → AllOf IsSized es → HaveWidths (all_literals (exprs_of es))
list_sized [] h = tt
list_sized (e ∷ es) h = two_sized (literals e) (all_literals (exprs_of es)) h.0 (list_sized es h.1)

-- ---- numbers

number_sized : (t : Lexeme) (b : Option Lexeme) → IsSized (sized_or_decimal t b)
number_sized t None = (decimal_has_width t.text, tt)
number_sized t (Some b) = (based_has_width _ b.text (width_from_one t.text) (width_to_limit t.text), tt)

-- ---- selects

-- so it is with the expression after the first one in a bracket
abbrev EndIsSized : SelectEnd → Type 0
EndIsSized closed = Unit {0}
EndIsSized (low_end e) = IsSized e
EndIsSized (up_end e) = IsSized e
EndIsSized (down_end e) = IsSized e

abbrev SelectIsSized : Select → Type 0
SelectIsSized s = IsSized s.1.0 × EndIsSized s.1.1

select_sized : (x : Expr) (t : Lexeme) (e : Expr) (end : SelectEnd) → IsSized x → IsSized e → EndIsSized end → IsSized (selected_by x t e end)
select_sized x t e closed h k l = two_sized (literals x) (literals e) h k
select_sized x t e (low_end w) h k l = three_sized (literals x) (literals e) (literals w) h k l
select_sized x t e (up_end w) h k l = three_sized (literals x) (literals e) (literals w) h k l
select_sized x t e (down_end w) h k l = three_sized (literals x) (literals e) (literals w) h k l

-- ---- braces

abbrev BraceIsSized : BraceEnd → Type 0
BraceIsSized (repeated es) = AllOf IsSized es
BraceIsSized (others es) = AllOf IsSized es

brace_sized : (t : Lexeme) (e : Expr) (end : BraceEnd) → IsSized e → BraceIsSized end → IsSized (braced_by t e end)
brace_sized t e (repeated es) h k = two_sized (literals e) (all_literals (exprs_of es)) h (list_sized es k)
brace_sized t e (others es) h k = two_sized (literals e) (all_literals (exprs_of es)) h (list_sized es k)

module _ {T : Lexeme → Type 0} (S : Spelling verilog T) (expressions : Gives S an_expression IsSized) (operands : (l : Level) → Gives S (nest (operand l)) IsSized) (targets : Gives S (nest target) IsSized) where
  number_gives : Gives S number_rule IsSized
  unfolding number_rule
  number_gives = either_gives (made_gives any_gives (λ p q. number_sized p.0 p.1)) (made_gives any_gives (λ b q. (based_has_width 32 b.text (omega arith) (omega arith), tt)))

  select_end_gives : Gives S select_end_rule EndIsSized
  unfolding select_end_rule
  select_end_gives =
      either_gives (made_gives any_gives (λ t q. tt))
      (either_gives (made_gives (after_gives (before_gives expressions)) (λ e q. q))
      (either_gives (made_gives (after_gives (before_gives expressions)) (λ e q. q)) (made_gives (after_gives (before_gives expressions)) (λ e q. q))))

  select_gives : Gives S select_rule SelectIsSized
  unfolding select_rule
  select_gives = second_gives {H = λ p. IsSized p.0 × EndIsSized p.1} (both_give expressions select_end_gives)

  selects_give : Gives S selects_rule IsSized
  unfolding selects_rule
  selects_give = grow_gives (made_gives any_gives (λ t q. tt)) select_gives (λ x s h k. select_sized x s.0 s.1.0 s.1.1 h k.0 k.1)

  pub exprs_give : Gives S exprs_rule (λ es. AllOf IsSized es)
  unfolding exprs_rule
  exprs_give = listed_gives expressions

  paren_gives : Gives S paren_rule IsSized
  unfolding paren_rule
  paren_gives = made_gives {Q = λ p. IsSized p.1} (second_gives (before_gives expressions)) (λ p q. q)

  brace_end_gives : Gives S brace_end_rule BraceIsSized
  unfolding brace_end_rule
  brace_end_gives =
      either_gives (made_gives (after_gives (before_gives (before_gives exprs_give))) (λ es q. q))
      (made_gives (before_gives (many_gives (after_gives expressions))) (λ es q. q))

  braced_gives : Gives S braced_rule IsSized
  unfolding braced_rule
  braced_gives = made_gives {Q = λ p. IsSized p.1.0 × BraceIsSized p.1.1} (second_gives {H = λ p. IsSized p.0 × BraceIsSized p.1} (both_give expressions brace_end_gives)) (λ p q. brace_sized p.0 p.1.0 p.1.1 q.0 q.1)

  cast_gives : Gives S cast_rule IsSized
  unfolding cast_rule
  cast_gives = made_gives {Q = λ p. IsSized p.1} (second_gives (after_gives (before_gives expressions))) (λ p q. q)

  prim_gives : Gives S prim_rule IsSized
  unfolding prim_rule
  prim_gives = either_gives number_gives (either_gives selects_give (either_gives paren_gives (either_gives braced_gives cast_gives)))

  unary_gives : Gives S unary_rule IsSized
  unfolding unary_rule
  unary_gives = either_gives (made_gives {Q = λ p. IsSized p.1} (second_gives (operands level.Unary)) (λ p q. q)) prim_gives

  -- ---- operators

  operation_gives : (l tight : Level) → Gives S (operation_rule l tight) (λ p. IsSized p.1)
  unfolding operation_rule
  operation_gives l tight = second_gives (operands tight)

  operations_give : (l tight : Level) {g : Phrased Expr} → Gives S g IsSized → Gives S (operations l tight g) IsSized
  operations_give l tight h = grow_gives h (operation_gives l tight) (λ a p q r. two_sized (literals a) (literals p.1) q r)

  product_gives : Gives S product_rule IsSized
  unfolding product_rule
  product_gives = operations_give level.Product level.Unary unary_gives

  sum_gives : Gives S sum_rule IsSized
  unfolding sum_rule
  sum_gives = operations_give level.Sum level.Product product_gives

  shift_gives : Gives S shift_rule IsSized
  unfolding shift_rule
  shift_gives = operations_give level.Shift level.Sum sum_gives

  relation_gives : Gives S relation_rule IsSized
  unfolding relation_rule
  relation_gives = operations_give level.Relation level.Shift shift_gives

  equality_gives : Gives S equality_rule IsSized
  unfolding equality_rule
  equality_gives = operations_give level.Equality level.Relation relation_gives

  bitwise_and_gives : Gives S bitwise_and_rule IsSized
  unfolding bitwise_and_rule
  bitwise_and_gives = operations_give level.BitwiseAnd level.Equality equality_gives

  bitwise_xor_gives : Gives S bitwise_xor_rule IsSized
  unfolding bitwise_xor_rule
  bitwise_xor_gives = operations_give level.BitwiseXor level.BitwiseAnd bitwise_and_gives

  bitwise_or_gives : Gives S bitwise_or_rule IsSized
  unfolding bitwise_or_rule
  bitwise_or_gives = operations_give level.BitwiseOr level.BitwiseXor bitwise_xor_gives

  logical_and_gives : Gives S logical_and_rule IsSized
  unfolding logical_and_rule
  logical_and_gives = operations_give level.LogicalAnd level.BitwiseOr bitwise_or_gives

  logical_or_gives : Gives S logical_or_rule IsSized
  unfolding logical_or_rule
  logical_or_gives = operations_give level.LogicalOr level.LogicalAnd logical_and_gives

  pub level_gives : (l : Level) → Gives S (level_rule l) IsSized
  level_gives level.Unary = unary_gives
  level_gives level.Product = product_gives
  level_gives level.Sum = sum_gives
  level_gives level.Shift = shift_gives
  level_gives level.Relation = relation_gives
  level_gives level.Equality = equality_gives
  level_gives level.BitwiseAnd = bitwise_and_gives
  level_gives level.BitwiseXor = bitwise_xor_gives
  level_gives level.BitwiseOr = bitwise_or_gives
  level_gives level.LogicalAnd = logical_and_gives
  level_gives level.LogicalOr = logical_or_gives

  branches_give : Gives S branches_rule (λ p. IsSized p.0 × IsSized p.1)
  unfolding branches_rule
  branches_give = both_give (after_gives expressions) (after_gives expressions)

  pub expr_gives : Gives S expr_rule IsSized
  unfolding expr_rule
  expr_gives = grow_gives logical_or_gives branches_give (λ c p q r. three_sized (literals c) (literals p.0) (literals p.1) q r.0 r.1)

  -- ---- left sides of assignments

  target_name_gives : Gives S target_name_rule IsSized
  unfolding target_name_rule
  target_name_gives = grow_gives (made_gives any_gives (λ t q. tt)) select_gives (λ x s h k. select_sized x s.0 s.1.0 s.1.1 h k.0 k.1)

  targets_give : Gives S targets_rule (λ es. AllOf IsSized es)
  unfolding targets_rule
  targets_give = listed_gives targets

  pub target_gives : Gives S target_rule IsSized
  unfolding target_rule
  target_gives = either_gives target_name_gives (made_gives {Q = λ p. AllOf IsSized p.1} (second_gives (before_gives targets_give)) (λ p q. list_sized p.1 q))
