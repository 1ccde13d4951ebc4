-- The rules of levels: each is that of the next tighter one and what it grows to.
use Rattle.std.proofs.Common.{◌≡◌, ℕ, zero, suc, ◌+◌, ◌-◌, ◌<◌, ◌≤◌, true, false, List, length, Ok, Err, refl, sym, ap, subst, ◌∙◌, arith}
use Rattle.verilog_lexer.specs.Tokens.{Lexeme}
use Rattle.verilog_tree.specs.Tree.{Expr}
use Rattle.grammar_rules.specs.Rule.{next, member, nullable, first, Fault as AnyFault, Outcome, ◌>>=◌}
use Rattle.grammar_rules.specs.Grammar.{reads}
use Rattle.verilog_grammar.specs.Language.{verilog, rank, looser, tighter}
use Rattle.verilog_grammar.specs.declared.level.Level.{Level}
use Rattle.verilog_grammar.specs.declared.level.Level.TheVariants as level
use Rattle.verilog_grammar.specs.Verilog.{grammar, begins}
use Rattle.verilog_grammar.specs.Parts.{Phrased}
use Rattle.verilog_grammar.specs.Expressions.{operators, operation_rule, growing_where, anything, binary_of, level_rule}
use Rattle.verilog_grammar.specs.Expressions.{product_rule, sum_rule, shift_rule, relation_rule, equality_rule, bitwise_and_rule, bitwise_xor_rule, bitwise_or_rule, logical_and_rule, logical_or_rule}
use Rattle.verilog_expressions.specs.declared.fault.ReadFault.{ReadFault}
use Rattle.verilog_expressions.specs.declared.fault.ReadFault.TheVariants as read_fault
use Rattle.verilog_expressions.specs.Gives.{Fails, fault_view}
use Rattle.verilog_expressions.specs.Grows.{by_operators, by_operator}
use Rattle.verilog_expressions.proofs.Grown.{stays, more, more_fails, takes_tokens}
use Rattle.verilog_expressions.proofs.Levels.{loosest}

-- ---- an operator with the operand after it

operation_takes : (l t : Level) → nullable (operation_rule l t) ≡ false
unfolding operation_rule
operation_takes level.Unary t = refl
operation_takes level.Product t = refl
operation_takes level.Sum t = refl
operation_takes level.Shift t = refl
operation_takes level.Relation t = refl
operation_takes level.Equality t = refl
operation_takes level.BitwiseAnd t = refl
operation_takes level.BitwiseXor t = refl
operation_takes level.BitwiseOr t = refl
operation_takes level.LogicalAnd t = refl
operation_takes level.LogicalOr t = refl

operation_first : (l t : Level) → first verilog begins (operation_rule l t) ≡ first verilog begins (operators l)
unfolding operation_rule
operation_first level.Unary t = refl
operation_first level.Product t = refl
operation_first level.Sum t = refl
operation_first level.Shift t = refl
operation_first level.Relation t = refl
operation_first level.Equality t = refl
operation_first level.BitwiseAnd t = refl
operation_first level.BitwiseXor t = refl
operation_first level.BitwiseOr t = refl
operation_first level.LogicalAnd t = refl
operation_first level.LogicalOr t = refl

operators_end : (l : Level) → member 0 (first verilog begins (operators l)) ≡ false
operators_end level.Unary = refl
operators_end level.Product = refl
operators_end level.Sum = refl
operators_end level.Shift = refl
operators_end level.Relation = refl
operators_end level.Equality = refl
operators_end level.BitwiseAnd = refl
operators_end level.BitwiseXor = refl
operators_end level.BitwiseOr = refl
operators_end level.LogicalAnd = refl
operators_end level.LogicalOr = refl

operation_ends : (l t : Level) → member 0 (first verilog begins (operation_rule l t)) ≡ false
operation_ends l t = rw (operation_first l t) (operators_end l)

-- ---- a loop over the operators of a level

module _ (d : ℕ) (l : Level) where
  abbrev part : Phrased (Lexeme × Expr)
  part = operation_rule l (tighter l)

  pub operators_stop : (a : Expr) (i : List Lexeme) (total : Outcome verilog Expr) → member (next verilog i) (first verilog begins (operators l)) ≡ false
      → by_operators d l a i ≡ total → total ≡ Ok (a, i)
  operators_stop a i total t q =
      sym q ∙ stays d (growing_where true anything) binary_of part (operation_takes l (tighter l)) (operation_ends l (tighter l)) a i (rw (operation_first l (tighter l)) t)

  pub operators_more : (a b : Expr) (i m : List Lexeme) (total : Outcome verilog Expr) → member (next verilog i) (first verilog begins (operators l)) ≡ true
      → by_operator d l a i ≡ Ok (b, m) → by_operators d l a i ≡ total → by_operators d l b m ≡ total
  operators_more a b i m total t e q =
      more d (growing_where true anything) binary_of part (operation_takes l (tighter l)) (operation_ends l (tighter l)) a b i m total (rw (operation_first l (tighter l)) t) refl e q

  pub operators_fail : (a : Expr) (i : List Lexeme) (total : Outcome verilog Expr) (e : ReadFault) → member (next verilog i) (first verilog begins (operators l)) ≡ true
      → Fails e (by_operator d l a i) → by_operators d l a i ≡ total → Fails e total
  operators_fail a i total e t x q =
      more_fails d (growing_where true anything) binary_of part (operation_takes l (tighter l)) (operation_ends l (tighter l)) a i total e (rw (operation_first l (tighter l)) t) refl x q

  pub operator_takes_tokens : (a b : Expr) (i m : List Lexeme) → by_operator d l a i ≡ Ok (b, m) → length m < length i
  operator_takes_tokens a b i m e = takes_tokens d (growing_where true anything) binary_of part (operation_takes l (tighter l)) (operation_ends l (tighter l)) a b i m e

-- ---- from one level to the next

-- what an expression of a tighter level grows to by the operators of a level
abbrev grown_by : ℕ → Level → Outcome verilog Expr → Outcome verilog Expr
grown_by d l o = o >>= λ x. by_operators d l x.0 x.1

pub level_up : (d : ℕ) (a : Level) (i : List Lexeme) → rank a < 10 → reads verilog grammar d (level_rule (looser a)) i ≡ grown_by d (looser a) (reads verilog grammar d (level_rule a) i)
unfolding product_rule sum_rule shift_rule relation_rule equality_rule bitwise_and_rule bitwise_xor_rule bitwise_or_rule logical_and_rule logical_or_rule
level_up d level.Unary i h = refl
level_up d level.Product i h = refl
level_up d level.Sum i h = refl
level_up d level.Shift i h = refl
level_up d level.Relation i h = refl
level_up d level.Equality i h = refl
level_up d level.BitwiseAnd i h = refl
level_up d level.BitwiseXor i h = refl
level_up d level.BitwiseOr i h = refl
level_up d level.LogicalAnd i h = refl
level_up d level.LogicalOr i h = absurd (omega arith)

rank_up : (a : Level) → rank a < 10 → rank (looser a) ≡ suc (rank a)
rank_up level.Unary h = refl
rank_up level.Product h = refl
rank_up level.Sum h = refl
rank_up level.Shift h = refl
rank_up level.Relation h = refl
rank_up level.Equality h = refl
rank_up level.BitwiseAnd h = refl
rank_up level.BitwiseXor h = refl
rank_up level.BitwiseOr h = refl
rank_up level.LogicalAnd h = refl
rank_up level.LogicalOr h = absurd (omega arith)

-- so many levels from the tightest
abbrev level_at : ℕ → Level
level_at zero = level.Unary
level_at (suc n) = looser (level_at n)

level_at-rank : (a : Level) → level_at (rank a) ≡ a
level_at-rank level.Unary = refl
level_at-rank level.Product = refl
level_at-rank level.Sum = refl
level_at-rank level.Shift = refl
level_at-rank level.Relation = refl
level_at-rank level.Equality = refl
level_at-rank level.BitwiseAnd = refl
level_at-rank level.BitwiseXor = refl
level_at-rank level.BitwiseOr = refl
level_at-rank level.LogicalAnd = refl
level_at-rank level.LogicalOr = refl

-- levels of one rank are one level
pub same_rank : (a b : Level) → rank a ≡ rank b → a ≡ b
same_rank a b e = sym (level_at-rank a) ∙ ap level_at e ∙ level_at-rank b

pub no_tighter : (a b l : Level) → b ≡ looser a → rank a < rank l → rank b ≤ rank l
no_tighter a b l e h = let k : rank a < 10 = omega (arith, h, loosest l) in rw (e, rank_up a k) (omega arith)

-- what is read of a level, and what it grows to
pub level_read : (d : ℕ) (a b l : Level) (i m : List Lexeme) (v : Expr) → b ≡ looser a → rank a < rank l → reads verilog grammar d (level_rule a) i ≡ Ok (v, m)
    → reads verilog grammar d (level_rule b) i ≡ by_operators d b v m
level_read d a b l i m v e h x = let k : rank a < 10 = omega (arith, h, loosest l) in rw e (level_up d a i k ∙ ap (grown_by d (looser a)) x)

fails_up : (d : ℕ) (n : ℕ) (a b : Level) (i : List Lexeme) (f : AnyFault verilog) → rank b ≡ rank a + n
    → reads verilog grammar d (level_rule a) i ≡ Err f → reads verilog grammar d (level_rule b) i ≡ Err f
fails_up d zero a b i f n e = let k : rank a ≡ rank b = omega arith in subst (λ (l : Level). reads verilog grammar d (level_rule l) i ≡ Err f) (same_rank a b k) e
fails_up d (suc k) a b i f n e =
    let h : rank a < 10 = omega (arith, n, loosest b) in
    fails_up d k (looser a) b i f (rw (rank_up a h) (omega arith)) (level_up d a i h ∙ ap (grown_by d (looser a)) e)

-- a fault of a level is a fault of the looser ones
pub level_fails : (d : ℕ) (a b : Level) (i : List Lexeme) (e : ReadFault) → rank a ≤ rank b
    → Fails e (reads verilog grammar d (level_rule a) i) → Fails e (reads verilog grammar d (level_rule b) i)
level_fails d a b i read_fault.Memory h e = tt
level_fails d a b i (read_fault.At f) h e = let k : rank b ≡ rank a + (rank b - rank a) = omega arith in fails_up d (rank b - rank a) a b i (fault_view f) k e
