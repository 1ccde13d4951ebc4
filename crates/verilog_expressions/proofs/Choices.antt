-- Tests with their branches.
use Rattle.std.proofs.Common.{◌≡◌, ℕ, Bool, true, false, nat_le, List, Ok, Err, refl, ap, ◌∙◌}
use Rattle.std.specs.Prelude.{◌==◌, if◌then◌else◌}
use Rattle.verilog_lexer.specs.Tokens.{Lexeme}
use Rattle.verilog_tree.specs.Tree.{Expr}
use Rattle.verilog_tree.specs.Depth.{depth}
use Rattle.grammar_rules.specs.Rule.{next, fault_at, too_deep, Outcome, ◌>>=◌}
use Rattle.grammar_rules.specs.Grammar.{reads, Nests}
use Rattle.grammar_rules.proofs.Sound.{sound}
use Rattle.grammar_rules.proofs.Language.{phrase_sound}
use Rattle.grammar_rules.proofs.Holds.{Holds, holds}
use Rattle.verilog_grammar.specs.declared.kind.Kind.TheVariants as k
use Rattle.verilog_grammar.specs.Kind.{code}
use Rattle.verilog_grammar.specs.Language.{verilog, Phrase, expression, Value}
use Rattle.verilog_grammar.specs.Parts.{Phrased}
use Rattle.verilog_grammar.specs.Verilog.{grammar, begins}
use Rattle.verilog_grammar.specs.Expressions.{is_no_choice, choice_of, growing_where, branches_rule, expr_rule}
use Rattle.verilog_grammar.specs.Expressions.{logical_or_rule, logical_and_rule, bitwise_or_rule, bitwise_xor_rule, bitwise_and_rule, equality_rule, relation_rule, shift_rule, sum_rule, product_rule}
use Rattle.verilog_grammar.specs.Expressions.{operation_rule, unary_rule, prim_rule, number_rule, selects_rule, select_rule, select_end_rule}
use Rattle.verilog_grammar.specs.Expressions.{paren_rule, braced_rule, brace_end_rule, exprs_rule, cast_rule}
use Rattle.verilog_expressions.specs.Grows.{grows, by_branches}
use Rattle.verilog_expressions.proofs.Grown.{stays, stays_so, goes_on}

-- ---- what binds tighter is no choice

module _ (d : ℕ) where
  abbrev any : (p : Phrase) → Value p → Type 0
  any p v = Unit {0}

  known : (p : Phrase) (v : Value p) (i o : List Lexeme) → Nests verilog grammar d p v i o → any p v
  known p v i o s = tt

  abbrev Shown : Phrased Expr → Type 0
  Shown g = Holds verilog (λ h. nat_le h d) (Nests verilog grammar d) any known g (λ e. is_no_choice e ≡ true)

  prim_shown : Shown prim_rule
  unfolding prim_rule number_rule selects_rule select_rule select_end_rule paren_rule braced_rule brace_end_rule exprs_rule cast_rule
  prim_shown = (
    (λ t. (λ b. refl, refl), λ t. refl),
    (
      (λ t. refl, λ a q fit t e h. (λ c. refl, (λ c l m u. refl, (λ c l m u. refl, λ c l m u. refl)))),
      (λ t e h c. refl, (λ t e h. (λ b f m es l c u. refl, λ es l c. refl), λ t b e h c. refl)),
    ),
  )

  unary_shown : Shown unary_rule
  unfolding unary_rule
  unary_shown = (λ t e h. refl, prim_shown)

  -- an operator and its operand
  grown_shown : (a : Expr) → is_no_choice a ≡ true → nat_le (depth a).height d ≡ true → (t : Lexeme) (e : Expr) → any expression e → true ≡ true
  grown_shown a q fit t e h = refl

  tighter_shown : Shown logical_or_rule
  unfolding logical_or_rule logical_and_rule bitwise_or_rule bitwise_xor_rule bitwise_and_rule equality_rule relation_rule shift_rule sum_rule product_rule operation_rule
  tighter_shown = ((((((((((unary_shown, grown_shown), grown_shown), grown_shown), grown_shown), grown_shown), grown_shown), grown_shown), grown_shown), grown_shown), grown_shown)

  pub no_choice : (i : List Lexeme) (v : Expr) (o : List Lexeme) → reads verilog grammar d logical_or_rule i ≡ Ok (v, o) → is_no_choice v ≡ true
  no_choice i v o e =
      holds verilog (λ h. nat_le h d) (Nests verilog grammar d) any known logical_or_rule (λ e. is_no_choice e ≡ true) tighter_shown v i o
      (sound verilog begins (λ h. nat_le h d) _ (Nests verilog grammar d) (phrase_sound verilog grammar d) logical_or_rule i v o e)

  -- ---- what a test grows to

  abbrev tested : Outcome verilog Expr → Outcome verilog Expr
  tested o = o >>= λ x. grows d (growing_where false is_no_choice) choice_of branches_rule x.0 x.1

  expr_is : (i : List Lexeme) → reads verilog grammar d expr_rule i ≡ tested (reads verilog grammar d logical_or_rule i)
  unfolding expr_rule
  expr_is i = refl

  -- a choice does not grow
  only_once : (a : Expr) (b : Bool) (o : Outcome verilog (Expr × Expr)) (i : List Lexeme)
      → tested (if b then (o >>= λ y. Ok (choice_of a y.0, y.1)) else fault_at verilog (too_deep (depth a).place) i)
      ≡ (if b then (o >>= λ y. Ok (choice_of a y.0, y.1)) else fault_at verilog (too_deep (depth a).place) i)
  unfolding branches_rule
  only_once a true (Ok y) i = stays_so d (growing_where false is_no_choice) choice_of branches_rule refl refl (choice_of a y.0) y.1 refl
  only_once a true (Err f) i = refl
  only_once a false o i = refl

  pub expr_alone : (i : List Lexeme) (v : Expr) (m : List Lexeme) → reads verilog grammar d logical_or_rule i ≡ Ok (v, m)
      → (next verilog m == code k.Question) ≡ false → reads verilog grammar d expr_rule i ≡ Ok (v, m)
  unfolding branches_rule
  expr_alone i v m e t = expr_is i ∙ ap tested e ∙ stays d (growing_where false is_no_choice) choice_of branches_rule refl refl v m t

  pub expr_chosen : (i : List Lexeme) (v : Expr) (m : List Lexeme) → reads verilog grammar d logical_or_rule i ≡ Ok (v, m)
      → (next verilog m == code k.Question) ≡ true → reads verilog grammar d expr_rule i ≡ by_branches d v m
  unfolding branches_rule
  expr_chosen i v m e t =
      expr_is i ∙ ap tested e ∙ goes_on d (growing_where false is_no_choice) choice_of branches_rule refl refl v m t (no_choice i v m e)
      ∙ only_once v (nat_le (depth v).height d) (reads verilog grammar d branches_rule m) m
