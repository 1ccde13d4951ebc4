-- The depth of an expression is that of its parts: where it says, a part begins with one part fewer around it.
use Rattle.std.proofs.Common.{◌≡◌, ◌⊎◌, ℕ, zero, suc, Bool, true, false, cond, nat_le, List, [], ◌∷◌, Option, None, Some, refl, subst, inl, inr, arith}
use Rattle.verilog_lexer.specs.Tokens.{Lexeme}
use Rattle.verilog_tree.specs.Tree.{Expr, exprs_of}
use Rattle.verilog_tree.specs.declared.depth.Depth.{Depth}
use Rattle.verilog_tree.specs.Depth.{depth, alone, none, deeper, under, deepest_of}
use Rattle.grammar_rules.specs.Rule.{both, either, many, made, nest, Chain}
use Rattle.grammar_rules.specs.Grammar.{Nests}
use Rattle.grammar_rules.specs.Around.{Whole, ChainParts, Parts, NestParts}
use Rattle.grammar_rules.proofs.Faults.{Within}
use Rattle.grammar_rules.proofs.Measured.{IsDeepest, deepest_by, deepest_alone, deepest_under, is_fixed, fixed_measures, measured, MeasuresWithin, Measured}
use Rattle.verilog_grammar.specs.declared.kind.Kind.TheVariants as k
use Rattle.verilog_grammar.specs.Kind.{Kind}
use Rattle.verilog_grammar.specs.declared.level.Level.{Level}
use Rattle.verilog_grammar.specs.declared.level.Level.TheVariants as level
use Rattle.verilog_grammar.specs.declared.body.Body.TheVariants.{Combinational, Clocked, Initial}
use Rattle.verilog_grammar.specs.Language.{verilog, Phrase, expression, operand, target, statement, Value}
use Rattle.verilog_grammar.specs.Parts.{Phrased, only, any_of, after, before, listed, in_parentheses, an_expression}
use Rattle.verilog_grammar.specs.Expressions.{sized_or_decimal, number_rule, SelectEnd, selected_by, selected, select_end_rule, select_rule, selects_rule, identifier_of, paren_of, cast_of, BraceEnd, unary_operators, unary_of, is_selected_once, may_be_indexed, growing_where, exprs_rule, paren_rule, brace_end_rule, braced_by, braced_rule, cast_rule, prim_rule, unary_rule, operators, operation_rule, operations, binary_of, anything, product_rule, sum_rule, shift_rule, relation_rule, equality_rule, bitwise_and_rule, bitwise_xor_rule, bitwise_or_rule, logical_and_rule, logical_or_rule, level_rule, branches_rule, choice_of, is_no_choice, ends_with_choice, expr_rule, target_name_rule, targets_rule, concat_of, target_rule}
use Rattle.verilog_grammar.specs.Parts.{range_rule}
use Rattle.verilog_grammar.specs.Statements.{statements_rule, block_rule, if_rule, label_arm_rule, label_arms_rule, default_arm_rule, default_arms_rule, arms_rule, case_rule, set_rule, header_rule, for_rule, assignment_rule, argument_rule, arguments_rule, task_rule, statement_rule}
use Rattle.verilog_grammar.specs.Modules.{direction_rule, shape_rule, port_rule, entry_rule, entries_rule, plist_rule, header_ports_rule, type_rule, valued_rule, header_param_rule, header_params_rule, port_item_rule, net_rule, net_item_rule, variable_rule, variable_item_rule, integer_item_rule, parameter_item_rule, continuous_item_rule, edge_rule, timed_rule, always_item_rule, initial_item_rule, overrides_rule, connections_rule, one_rule, instance_item_rule, item_rule, items_rule, module_rule, source_rule}
use Rattle.verilog_grammar.specs.declared.body.Body.{Body}
use Rattle.verilog_grammar.specs.Verilog.{grammar, rule_of}

-- a part begins there with one part fewer around it than the height
abbrev IsDeep : (ℕ → List Lexeme → Type 0) → Depth → Type 0
IsDeep Q D = IsDeepest verilog Q D.height D.place

wide : (Q S : ℕ → List Lexeme → Type 0) (D : Depth) → ((n : ℕ) (j : List Lexeme) → Q n j → S n j) → IsDeep Q D → IsDeep S D
wide Q S D h s = deepest_by verilog Q S D.height D.place h s

alone_deep : (t : Lexeme) (i o : List Lexeme) (Q : ℕ → List Lexeme → Type 0) → i ≡ t ∷ o → IsDeep (Whole verilog i Q) (alone t.place)
alone_deep t i o Q e = deepest_alone verilog t i o Q e

under_deep : (i : List Lexeme) (Q : ℕ → List Lexeme → Type 0) (D : Depth) → IsDeep Q D → IsDeep (Whole verilog i Q) (under D)
under_deep i Q D s = deepest_under verilog i Q D.height D.place s

two_deep : (Q S : ℕ → List Lexeme → Type 0) (A B : Depth) → IsDeep Q A → IsDeep S B → IsDeep (λ n j. Q n j ⊎ S n j) (deeper A B)
two_deep Q S A B h l = go (nat_le B.height A.height)
  where
    go : (c : Bool) → IsDeep (λ n j. Q n j ⊎ S n j) (cond c A B)
    go true = wide Q (λ n j. Q n j ⊎ S n j) A (λ n j s. inl s) h
    go false = wide S (λ n j. Q n j ⊎ S n j) B (λ n j s. inr s) l

three_deep : (Q S U : ℕ → List Lexeme → Type 0) (A B C : Depth) → IsDeep Q A → IsDeep S B → IsDeep U C → IsDeep (λ n j. Q n j ⊎ (S n j ⊎ U n j)) (deeper (deeper A B) C)
three_deep Q S U A B C h l m =
    wide (λ n j. (Q n j ⊎ S n j) ⊎ U n j) (λ n j. Q n j ⊎ (S n j ⊎ U n j)) (deeper (deeper A B) C) (λ n j s. elim s [ inl a ↦ elim a [ inl b ↦ inl b | inr b ↦ inr (inl b) ] | inr a ↦ inr (inr a) ])
    (two_deep (λ n j. Q n j ⊎ S n j) U (deeper A B) C (two_deep Q S A B h l) m)

-- no part is less deep than a part
none_deep : (Q : ℕ → List Lexeme → Type 0) (A B : Depth) → A.height ≡ 0 → IsDeep Q B → IsDeep Q (deeper A B)
none_deep Q A B z s = go (nat_le B.height A.height) refl
  where
    go : (c : Bool) → nat_le B.height A.height ≡ c → IsDeep Q (cond c A B)
    go true e = absurd (grind (arith, e, z, s.2))
    go false e = s

-- what is shown of a phrase
abbrev IsMeasured : (p : Phrase) → Value p → List Lexeme → (ℕ → List Lexeme → Type 0) → Type 0
IsMeasured expression v i Q = IsDeep (Whole verilog i Q) (depth v)
IsMeasured (operand l) v i Q = IsDeep (Whole verilog i Q) (depth v)
IsMeasured target v i Q = IsDeep (Whole verilog i Q) (depth v)
IsMeasured (statement b) v i Q = Unit {0}

fixed_operators : (l : Level) → is_fixed verilog (operators l) ≡ true
fixed_operators level.Unary = refl
fixed_operators level.Product = refl
fixed_operators level.Sum = refl
fixed_operators level.Shift = refl
fixed_operators level.Relation = refl
fixed_operators level.Equality = refl
fixed_operators level.BitwiseAnd = refl
fixed_operators level.BitwiseXor = refl
fixed_operators level.BitwiseOr = refl
fixed_operators level.LogicalAnd = refl
fixed_operators level.LogicalOr = refl

module _ (d : ℕ) (nested : (p : Phrase) (v : Value p) (i o : List Lexeme) (s : Nests verilog grammar d p v i o) → IsMeasured p v i (NestParts verilog grammar d p v i o s)) where
  -- the parts in what is spelled
  abbrev In : {A : Type 0} (g : Phrased A) (v : A) (i o : List Lexeme) → Within verilog grammar d g v i o → ℕ → List Lexeme → Type 0
  In g v i o s n j = Parts verilog (λ h. nat_le h d) (Nests verilog grammar d) (NestParts verilog grammar d) g v i o s n j

  fixed : {A : Type 0} (g : Phrased A) → is_fixed verilog g ≡ true → MeasuresWithin verilog grammar d g
  fixed g c = fixed_measures verilog (λ h. nat_le h d) (Nests verilog grammar d) (NestParts verilog grammar d) g c

  -- the parts are as deep as the value says
  abbrev AreDeep : {A : Type 0} → Phrased A → (A → Depth) → Type 0
  AreDeep {A} g D = (v : A) (i o : List Lexeme) (s : Within verilog grammar d g v i o) → IsDeep (In g v i o s) (D v)

  -- so is the value as a part
  abbrev IsDeepWhole : Phrased Expr → Type 0
  IsDeepWhole g = (v : Expr) (i o : List Lexeme) (s : Within verilog grammar d g v i o) → IsDeep (Whole verilog i (In g v i o s)) (depth v)

  expression_deep : AreDeep an_expression depth
  expression_deep v i o s = nested expression v i o s

  target_deep : AreDeep (nest target) depth
  target_deep v i o s = nested target v i o s

  after_deep : {A : Type 0} (x : Kind) (g : Phrased A) (D : A → Depth) → AreDeep g D → AreDeep (after x g) D
  after_deep {A} x g D h v i o s = subst (λ (u : A). IsDeep (λ n j. ⊥ ⊎ In g s.0.1 s.2.0 o s.2.2 n j) (D u)) s.1 (wide (In g s.0.1 s.2.0 o s.2.2) (λ n j. ⊥ ⊎ In g s.0.1 s.2.0 o s.2.2 n j) (D s.0.1) (λ n j y. inr y) (h s.0.1 s.2.0 o s.2.2))

  before_deep : {A : Type 0} (x : Kind) (g : Phrased A) (D : A → Depth) → AreDeep g D → AreDeep (before g x) D
  before_deep {A} x g D h v i o s = subst (λ (u : A). IsDeep (λ n j. In g s.0.0 i s.2.0 s.2.1 n j ⊎ ⊥) (D u)) s.1 (wide (In g s.0.0 i s.2.0 s.2.1) (λ n j. In g s.0.0 i s.2.0 s.2.1 n j ⊎ ⊥) (D s.0.0) (λ n j y. inl y) (h s.0.0 i s.2.0 s.2.1))

  -- a value that is made of such parts is one higher
  made_whole : {A : Type 0} (g : Phrased A) (f : A → Expr) (D : A → Depth) → AreDeep g D → ((a : A) → under (D a) ≡ depth (f a)) → IsDeepWhole (made f g)
  made_whole g f D h e v i o s =
      subst (λ (u : Expr). IsDeep (Whole verilog i (In g s.0 i o s.2)) (depth u)) s.1
      (subst (λ (u : Depth). IsDeep (Whole verilog i (In g s.0 i o s.2)) u) (e s.0) (under_deep i (In g s.0 i o s.2) (D s.0) (h s.0 i o s.2)))

  behind_deep : {A B : Type 0} (g : Phrased A) (h : Phrased B) (D : B → Depth) → AreDeep h D → AreDeep (both g h) (λ p. D p.1)
  behind_deep g h D k v i o s = wide (In h v.1 s.0 o s.2) (In (both g h) v i o s) (D v.1) (λ n j y. inr y) (k v.1 s.0 o s.2)

  either_whole : (g h : Phrased Expr) → IsDeepWhole g → IsDeepWhole h → IsDeepWhole (either g h)
  either_whole g h k l v i o (inl s) = k v i o s
  either_whole g h k l v i o (inr s) = l v i o s

  -- ---- lists

  chain_deep : (g : Phrased Expr) → AreDeep g depth → (Q : ℕ → List Lexeme → Type 0) (D : Depth) → IsDeep Q D → (es : List Expr) (i o : List Lexeme) (s : Chain (Within verilog grammar d g) es i o)
      → IsDeep (λ n j. Q n j ⊎ ChainParts verilog (Within verilog grammar d g) (In g) es i o s n j) (deepest_of D (exprs_of es))
  chain_deep g h Q D q [] i o s = wide Q (λ n j. Q n j ⊎ ⊥) D (λ n j y. inl y) q
  chain_deep g h Q D q (e ∷ es) i o s =
      wide (λ n j. (Q n j ⊎ In g e i s.0 s.1 n j) ⊎ ChainParts verilog (Within verilog grammar d g) (In g) es s.0 o s.2 n j) (λ n j. Q n j ⊎ ChainParts verilog (Within verilog grammar d g) (In g) (e ∷ es) i o s n j)
      (deepest_of (deeper D (depth e)) (exprs_of es)) (λ n j y. elim y [ inl a ↦ elim a [ inl b ↦ inl b | inr b ↦ inr (inl b) ] | inr a ↦ inr (inr a) ])
      (chain_deep g h (λ n j. Q n j ⊎ In g e i s.0 s.1 n j) (deeper D (depth e)) (two_deep Q (In g e i s.0 s.1) D (depth e) q (h e i s.0 s.1)) es s.0 o s.2)

  -- one or more with commas between, after others
  listed_deep : (g : Phrased Expr) → AreDeep g depth → (Q : ℕ → List Lexeme → Type 0) (D : Depth) → IsDeep Q D → (es : List Expr) (i o : List Lexeme) (s : Within verilog grammar d (listed g) es i o)
      → IsDeep (λ n j. Q n j ⊎ In (listed g) es i o s n j) (deepest_of D (exprs_of es))
  listed_deep g h Q D q es i o s =
      subst (λ (u : List Expr). IsDeep (λ n j. Q n j ⊎ In (listed g) es i o s n j) (deepest_of D (exprs_of u))) s.1
      (wide (λ n j. (Q n j ⊎ In g s.0.0 i s.2.0 s.2.1 n j) ⊎ In (many (after k.Comma g)) s.0.1 s.2.0 o s.2.2 n j) (λ n j. Q n j ⊎ In (listed g) es i o s n j)
      (deepest_of (deeper D (depth s.0.0)) (exprs_of s.0.1)) (λ n j y. elim y [ inl a ↦ elim a [ inl b ↦ inl b | inr b ↦ inr (inl b) ] | inr a ↦ inr (inr a) ])
      (chain_deep (after k.Comma g) (after_deep k.Comma g depth h) (λ n j. Q n j ⊎ In g s.0.0 i s.2.0 s.2.1 n j) (deeper D (depth s.0.0)) (two_deep Q (In g s.0.0 i s.2.0 s.2.1) D (depth s.0.0) q (h s.0.0 i s.2.0 s.2.1)) s.0.1 s.2.0 o s.2.2))

  -- one or more with commas between
  first_listed : (g : Phrased Expr) → AreDeep g depth → (N : Depth) → N.height ≡ 0 → (es : List Expr) (i o : List Lexeme) (s : Within verilog grammar d (listed g) es i o) → IsDeep (In (listed g) es i o s) (deepest_of N (exprs_of es))
  first_listed g h N z es i o s =
      subst (λ (u : List Expr). IsDeep (In (listed g) es i o s) (deepest_of N (exprs_of u))) s.1
      (chain_deep (after k.Comma g) (after_deep k.Comma g depth h) (In g s.0.0 i s.2.0 s.2.1) (deeper N (depth s.0.0)) (none_deep (In g s.0.0 i s.2.0 s.2.1) N (depth s.0.0) z (h s.0.0 i s.2.0 s.2.1)) s.0.1 s.2.0 o s.2.2)

  -- ---- names and selects

  number_whole : IsDeepWhole number_rule
  unfolding number_rule
  number_whole v i o (inl s) =
      subst (λ (u : Expr). IsDeep (Whole verilog i (In number_rule v i o (inl s))) (depth u)) s.1
      (sized s.0.1 (λ n j. In number_rule v i o (inl s) n j) (alone_deep s.0.0 i s.2.0 (In number_rule v i o (inl s)) s.2.1.0))
    where
      sized : (b : Option Lexeme) (Q : ℕ → List Lexeme → Type 0) → IsDeep (Whole verilog i Q) (alone s.0.0.place) → IsDeep (Whole verilog i Q) (depth (sized_or_decimal s.0.0 b))
      sized None Q h = h
      sized (Some b) Q h = h
  number_whole v i o (inr s) =
      subst (λ (u : Expr). IsDeep (Whole verilog i (In number_rule v i o (inr s))) (depth u)) s.1 (alone_deep s.0 i o (In number_rule v i o (inr s)) s.2.0)

  name_whole : IsDeepWhole (made identifier_of (only k.Identifier))
  name_whole v i o s = subst (λ (u : Expr). IsDeep (Whole verilog i (λ n j. ⊥)) (depth u)) s.1 (alone_deep s.0 i o (λ n j. ⊥) s.2.0)

  end_deep : (x : Expr) (t : Lexeme) (e : Expr) (z : List Lexeme) (Q S : ℕ → List Lexeme → Type 0) → IsDeep Q (depth x) → IsDeep S (depth e) → (y : SelectEnd) (i o : List Lexeme) (s : Within verilog grammar d select_end_rule y i o)
      → IsDeep (Whole verilog z (λ n j. Q n j ⊎ (S n j ⊎ In select_end_rule y i o s n j))) (depth (selected_by x t e y))
  unfolding select_end_rule
  end_deep x t e z Q S q h y i o (inl s) =
      subst (λ (u : SelectEnd). IsDeep (Whole verilog z (λ n j. Q n j ⊎ (S n j ⊎ ⊥))) (depth (selected_by x t e u))) s.1
      (under_deep z (λ n j. Q n j ⊎ (S n j ⊎ ⊥)) (deeper (depth x) (depth e)) (two_deep Q (λ n j. S n j ⊎ ⊥) (depth x) (depth e) q (wide S (λ n j. S n j ⊎ ⊥) (depth e) (λ n j y. inl y) h)))
  end_deep x t e z Q S q h y i o (inr (inl s)) =
      let g = after_deep k.Colon (before an_expression k.CloseBracket) depth (before_deep k.CloseBracket an_expression depth expression_deep) s.0 i o s.2 in
      subst (λ (u : SelectEnd). IsDeep (Whole verilog z (λ n j. Q n j ⊎ (S n j ⊎ In (after k.Colon (before an_expression k.CloseBracket)) s.0 i o s.2 n j))) (depth (selected_by x t e u))) s.1
      (under_deep z (λ n j. Q n j ⊎ (S n j ⊎ In (after k.Colon (before an_expression k.CloseBracket)) s.0 i o s.2 n j)) (deeper (deeper (depth x) (depth e)) (depth s.0)) (three_deep Q S (In (after k.Colon (before an_expression k.CloseBracket)) s.0 i o s.2) (depth x) (depth e) (depth s.0) q h g))
  end_deep x t e z Q S q h y i o (inr (inr (inl s))) =
      let g = after_deep k.PlusColon (before an_expression k.CloseBracket) depth (before_deep k.CloseBracket an_expression depth expression_deep) s.0 i o s.2 in
      subst (λ (u : SelectEnd). IsDeep (Whole verilog z (λ n j. Q n j ⊎ (S n j ⊎ In (after k.PlusColon (before an_expression k.CloseBracket)) s.0 i o s.2 n j))) (depth (selected_by x t e u))) s.1
      (under_deep z (λ n j. Q n j ⊎ (S n j ⊎ In (after k.PlusColon (before an_expression k.CloseBracket)) s.0 i o s.2 n j)) (deeper (deeper (depth x) (depth e)) (depth s.0)) (three_deep Q S (In (after k.PlusColon (before an_expression k.CloseBracket)) s.0 i o s.2) (depth x) (depth e) (depth s.0) q h g))
  end_deep x t e z Q S q h y i o (inr (inr (inr s))) =
      let g = after_deep k.MinusColon (before an_expression k.CloseBracket) depth (before_deep k.CloseBracket an_expression depth expression_deep) s.0 i o s.2 in
      subst (λ (u : SelectEnd). IsDeep (Whole verilog z (λ n j. Q n j ⊎ (S n j ⊎ In (after k.MinusColon (before an_expression k.CloseBracket)) s.0 i o s.2 n j))) (depth (selected_by x t e u))) s.1
      (under_deep z (λ n j. Q n j ⊎ (S n j ⊎ In (after k.MinusColon (before an_expression k.CloseBracket)) s.0 i o s.2 n j)) (deeper (deeper (depth x) (depth e)) (depth s.0)) (three_deep Q S (In (after k.MinusColon (before an_expression k.CloseBracket)) s.0 i o s.2) (depth x) (depth e) (depth s.0) q h g))

  select_step : (Q : ℕ → List Lexeme → Type 0) (i : List Lexeme) (a : Expr) (b : Lexeme × (Expr × SelectEnd)) (m o : List Lexeme) (s : Within verilog grammar d select_rule b m o) → IsDeep (Whole verilog i Q) (depth a)
      → IsDeep (Whole verilog i (λ n j. Whole verilog i Q n j ⊎ In select_rule b m o s n j)) (depth (selected a b))
  unfolding select_rule
  select_step Q i a b m o s h =
      let g = end_deep a b.0 b.1.0 i (Whole verilog i Q) (In an_expression b.1.0 s.0 s.2.0 s.2.1) h (expression_deep b.1.0 s.0 s.2.0 s.2.1) b.1.1 s.2.0 o s.2.2 in
      deepest_by verilog (Whole verilog i (λ n j. Whole verilog i Q n j ⊎ (In an_expression b.1.0 s.0 s.2.0 s.2.1 n j ⊎ In select_end_rule b.1.1 s.2.0 o s.2.2 n j))) (Whole verilog i (λ n j. Whole verilog i Q n j ⊎ In select_rule b m o s n j))
      (depth (selected a b)).height (depth (selected a b)).place
      (λ n j y. elim y [ inl e ↦ inl e | inr e ↦ inr (e.0, e.1, elim e.2 [ inl x ↦ inl x | inr x ↦ inr (inr x) ]) ]) g

  select_fixed : MeasuresWithin verilog grammar d select_rule
  unfolding select_rule select_end_rule
  select_fixed = fixed select_rule refl

  name_fixed : MeasuresWithin verilog grammar d (made identifier_of (only k.Identifier))
  name_fixed = fixed (made identifier_of (only k.Identifier)) refl

  selects_measures : MeasuresWithin verilog grammar d selects_rule
  unfolding selects_rule
  selects_measures = (name_fixed, select_fixed, name_whole, select_step)

  selects_whole : IsDeepWhole selects_rule
  unfolding selects_rule
  selects_whole v i o s = measured verilog (λ h. nat_le h d) (Nests verilog grammar d) (NestParts verilog grammar d) (growing_where true is_selected_once) selected tt (made identifier_of (only k.Identifier)) select_rule selects_measures v i o s

  -- ---- what binds tightest

  paren_whole : IsDeepWhole paren_rule
  unfolding paren_rule
  paren_whole =
      made_whole (both (only k.OpenParen) (before an_expression k.CloseParen)) paren_of (λ p. depth p.1)
      (behind_deep (only k.OpenParen) (before an_expression k.CloseParen) depth (before_deep k.CloseParen an_expression depth expression_deep)) (λ p. refl)

  cast_whole : IsDeepWhole cast_rule
  unfolding cast_rule
  cast_whole =
      made_whole (both (any_of k.SignedCast (k.UnsignedCast ∷ [])) (in_parentheses an_expression)) cast_of (λ p. depth p.1)
      (behind_deep (any_of k.SignedCast (k.UnsignedCast ∷ [])) (in_parentheses an_expression) depth (after_deep k.OpenParen (before an_expression k.CloseParen) depth (before_deep k.CloseParen an_expression depth expression_deep))) (λ p. refl)

  -- parts that come after others, with the depth of all
  abbrev AreJoined : {A : Type 0} → Phrased A → (ℕ → List Lexeme → Type 0) → (A → Depth) → Type 0
  AreJoined {A} g Q D = (v : A) (i o : List Lexeme) (s : Within verilog grammar d g v i o) → IsDeep (λ n j. Q n j ⊎ In g v i o s n j) (D v)

  after_joined : {A : Type 0} (x : Kind) (g : Phrased A) (Q : ℕ → List Lexeme → Type 0) (D : A → Depth) → AreJoined g Q D → AreJoined (after x g) Q D
  after_joined {A} x g Q D h v i o s =
      subst (λ (u : A). IsDeep (λ n j. Q n j ⊎ (⊥ ⊎ In g s.0.1 s.2.0 o s.2.2 n j)) (D u)) s.1
      (wide (λ n j. Q n j ⊎ In g s.0.1 s.2.0 o s.2.2 n j) (λ n j. Q n j ⊎ (⊥ ⊎ In g s.0.1 s.2.0 o s.2.2 n j)) (D s.0.1) (λ n j y. elim y [ inl e ↦ inl e | inr e ↦ inr (inr e) ]) (h s.0.1 s.2.0 o s.2.2))

  before_joined : {A : Type 0} (x : Kind) (g : Phrased A) (Q : ℕ → List Lexeme → Type 0) (D : A → Depth) → AreJoined g Q D → AreJoined (before g x) Q D
  before_joined {A} x g Q D h v i o s =
      subst (λ (u : A). IsDeep (λ n j. Q n j ⊎ (In g s.0.0 i s.2.0 s.2.1 n j ⊎ ⊥)) (D u)) s.1
      (wide (λ n j. Q n j ⊎ In g s.0.0 i s.2.0 s.2.1 n j) (λ n j. Q n j ⊎ (In g s.0.0 i s.2.0 s.2.1 n j ⊎ ⊥)) (D s.0.0) (λ n j y. elim y [ inl e ↦ inl e | inr e ↦ inr (inl e) ]) (h s.0.0 i s.2.0 s.2.1))

  exprs_joined : (Q : ℕ → List Lexeme → Type 0) (D : Depth) → IsDeep Q D → AreJoined exprs_rule Q (λ es. deepest_of D (exprs_of es))
  unfolding exprs_rule
  exprs_joined Q D q es i o s = listed_deep an_expression expression_deep Q D q es i o s

  abbrev repeated_rule : Phrased (List Expr)
  repeated_rule = after k.OpenBrace (before (before exprs_rule k.CloseBrace) k.CloseBrace)

  abbrev others_rule : Phrased (List Expr)
  others_rule = before (many (after k.Comma an_expression)) k.CloseBrace

  brace_deep : (t : Lexeme) (e : Expr) (z : List Lexeme) (Q : ℕ → List Lexeme → Type 0) → IsDeep Q (depth e) → (y : BraceEnd) (i o : List Lexeme) (s : Within verilog grammar d brace_end_rule y i o)
      → IsDeep (Whole verilog z (λ n j. ⊥ ⊎ (Q n j ⊎ In brace_end_rule y i o s n j))) (depth (braced_by t e y))
  unfolding brace_end_rule
  brace_deep t e z Q q y i o (inl s) =
      subst (λ (u : BraceEnd). IsDeep (Whole verilog z (λ n j. ⊥ ⊎ (Q n j ⊎ In repeated_rule s.0 i o s.2 n j))) (depth (braced_by t e u))) s.1
      (under_deep z (λ n j. ⊥ ⊎ (Q n j ⊎ In repeated_rule s.0 i o s.2 n j)) (deepest_of (depth e) (exprs_of s.0))
      (wide (λ n j. Q n j ⊎ In repeated_rule s.0 i o s.2 n j) (λ n j. ⊥ ⊎ (Q n j ⊎ In repeated_rule s.0 i o s.2 n j)) (deepest_of (depth e) (exprs_of s.0)) (λ n j y. inr y)
      (after_joined k.OpenBrace (before (before exprs_rule k.CloseBrace) k.CloseBrace) Q (λ es. deepest_of (depth e) (exprs_of es))
      (before_joined k.CloseBrace (before exprs_rule k.CloseBrace) Q (λ es. deepest_of (depth e) (exprs_of es)) (before_joined k.CloseBrace exprs_rule Q (λ es. deepest_of (depth e) (exprs_of es)) (exprs_joined Q (depth e) q)))
      s.0 i o s.2)))
  brace_deep t e z Q q y i o (inr s) =
      let start : IsDeep Q (deeper (none t.place) (depth e)) = none_deep Q (none t.place) (depth e) refl q in
      subst (λ (u : BraceEnd). IsDeep (Whole verilog z (λ n j. ⊥ ⊎ (Q n j ⊎ In others_rule s.0 i o s.2 n j))) (depth (braced_by t e u))) s.1
      (under_deep z (λ n j. ⊥ ⊎ (Q n j ⊎ In others_rule s.0 i o s.2 n j)) (deepest_of (deeper (none t.place) (depth e)) (exprs_of s.0))
      (wide (λ n j. Q n j ⊎ In others_rule s.0 i o s.2 n j) (λ n j. ⊥ ⊎ (Q n j ⊎ In others_rule s.0 i o s.2 n j)) (deepest_of (deeper (none t.place) (depth e)) (exprs_of s.0)) (λ n j y. inr y)
      (before_joined k.CloseBrace (many (after k.Comma an_expression)) Q (λ es. deepest_of (deeper (none t.place) (depth e)) (exprs_of es))
      (chain_deep (after k.Comma an_expression) (after_deep k.Comma an_expression depth expression_deep) Q (deeper (none t.place) (depth e)) start)
      s.0 i o s.2)))

  braced_whole : IsDeepWhole braced_rule
  unfolding braced_rule
  braced_whole v i o s =
      subst (λ (u : Expr). IsDeep (Whole verilog i (λ n j. ⊥ ⊎ (In an_expression s.0.1.0 s.2.0 s.2.2.0 s.2.2.1 n j ⊎ In brace_end_rule s.0.1.1 s.2.2.0 o s.2.2.2 n j))) (depth u)) s.1
      (brace_deep s.0.0 s.0.1.0 i (In an_expression s.0.1.0 s.2.0 s.2.2.0 s.2.2.1) (expression_deep s.0.1.0 s.2.0 s.2.2.0 s.2.2.1) s.0.1.1 s.2.2.0 o s.2.2.2)

  prim_whole : IsDeepWhole prim_rule
  unfolding prim_rule
  prim_whole =
      either_whole number_rule (either selects_rule (either paren_rule (either braced_rule cast_rule))) number_whole
      (either_whole selects_rule (either paren_rule (either braced_rule cast_rule)) selects_whole
      (either_whole paren_rule (either braced_rule cast_rule) paren_whole (either_whole braced_rule cast_rule braced_whole cast_whole)))

  number_fixed : MeasuresWithin verilog grammar d number_rule
  unfolding number_rule
  number_fixed = fixed number_rule refl

  paren_fixed : MeasuresWithin verilog grammar d paren_rule
  unfolding paren_rule
  paren_fixed = fixed paren_rule refl

  braced_fixed : MeasuresWithin verilog grammar d braced_rule
  unfolding braced_rule brace_end_rule exprs_rule
  braced_fixed = fixed braced_rule refl

  cast_fixed : MeasuresWithin verilog grammar d cast_rule
  unfolding cast_rule
  cast_fixed = fixed cast_rule refl

  unary_measures : MeasuresWithin verilog grammar d unary_rule
  unfolding unary_rule prim_rule
  unary_measures = (fixed (made unary_of (both unary_operators (nest (operand level.Unary)))) refl, (number_fixed, (selects_measures, (paren_fixed, (braced_fixed, cast_fixed)))))

  unary_whole : IsDeepWhole unary_rule
  unfolding unary_rule
  unary_whole =
      either_whole (made unary_of (both unary_operators (nest (operand level.Unary)))) prim_rule
      (made_whole (both unary_operators (nest (operand level.Unary))) unary_of (λ p. depth p.1) (behind_deep unary_operators (nest (operand level.Unary)) depth (λ v i o s. nested (operand level.Unary) v i o s)) (λ p. refl)) prim_whole

  -- ---- operators

  operation_fixed : (l tight : Level) → MeasuresWithin verilog grammar d (operation_rule l tight)
  unfolding operation_rule
  operation_fixed l tight = (fixed (operators l) (fixed_operators l), tt)

  operation_step : (l tight : Level) (Q : ℕ → List Lexeme → Type 0) (i : List Lexeme) (a : Expr) (b : Lexeme × Expr) (m o : List Lexeme) (s : Within verilog grammar d (operation_rule l tight) b m o) → IsDeep (Whole verilog i Q) (depth a)
      → IsDeep (Whole verilog i (λ n j. Whole verilog i Q n j ⊎ In (operation_rule l tight) b m o s n j)) (depth (binary_of a b))
  unfolding operation_rule
  operation_step l tight Q i a b m o s h =
      under_deep i (λ n j. Whole verilog i Q n j ⊎ In (operation_rule l tight) b m o s n j) (deeper (depth a) (depth b.1))
      (two_deep (Whole verilog i Q) (In (operation_rule l tight) b m o s) (depth a) (depth b.1) h (behind_deep (operators l) (nest (operand tight)) depth (λ v i o s. nested (operand tight) v i o s) b m o s))

  level_measures : (l tight : Level) (g : Phrased Expr) → IsDeepWhole g → MeasuresWithin verilog grammar d g → MeasuresWithin verilog grammar d (operations l tight g)
  level_measures l tight g h k = (k, operation_fixed l tight, h, operation_step l tight)

  level_whole : (l tight : Level) (g : Phrased Expr) → IsDeepWhole g → MeasuresWithin verilog grammar d g → IsDeepWhole (operations l tight g)
  level_whole l tight g h k v i o s =
      measured verilog (λ h. nat_le h d) (Nests verilog grammar d) (NestParts verilog grammar d) (growing_where true anything) binary_of tt g (operation_rule l tight) (level_measures l tight g h k) v i o s

  choice_step : (Q : ℕ → List Lexeme → Type 0) (i : List Lexeme) (a : Expr) (b : Expr × Expr) (m o : List Lexeme) (s : Within verilog grammar d branches_rule b m o) → IsDeep (Whole verilog i Q) (depth a)
      → IsDeep (Whole verilog i (λ n j. Whole verilog i Q n j ⊎ In branches_rule b m o s n j)) (depth (choice_of a b))
  unfolding branches_rule
  choice_step Q i a b m o s h =
      under_deep i (λ n j. Whole verilog i Q n j ⊎ In branches_rule b m o s n j) (deeper (deeper (depth a) (depth b.0)) (depth b.1))
      (three_deep (Whole verilog i Q) (In (after k.Question an_expression) b.0 m s.0 s.1) (In (after k.Colon an_expression) b.1 s.0 o s.2) (depth a) (depth b.0) (depth b.1) h
      (after_deep k.Question an_expression depth expression_deep b.0 m s.0 s.1) (after_deep k.Colon an_expression depth expression_deep b.1 s.0 o s.2))

  product_measures : MeasuresWithin verilog grammar d product_rule
  unfolding product_rule
  product_measures = level_measures level.Product level.Unary unary_rule unary_whole unary_measures

  product_whole : IsDeepWhole product_rule
  unfolding product_rule
  product_whole = level_whole level.Product level.Unary unary_rule unary_whole unary_measures

  sum_measures : MeasuresWithin verilog grammar d sum_rule
  unfolding sum_rule
  sum_measures = level_measures level.Sum level.Product product_rule product_whole product_measures

  sum_whole : IsDeepWhole sum_rule
  unfolding sum_rule
  sum_whole = level_whole level.Sum level.Product product_rule product_whole product_measures

  shift_measures : MeasuresWithin verilog grammar d shift_rule
  unfolding shift_rule
  shift_measures = level_measures level.Shift level.Sum sum_rule sum_whole sum_measures

  shift_whole : IsDeepWhole shift_rule
  unfolding shift_rule
  shift_whole = level_whole level.Shift level.Sum sum_rule sum_whole sum_measures

  relation_measures : MeasuresWithin verilog grammar d relation_rule
  unfolding relation_rule
  relation_measures = level_measures level.Relation level.Shift shift_rule shift_whole shift_measures

  relation_whole : IsDeepWhole relation_rule
  unfolding relation_rule
  relation_whole = level_whole level.Relation level.Shift shift_rule shift_whole shift_measures

  equality_measures : MeasuresWithin verilog grammar d equality_rule
  unfolding equality_rule
  equality_measures = level_measures level.Equality level.Relation relation_rule relation_whole relation_measures

  equality_whole : IsDeepWhole equality_rule
  unfolding equality_rule
  equality_whole = level_whole level.Equality level.Relation relation_rule relation_whole relation_measures

  bitwise_and_measures : MeasuresWithin verilog grammar d bitwise_and_rule
  unfolding bitwise_and_rule
  bitwise_and_measures = level_measures level.BitwiseAnd level.Equality equality_rule equality_whole equality_measures

  bitwise_and_whole : IsDeepWhole bitwise_and_rule
  unfolding bitwise_and_rule
  bitwise_and_whole = level_whole level.BitwiseAnd level.Equality equality_rule equality_whole equality_measures

  bitwise_xor_measures : MeasuresWithin verilog grammar d bitwise_xor_rule
  unfolding bitwise_xor_rule
  bitwise_xor_measures = level_measures level.BitwiseXor level.BitwiseAnd bitwise_and_rule bitwise_and_whole bitwise_and_measures

  bitwise_xor_whole : IsDeepWhole bitwise_xor_rule
  unfolding bitwise_xor_rule
  bitwise_xor_whole = level_whole level.BitwiseXor level.BitwiseAnd bitwise_and_rule bitwise_and_whole bitwise_and_measures

  bitwise_or_measures : MeasuresWithin verilog grammar d bitwise_or_rule
  unfolding bitwise_or_rule
  bitwise_or_measures = level_measures level.BitwiseOr level.BitwiseXor bitwise_xor_rule bitwise_xor_whole bitwise_xor_measures

  bitwise_or_whole : IsDeepWhole bitwise_or_rule
  unfolding bitwise_or_rule
  bitwise_or_whole = level_whole level.BitwiseOr level.BitwiseXor bitwise_xor_rule bitwise_xor_whole bitwise_xor_measures

  logical_and_measures : MeasuresWithin verilog grammar d logical_and_rule
  unfolding logical_and_rule
  logical_and_measures = level_measures level.LogicalAnd level.BitwiseOr bitwise_or_rule bitwise_or_whole bitwise_or_measures

  logical_and_whole : IsDeepWhole logical_and_rule
  unfolding logical_and_rule
  logical_and_whole = level_whole level.LogicalAnd level.BitwiseOr bitwise_or_rule bitwise_or_whole bitwise_or_measures

  logical_or_measures : MeasuresWithin verilog grammar d logical_or_rule
  unfolding logical_or_rule
  logical_or_measures = level_measures level.LogicalOr level.LogicalAnd logical_and_rule logical_and_whole logical_and_measures

  logical_or_whole : IsDeepWhole logical_or_rule
  unfolding logical_or_rule
  logical_or_whole = level_whole level.LogicalOr level.LogicalAnd logical_and_rule logical_and_whole logical_and_measures

  branches_fixed : MeasuresWithin verilog grammar d branches_rule
  unfolding branches_rule
  branches_fixed = fixed branches_rule refl

  expr_measures : MeasuresWithin verilog grammar d expr_rule
  unfolding expr_rule
  expr_measures = (logical_or_measures, branches_fixed, logical_or_whole, choice_step)

  expr_whole : IsDeepWhole expr_rule
  unfolding expr_rule
  expr_whole v i o s =
      measured verilog (λ h. nat_le h d) (Nests verilog grammar d) (NestParts verilog grammar d) (growing_where false is_no_choice) choice_of ends_with_choice logical_or_rule branches_rule expr_measures v i o s

  -- ---- left sides of assignments

  target_name_measures : MeasuresWithin verilog grammar d target_name_rule
  unfolding target_name_rule
  target_name_measures = (name_fixed, select_fixed, name_whole, select_step)

  target_name_whole : IsDeepWhole target_name_rule
  unfolding target_name_rule
  target_name_whole v i o s =
      measured verilog (λ h. nat_le h d) (Nests verilog grammar d) (NestParts verilog grammar d) (growing_where true may_be_indexed) selected tt (made identifier_of (only k.Identifier)) select_rule target_name_measures v i o s

  targets_deep : (N : Depth) → N.height ≡ 0 → AreDeep targets_rule (λ es. deepest_of N (exprs_of es))
  unfolding targets_rule
  targets_deep N z es i o s = first_listed (nest target) target_deep N z es i o s

  abbrev braced_targets : Phrased (Lexeme × List Expr)
  braced_targets = both (only k.OpenBrace) (before targets_rule k.CloseBrace)

  braced_targets_deep : AreDeep braced_targets (λ p. deepest_of (none p.0.place) (exprs_of p.1))
  braced_targets_deep v i o s =
      wide (In (before targets_rule k.CloseBrace) v.1 s.0 o s.2) (In braced_targets v i o s) (deepest_of (none v.0.place) (exprs_of v.1)) (λ n j y. inr y)
      (before_deep k.CloseBrace targets_rule (λ es. deepest_of (none v.0.place) (exprs_of es)) (targets_deep (none v.0.place) refl) v.1 s.0 o s.2)

  target_whole : IsDeepWhole target_rule
  unfolding target_rule
  target_whole =
      either_whole target_name_rule (made concat_of braced_targets) target_name_whole
      (made_whole braced_targets concat_of (λ p. deepest_of (none p.0.place) (exprs_of p.1)) braced_targets_deep (λ p. refl))

  target_measures : MeasuresWithin verilog grammar d target_rule
  unfolding target_rule targets_rule
  target_measures = (target_name_measures, fixed (made concat_of braced_targets) refl)

  -- ---- the phrases

  level_measured : (l : Level) → MeasuresWithin verilog grammar d (level_rule l)
  level_measured level.Unary = unary_measures
  level_measured level.Product = product_measures
  level_measured level.Sum = sum_measures
  level_measured level.Shift = shift_measures
  level_measured level.Relation = relation_measures
  level_measured level.Equality = equality_measures
  level_measured level.BitwiseAnd = bitwise_and_measures
  level_measured level.BitwiseXor = bitwise_xor_measures
  level_measured level.BitwiseOr = bitwise_or_measures
  level_measured level.LogicalAnd = logical_and_measures
  level_measured level.LogicalOr = logical_or_measures

  level_deep : (l : Level) → IsDeepWhole (level_rule l)
  level_deep level.Unary = unary_whole
  level_deep level.Product = product_whole
  level_deep level.Sum = sum_whole
  level_deep level.Shift = shift_whole
  level_deep level.Relation = relation_whole
  level_deep level.Equality = equality_whole
  level_deep level.BitwiseAnd = bitwise_and_whole
  level_deep level.BitwiseXor = bitwise_xor_whole
  level_deep level.BitwiseOr = bitwise_or_whole
  level_deep level.LogicalAnd = logical_and_whole
  level_deep level.LogicalOr = logical_or_whole

  nested_deeper : (p : Phrase) (v : Value p) (i o : List Lexeme) (s : Nests verilog grammar (suc d) p v i o) → IsMeasured p v i (NestParts verilog grammar (suc d) p v i o s)
  nested_deeper expression v i o s = expr_whole v i o s
  nested_deeper (operand l) v i o s = level_deep l v i o s
  nested_deeper target v i o s = target_whole v i o s
  nested_deeper (statement b) v i o s = tt

nested_deep : (d : ℕ) (p : Phrase) (v : Value p) (i o : List Lexeme) (s : Nests verilog grammar d p v i o) → IsMeasured p v i (NestParts verilog grammar d p v i o s)
nested_deep zero p v i o s = absurd s
nested_deep (suc d) p v i o s = nested_deeper d (nested_deep d) p v i o s

statement_fixed : (b : Body) → is_fixed verilog (rule_of (statement b)) ≡ true
unfolding range_rule number_rule select_end_rule select_rule selects_rule exprs_rule paren_rule brace_end_rule braced_rule cast_rule prim_rule unary_rule operation_rule product_rule sum_rule shift_rule relation_rule equality_rule bitwise_and_rule bitwise_xor_rule bitwise_or_rule logical_and_rule logical_or_rule branches_rule expr_rule target_name_rule targets_rule target_rule statements_rule block_rule if_rule label_arm_rule label_arms_rule default_arm_rule default_arms_rule arms_rule case_rule set_rule header_rule for_rule assignment_rule argument_rule arguments_rule task_rule statement_rule direction_rule shape_rule port_rule entry_rule entries_rule plist_rule header_ports_rule type_rule valued_rule header_param_rule header_params_rule port_item_rule net_rule net_item_rule variable_rule variable_item_rule integer_item_rule parameter_item_rule continuous_item_rule edge_rule timed_rule always_item_rule initial_item_rule overrides_rule connections_rule one_rule instance_item_rule item_rule items_rule module_rule source_rule
statement_fixed Combinational = refl
statement_fixed Clocked = refl
statement_fixed Initial = refl

source_fixed : is_fixed verilog source_rule ≡ true
unfolding range_rule number_rule select_end_rule select_rule selects_rule exprs_rule paren_rule brace_end_rule braced_rule cast_rule prim_rule unary_rule operation_rule product_rule sum_rule shift_rule relation_rule equality_rule bitwise_and_rule bitwise_xor_rule bitwise_or_rule logical_and_rule logical_or_rule branches_rule expr_rule target_name_rule targets_rule target_rule statements_rule block_rule if_rule label_arm_rule label_arms_rule default_arm_rule default_arms_rule arms_rule case_rule set_rule header_rule for_rule assignment_rule argument_rule arguments_rule task_rule statement_rule direction_rule shape_rule port_rule entry_rule entries_rule plist_rule header_ports_rule type_rule valued_rule header_param_rule header_params_rule port_item_rule net_rule net_item_rule variable_rule variable_item_rule integer_item_rule parameter_item_rule continuous_item_rule edge_rule timed_rule always_item_rule initial_item_rule overrides_rule connections_rule one_rule instance_item_rule item_rule items_rule module_rule source_rule
source_fixed = refl

phrases_measure : (d : ℕ) (p : Phrase) → MeasuresWithin verilog grammar d (rule_of p)
phrases_measure d expression = expr_measures d (nested_deep d)
phrases_measure d (operand l) = level_measured d (nested_deep d) l
phrases_measure d target = target_measures d (nested_deep d)
phrases_measure d (statement b) = fixed_measures verilog (λ h. nat_le h d) (Nests verilog grammar d) (NestParts verilog grammar d) (rule_of (statement b)) (statement_fixed b)

pub measures : Measured verilog grammar
measures = record { phrases = phrases_measure; source = λ d. fixed_measures verilog (λ h. nat_le h d) (Nests verilog grammar d) (NestParts verilog grammar d) source_rule source_fixed }
