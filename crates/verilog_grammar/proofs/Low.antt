-- What is spelled within a depth is no higher than the depth.
use Rattle.std.proofs.Common.{◌≡◌, ℕ, zero, suc, ◌≤◌, Bool, true, false, cond, nat_le, List, [], ◌∷◌, ◌++◌, arith}
use Rattle.verilog_lexer.specs.Tokens.{Lexeme}
use Rattle.verilog_tree.specs.Tree.{Expr, exprs_of, Statement, statements_of, CaseArm, arms_of}
use Rattle.verilog_tree.specs.declared.depth.Depth.{Depth}
use Rattle.verilog_tree.specs.Depth.{depth, deeper, deepest_of, none}
use Rattle.grammar_rules.specs.Rule.{one, nest}
use Rattle.grammar_rules.specs.Grammar.{Nests}
use Rattle.grammar_rules.proofs.Holds.{AllOf, IsSpelledBy, Holds, holds}
use Rattle.verilog_grammar.specs.declared.kind.Kind.TheVariants as k
use Rattle.verilog_grammar.specs.declared.level.Level.{Level}
use Rattle.verilog_grammar.specs.declared.level.Level.TheVariants as level
use Rattle.verilog_grammar.specs.declared.body.Body.{Body}
use Rattle.verilog_grammar.specs.declared.body.Body.TheVariants.{Combinational, Clocked, Initial}
use Rattle.verilog_grammar.specs.Language.{verilog, Phrase, expression, operand, target, statement, Value}
use Rattle.verilog_grammar.specs.Parts.{Phrased, an_expression, after}
use Rattle.verilog_grammar.specs.Expressions.{number_rule, select_end_rule, select_rule, selects_rule, exprs_rule, paren_rule, brace_end_rule, braced_rule, cast_rule, prim_rule, unary_rule, operation_rule, product_rule, sum_rule, shift_rule, relation_rule, equality_rule, bitwise_and_rule, bitwise_xor_rule, bitwise_or_rule, logical_and_rule, logical_or_rule, level_rule, branches_rule, expr_rule, target_name_rule, targets_rule, target_rule}
use Rattle.verilog_grammar.specs.Statements.{statements_rule, block_rule, if_rule, label_arm_rule, label_arms_rule, default_arm_rule, default_arms_rule, arms_rule, case_rule, set_rule, header_rule, for_rule, assignment_rule, argument_rule, arguments_rule, task_rule, task_or_null_rule, statement_rule}
use Rattle.verilog_grammar.specs.Height.{greater, expr_height, exprs_height, statement_height, statements_height, items_height, height}
use Rattle.verilog_grammar.specs.Verilog.{grammar, rule_of}

-- ---- heights of parts

deeper_low : (n : ℕ) (a b : Depth) → a.height ≤ n → b.height ≤ n → (deeper a b).height ≤ n
deeper_low n a b h l = go (nat_le b.height a.height)
  where
    go : (c : Bool) → (cond c a b).height ≤ n
    go true = h
    go false = l

greater_low : (n a b : ℕ) → a ≤ n → b ≤ n → greater a b ≤ n
greater_low n a b h l = go (nat_le a b)
  where
    go : (c : Bool) → cond c b a ≤ n
    go true = l
    go false = h

raised : (n m : ℕ) → m ≤ n → suc m ≤ suc n
raised n m h = omega (arith, h)

one_low : (n : ℕ) → 1 ≤ suc n
one_low n = omega arith

le_of : (a b : ℕ) → nat_le a b ≡ true → a ≤ b
le_of a b e = grind (arith, e)

-- each expression of a list is low
abbrev AreLow : ℕ → List Expr → Type 0
AreLow n es = AllOf (λ e. expr_height e ≤ n) es

deepest_low : (n : ℕ) (d : Depth) (es : List Expr) → d.height ≤ n → AreLow n es → (deepest_of d (exprs_of es)).height ≤ n
deepest_low n d [] h l = h
deepest_low n d (e ∷ es) h l = deepest_low n (deeper d (depth e)) es (deeper_low n d (depth e) h l.0) l.1

exprs_low : (n : ℕ) (es : List Expr) → AreLow n es → exprs_height (exprs_of es) ≤ n
exprs_low n [] l = omega arith
exprs_low n (e ∷ es) l = greater_low n (expr_height e) (exprs_height (exprs_of es)) l.0 (exprs_low n es l.1)

statements_low : (n : ℕ) (ss : List Statement) → AllOf (λ s. statement_height s ≤ n) ss → statements_height (statements_of ss) ≤ n
statements_low n [] l = omega arith
statements_low n (s ∷ ss) l = greater_low n (statement_height s) (statements_height (statements_of ss)) l.0 (statements_low n ss l.1)

-- an arm is low where its labels and its body are
abbrev ArmLow : ℕ → CaseArm → Type 0
ArmLow n a = (exprs_height (exprs_of a.labels) ≤ n) × (statement_height a.body ≤ n)

arms_low : (n : ℕ) (arms : List CaseArm) → AllOf (ArmLow n) arms → items_height (arms_of arms) ≤ n
arms_low n [] l = omega arith
arms_low n (a ∷ arms) l =
    greater_low n (exprs_height (exprs_of a.labels)) (greater (statement_height a.body) (items_height (arms_of arms))) l.0.0
    (greater_low n (statement_height a.body) (items_height (arms_of arms)) l.0.1 (arms_low n arms l.1))

all_joined : {A : Type 0} (P : A → Type 0) (xs ys : List A) → AllOf P xs → AllOf P ys → AllOf P (xs ++ ys)
all_joined P [] ys h l = l
all_joined P (x ∷ xs) ys h l = (h.0, all_joined P xs ys h.1 l)

all_mapped : {A : Type 0} (P Q : A → Type 0) → ((v : A) → P v → Q v) → (vs : List A) → AllOf P vs → AllOf Q vs
all_mapped P Q h [] l = tt
all_mapped P Q h (v ∷ vs) l = (h v l.0, all_mapped P Q h vs l.1)

-- ---- the phrases

module _ (d : ℕ) (low : (p : Phrase) (v : Value p) (i o : List Lexeme) → Nests verilog grammar d p v i o → height p v ≤ d) where
  abbrev Shown : {A : Type 0} → Phrased A → (A → Type 0) → Type 0
  Shown g Q = Holds verilog (λ h. nat_le h d) (Nests verilog grammar d) (λ p v. height p v ≤ d) low g Q

  abbrev Found : {A : Type 0} → Phrased A → A → Type 0
  Found g v = IsSpelledBy verilog (λ h. nat_le h d) (Nests verilog grammar d) (λ p w. height p w ≤ d) low g v

  each : {A : Type 0} (g : Phrased A) (Q : A → Type 0) → Shown g Q → (vs : List A) → AllOf (Found g) vs → AllOf Q vs
  each g Q k vs l = all_mapped (Found g) Q (λ v s. holds verilog (λ h. nat_le h d) (Nests verilog grammar d) (λ p w. height p w ≤ d) low g Q k v s.0 s.1 s.2) vs l

  abbrev IsLow : Expr → Type 0
  IsLow e = expr_height e ≤ suc d

  abbrev IsLowStatement : Statement → Type 0
  IsLowStatement s = statement_height s ≤ suc d

  behind_commas : (es : List Expr) → AllOf (Found (after k.Comma an_expression)) es → AreLow d es
  behind_commas es l = each (after k.Comma an_expression) (λ e. expr_height e ≤ d) (λ c e h. h) es l

  number_low : Shown number_rule IsLow
  unfolding number_rule
  number_low = (λ t. (λ b. one_low d, one_low d), λ t. one_low d)

  two_low : (a b : Expr) → expr_height a ≤ d → expr_height b ≤ d → suc (deeper (depth a) (depth b)).height ≤ suc d
  two_low a b h l = raised d _ (deeper_low d (depth a) (depth b) h l)

  three_low : (a b c : Expr) → expr_height a ≤ d → expr_height b ≤ d → expr_height c ≤ d → suc (deeper (deeper (depth a) (depth b)) (depth c)).height ≤ suc d
  three_low a b c h l m = raised d _ (deeper_low d (deeper (depth a) (depth b)) (depth c) (deeper_low d (depth a) (depth b) h l) m)

  selects_low : Shown selects_rule IsLow
  unfolding selects_rule select_rule select_end_rule
  selects_low = (
    λ t. one_low d,
    λ a q fit t e h. (
      λ c. two_low a e (le_of (expr_height a) d fit) h,
      (λ c l m u. three_low a e l (le_of (expr_height a) d fit) h m, (λ c l m u. three_low a e l (le_of (expr_height a) d fit) h m, λ c l m u. three_low a e l (le_of (expr_height a) d fit) h m)),
    ),
  )

  paren_low : Shown paren_rule IsLow
  unfolding paren_rule
  paren_low = λ t e h c. raised d _ h

  braced_low : Shown braced_rule IsLow
  unfolding braced_rule brace_end_rule exprs_rule
  braced_low = λ t e h. (
    λ b f m es l c u. raised d _ (deepest_low d (depth e) (f ∷ es) h (m, behind_commas es l)),
    λ es l c. raised d _ (deepest_low d (none t.place) (e ∷ es) (omega arith) (h, behind_commas es l)),
  )

  cast_low : Shown cast_rule IsLow
  unfolding cast_rule
  cast_low = λ t b e h c. raised d _ h

  prim_low : Shown prim_rule IsLow
  unfolding prim_rule
  prim_low = (number_low, (selects_low, (paren_low, (braced_low, cast_low))))

  unary_low : Shown unary_rule IsLow
  unfolding unary_rule
  unary_low = (λ t e h. raised d _ h, prim_low)

  product_low : Shown product_rule IsLow
  unfolding product_rule operation_rule
  product_low = (unary_low, λ a q fit t e h. two_low a e (le_of (expr_height a) d fit) h)

  sum_low : Shown sum_rule IsLow
  unfolding sum_rule operation_rule
  sum_low = (product_low, λ a q fit t e h. two_low a e (le_of (expr_height a) d fit) h)

  shift_low : Shown shift_rule IsLow
  unfolding shift_rule operation_rule
  shift_low = (sum_low, λ a q fit t e h. two_low a e (le_of (expr_height a) d fit) h)

  relation_low : Shown relation_rule IsLow
  unfolding relation_rule operation_rule
  relation_low = (shift_low, λ a q fit t e h. two_low a e (le_of (expr_height a) d fit) h)

  equality_low : Shown equality_rule IsLow
  unfolding equality_rule operation_rule
  equality_low = (relation_low, λ a q fit t e h. two_low a e (le_of (expr_height a) d fit) h)

  bitwise_and_low : Shown bitwise_and_rule IsLow
  unfolding bitwise_and_rule operation_rule
  bitwise_and_low = (equality_low, λ a q fit t e h. two_low a e (le_of (expr_height a) d fit) h)

  bitwise_xor_low : Shown bitwise_xor_rule IsLow
  unfolding bitwise_xor_rule operation_rule
  bitwise_xor_low = (bitwise_and_low, λ a q fit t e h. two_low a e (le_of (expr_height a) d fit) h)

  bitwise_or_low : Shown bitwise_or_rule IsLow
  unfolding bitwise_or_rule operation_rule
  bitwise_or_low = (bitwise_xor_low, λ a q fit t e h. two_low a e (le_of (expr_height a) d fit) h)

  logical_and_low : Shown logical_and_rule IsLow
  unfolding logical_and_rule operation_rule
  logical_and_low = (bitwise_or_low, λ a q fit t e h. two_low a e (le_of (expr_height a) d fit) h)

  logical_or_low : Shown logical_or_rule IsLow
  unfolding logical_or_rule operation_rule
  logical_or_low = (logical_and_low, λ a q fit t e h. two_low a e (le_of (expr_height a) d fit) h)

  expr_low : Shown expr_rule IsLow
  unfolding expr_rule branches_rule
  expr_low = (logical_or_low, λ a q fit t b h u c m. three_low a b c (le_of (expr_height a) d fit) h m)

  target_low : Shown target_rule IsLow
  unfolding target_rule target_name_rule targets_rule select_rule select_end_rule
  target_low = (
    (
      λ t. one_low d,
      λ a q fit t e h. (
        λ c. two_low a e (le_of (expr_height a) d fit) h,
        (λ c l m u. three_low a e l (le_of (expr_height a) d fit) h m, (λ c l m u. three_low a e l (le_of (expr_height a) d fit) h m, λ c l m u. three_low a e l (le_of (expr_height a) d fit) h m)),
      ),
    ),
    λ t e h es l c. raised d _ (deepest_low d (none t.place) (e ∷ es) (omega arith) (h, each (after k.Comma (nest target)) (λ x. expr_height x ≤ d) (λ u x m. m) es l)),
  )

  block_low : (b : Body) → Shown (block_rule b) IsLowStatement
  unfolding block_rule statements_rule
  block_low b = λ t. (λ c n ss l u. raised d _ (statements_low d ss (each (nest (statement b)) (λ s. statement_height s ≤ d) (λ s h. h) ss l)), λ ss l u. raised d _ (statements_low d ss (each (nest (statement b)) (λ s. statement_height s ≤ d) (λ s h. h) ss l)))

  if_low : (b : Body) → Shown (if_rule b) IsLowStatement
  unfolding if_rule
  if_low b = λ t u e h c s l. (
    raised d _ (greater_low d (expr_height e) (greater (statement_height s) 0) h (greater_low d (statement_height s) 0 l (omega arith))),
    λ other m. raised d _ (greater_low d (expr_height e) (greater (statement_height s) (greater (statement_height other) 0)) h (greater_low d (statement_height s) (greater (statement_height other) 0) l (greater_low d (statement_height other) 0 m (omega arith)))),
  )

  label_arm_low : (b : Body) → Shown (label_arm_rule b) (ArmLow d)
  unfolding label_arm_rule exprs_rule
  label_arm_low b = λ e h es l c s m. (exprs_low d (e ∷ es) (h, behind_commas es l), m)

  default_arm_low : (b : Body) → Shown (default_arm_rule b) (ArmLow d)
  unfolding default_arm_rule
  default_arm_low b = λ t. (λ c s m. (omega arith, m), λ s m. (omega arith, m))

  label_arms_low : (b : Body) (arms : List CaseArm) → AllOf (Found (label_arm_rule b)) arms → AllOf (ArmLow d) arms
  label_arms_low b arms l = each (label_arm_rule b) (ArmLow d) (label_arm_low b) arms l

  case_goal : (e : Expr) (arms : List CaseArm) → expr_height e ≤ d → AllOf (ArmLow d) arms → suc (greater (expr_height e) (items_height (arms_of arms))) ≤ suc d
  case_goal e arms h l = raised d _ (greater_low d (expr_height e) (items_height (arms_of arms)) h (arms_low d arms l))

  case_low : (b : Body) → Shown (case_rule b) IsLowStatement
  unfolding case_rule arms_rule default_arms_rule default_arm_rule label_arm_rule label_arms_rule exprs_rule
  case_low b = λ t u e h c. (
    λ w. (
      λ q s m arms l f. case_goal e (record { labels = []; body = s } ∷ arms) h ((omega arith, m), label_arms_low b arms l),
      λ s m arms l f. case_goal e (record { labels = []; body = s } ∷ arms) h ((omega arith, m), label_arms_low b arms l),
    ),
    λ x hx es le q s m arms l. (
      λ w. (
        λ r s2 m2 arms2 l2 f. case_goal e (record { labels = x ∷ es; body = s } ∷ (arms ++ record { labels = []; body = s2 } ∷ arms2)) h
            ((exprs_low d (x ∷ es) (hx, behind_commas es le), m), all_joined (ArmLow d) arms (record { labels = []; body = s2 } ∷ arms2) (label_arms_low b arms l) ((omega arith, m2), label_arms_low b arms2 l2)),
        λ s2 m2 arms2 l2 f. case_goal e (record { labels = x ∷ es; body = s } ∷ (arms ++ record { labels = []; body = s2 } ∷ arms2)) h
            ((exprs_low d (x ∷ es) (hx, behind_commas es le), m), all_joined (ArmLow d) arms (record { labels = []; body = s2 } ∷ arms2) (label_arms_low b arms l) ((omega arith, m2), label_arms_low b arms2 l2)),
      ),
      λ f. case_goal e (record { labels = x ∷ es; body = s } ∷ (arms ++ [])) h ((exprs_low d (x ∷ es) (hx, behind_commas es le), m), all_joined (ArmLow d) arms [] (label_arms_low b arms l) tt),
    ),
  )

  for_low : (b : Body) → Shown (for_rule b) IsLowStatement
  unfolding for_rule header_rule set_rule
  for_low b = λ t u x hx q y hy v e he w x2 hx2 q2 y2 hy2 c s m.
      raised d _ (greater_low d (greater (expr_height x) (greater (expr_height y) (greater (expr_height e) (greater (expr_height x2) (expr_height y2))))) (statement_height s)
      (greater_low d (expr_height x) (greater (expr_height y) (greater (expr_height e) (greater (expr_height x2) (expr_height y2)))) hx
      (greater_low d (expr_height y) (greater (expr_height e) (greater (expr_height x2) (expr_height y2))) hy
      (greater_low d (expr_height e) (greater (expr_height x2) (expr_height y2)) he (greater_low d (expr_height x2) (expr_height y2) hx2 hy2)))) m)

  set_goal : (x y : Expr) → expr_height x ≤ d → expr_height y ≤ d → suc (greater (expr_height x) (expr_height y)) ≤ suc d
  set_goal x y h l = raised d _ (greater_low d (expr_height x) (expr_height y) h l)

  assignment_low : (b : Body) → Shown (assignment_rule b) IsLowStatement
  unfolding assignment_rule
  assignment_low Combinational = λ x h q y l c. set_goal x y h l
  assignment_low Clocked = λ x h. (λ q y l c. set_goal x y h l, λ q y l c. set_goal x y h l)
  assignment_low Initial = λ x h. (λ q y l c. set_goal x y h l, λ q y l c. set_goal x y h l)

  task_low : (x : ℕ) (xs : List ℕ) → Shown (task_rule (one x xs)) IsLowStatement
  unfolding task_rule arguments_rule argument_rule
  task_low x xs = λ t. (λ u. ((λ e h vs l c f. one_low d, λ q vs l c f. one_low d), λ c f. one_low d), λ f. one_low d)

  task_or_null_low : (b : Body) → Shown (task_or_null_rule b) IsLowStatement
  task_or_null_low Combinational = λ t. one_low d
  task_or_null_low Clocked = (task_low _ _, λ t. one_low d)
  task_or_null_low Initial = (task_low _ _, λ t. one_low d)

  statement_low : (b : Body) → Shown (statement_rule b) IsLowStatement
  unfolding statement_rule
  statement_low b = (block_low b, (if_low b, (case_low b, (for_low b, (assignment_low b, task_or_null_low b)))))

  level_low : (l : Level) → Shown (level_rule l) IsLow
  level_low level.Unary = unary_low
  level_low level.Product = product_low
  level_low level.Sum = sum_low
  level_low level.Shift = shift_low
  level_low level.Relation = relation_low
  level_low level.Equality = equality_low
  level_low level.BitwiseAnd = bitwise_and_low
  level_low level.BitwiseXor = bitwise_xor_low
  level_low level.BitwiseOr = bitwise_or_low
  level_low level.LogicalAnd = logical_and_low
  level_low level.LogicalOr = logical_or_low

  rule_low : (p : Phrase) → Shown (rule_of p) (λ v. height p v ≤ suc d)
  rule_low expression = expr_low
  rule_low (operand l) = level_low l
  rule_low target = target_low
  rule_low (statement b) = statement_low b

-- What spells a phrase within a depth is no higher than the depth.
pub phrase_low : (d : ℕ) (p : Phrase) (v : Value p) (i o : List Lexeme) → Nests verilog grammar d p v i o → height p v ≤ d
phrase_low zero p v i o s = absurd s
phrase_low (suc d) p v i o s =
    holds verilog (λ h. nat_le h d) (Nests verilog grammar d) (λ p v. height p v ≤ d) (phrase_low d) (rule_of p) (λ v. height p v ≤ suc d) (rule_low d (phrase_low d) p) v i o s
