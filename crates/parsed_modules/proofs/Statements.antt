-- What holds of the statements that tokens spell: widths of literals, and where assignments are all blocking.
use Rattle.std.proofs.Common.{◌≡◌, Bool, true, false, List, [], ◌∷◌, Option, Some, None, refl}
use Rattle.std.specs.Prelude.{◌&&◌}
use Rattle.verilog_lexer.specs.Tokens.{Lexeme}
use Rattle.verilog_tree.specs.Tree.{exprs_of, Statement, statements_of, CaseArm, arms_of}
use Rattle.grammar_rules.specs.Rule.{nest}
use Rattle.grammar_rules.proofs.Holds.{AllOf}
use Rattle.verilog_grammar.specs.declared.body.Body.{Body}
use Rattle.verilog_grammar.specs.declared.body.Body.TheVariants.{Combinational, Clocked, Initial}
use Rattle.verilog_grammar.specs.Language.{verilog, target, statement}
use Rattle.verilog_grammar.specs.Parts.{Phrased, an_expression}
use Rattle.verilog_grammar.specs.Expressions.{exprs_rule}
use Rattle.verilog_grammar.specs.Statements.{statements_rule, block_rule, else_of, if_rule, label_arm_rule, label_arms_rule, default_arm_rule, rest_of_arms, default_arms_rule, arms_rule, case_rule, for_rule, sign_rule, assignment_rule, task_rule, null_rule, task_or_null_rule, statement_rule}
use Rattle.flat_laws.specs.Literals.{literals, all_literals, body_literals, bodies_literals, items_literals}
use Rattle.flat_laws.specs.Tokens.{is_blocking, are_blocking, arms_are_blocking}
use Rattle.parsed_modules.proofs.TokensHold.{Spelling, IfSome, Gives, any_gives, both_give, second_gives, either_gives, made_gives, many_gives, maybe_gives}
use Rattle.parsed_modules.proofs.Parts.{after_gives, before_gives, optional_gives, listed_gives}
use Rattle.parsed_modules.proofs.Lists.{all_append}
use Rattle.parsed_modules.proofs.Expressions.{HaveWidths, IsSized, two_sized, three_sized, list_sized}

-- assignments are all blocking, if the body is a combinational one
abbrev IsQuiet : Body → Bool → Type 0
IsQuiet Combinational blocking = blocking ≡ true
IsQuiet Clocked blocking = Unit {0}
IsQuiet Initial blocking = Unit {0}

all_quiet : (b : Body) → IsQuiet b true
all_quiet Combinational = refl
all_quiet Clocked = tt
all_quiet Initial = tt

both_true : (x y : Bool) → x ≡ true → y ≡ true → (x && y) ≡ true
both_true true y h k = k
both_true false y h k = absurd cc

both_quiet : (b : Body) (x y : Bool) → IsQuiet b x → IsQuiet b y → IsQuiet b (x && y)
both_quiet Combinational x y h k = both_true x y h k
both_quiet Clocked x y h k = tt
both_quiet Initial x y h k = tt

-- the literals of the statement have from 1 to 128 bits, and its assignments are as in the body
pub record IsIn (b : Body) (s : Statement) : Type 0 where
  pub literals : HaveWidths (body_literals s)
  pub quiet : IsQuiet b (is_blocking s)

-- so it is with an arm of a case
record ArmIsIn (b : Body) (a : CaseArm) : Type 0 where
  labels : HaveWidths (all_literals (exprs_of a.labels))
  body : IsIn b a.body

list_literals : (b : Body) (ss : List Statement) → AllOf (IsIn b) ss → HaveWidths (bodies_literals (statements_of ss))
list_literals b [] h = tt
list_literals b (s ∷ ss) h = two_sized (body_literals s) (bodies_literals (statements_of ss)) h.0.literals (list_literals b ss h.1)

list_quiet : (b : Body) (ss : List Statement) → AllOf (IsIn b) ss → IsQuiet b (are_blocking (statements_of ss))
list_quiet b [] h = all_quiet b
list_quiet b (s ∷ ss) h = both_quiet b (is_blocking s) (are_blocking (statements_of ss)) h.0.quiet (list_quiet b ss h.1)

arms_literals : (b : Body) (arms : List CaseArm) → AllOf (ArmIsIn b) arms → HaveWidths (items_literals (arms_of arms))
arms_literals b [] h = tt
arms_literals b (a ∷ arms) h =
    three_sized (all_literals (exprs_of a.labels)) (body_literals a.body) (items_literals (arms_of arms)) h.0.labels h.0.body.literals (arms_literals b arms h.1)

arms_quiet : (b : Body) (arms : List CaseArm) → AllOf (ArmIsIn b) arms → IsQuiet b (arms_are_blocking (arms_of arms))
arms_quiet b [] h = all_quiet b
arms_quiet b (a ∷ arms) h = both_quiet b (is_blocking a.body) (arms_are_blocking (arms_of arms)) h.0.body.quiet (arms_quiet b arms h.1)

else_literals : (b : Body) (s : Option Statement) → IfSome (IsIn b) s → HaveWidths (bodies_literals (else_of s))
else_literals b None h = tt
else_literals b (Some s) h = two_sized (body_literals s) [] h.literals tt

else_quiet : (b : Body) (s : Option Statement) → IfSome (IsIn b) s → IsQuiet b (are_blocking (else_of s))
else_quiet b None h = all_quiet b
else_quiet b (Some s) h = both_quiet b (is_blocking s) true h.quiet (all_quiet b)

-- the default and what follows it, if there is one
abbrev RestIsIn : Body → CaseArm × List CaseArm → Type 0
RestIsIn b p = ArmIsIn b p.0 × AllOf (ArmIsIn b) p.1

rest_in : (b : Body) (r : Option (CaseArm × List CaseArm)) → IfSome (RestIsIn b) r → AllOf (ArmIsIn b) (rest_of_arms r)
rest_in b None h = tt
rest_in b (Some p) h = h

module _ {T : Lexeme → Type 0} (S : Spelling verilog T) (b : Body) (expressions : Gives S an_expression IsSized) (targets : Gives S (nest target) IsSized) (statements : Gives S (nest (statement b)) (IsIn b)) where
  block_gives : Gives S (block_rule b) (IsIn b)
  unfolding block_rule statements_rule
  block_gives =
      made_gives {Q = λ p. AllOf (IsIn b) p.1.1} (second_gives {H = λ p. AllOf (IsIn b) p.1} (second_gives (before_gives (many_gives statements))))
      (λ p q. record { literals = list_literals b p.1.1 q; quiet = list_quiet b p.1.1 q })

  if_gives : Gives S (if_rule b) (IsIn b)
  unfolding if_rule
  if_gives =
      made_gives {Q = λ p. IsSized p.1.0 × (IsIn b p.1.1.0 × IfSome (IsIn b) p.1.1.1)}
      (second_gives {H = λ p. IsSized p.0 × (IsIn b p.1.0 × IfSome (IsIn b) p.1.1)} (both_give (after_gives (before_gives expressions)) (both_give statements (maybe_gives statements))))
      (λ p q. record {
        literals = three_sized (literals p.1.0) (body_literals p.1.1.0) (bodies_literals (else_of p.1.1.1)) q.0 q.1.0.literals (else_literals b p.1.1.1 q.1.1);
        quiet = both_quiet b (is_blocking p.1.1.0) (are_blocking (else_of p.1.1.1)) q.1.0.quiet (else_quiet b p.1.1.1 q.1.1);
      })

  label_arm_gives : Gives S (label_arm_rule b) (ArmIsIn b)
  unfolding label_arm_rule exprs_rule
  label_arm_gives =
      made_gives {Q = λ p. AllOf IsSized p.0 × IsIn b p.1} (both_give (listed_gives expressions) (after_gives statements))
      (λ p q. record { labels = list_sized p.0 q.0; body = q.1 })

  label_arms_give : Gives S (label_arms_rule b) (λ arms. AllOf (ArmIsIn b) arms)
  unfolding label_arms_rule
  label_arms_give = many_gives label_arm_gives

  default_arm_gives : Gives S (default_arm_rule b) (ArmIsIn b)
  unfolding default_arm_rule
  default_arm_gives = made_gives {Q = λ p. IsIn b p.1.1} (second_gives {H = λ p. IsIn b p.1} (second_gives statements)) (λ p q. record { labels = tt; body = q })

  default_arms_give : Gives S (default_arms_rule b) (RestIsIn b)
  unfolding default_arms_rule
  default_arms_give = both_give default_arm_gives label_arms_give

  arms_give : Gives S (arms_rule b) (λ arms. AllOf (ArmIsIn b) arms)
  unfolding arms_rule
  arms_give =
      either_gives (made_gives default_arms_give (λ p q. q))
      (made_gives {Q = λ p. ArmIsIn b p.0 × (AllOf (ArmIsIn b) p.1.0 × IfSome (RestIsIn b) p.1.1)} (both_give label_arm_gives (both_give label_arms_give (optional_gives default_arms_give)))
      (λ p q. (q.0, all_append (ArmIsIn b) p.1.0 (rest_of_arms p.1.1) q.1.0 (rest_in b p.1.1 q.1.1))))

  case_gives : Gives S (case_rule b) (IsIn b)
  unfolding case_rule
  case_gives =
      made_gives {Q = λ p. IsSized p.1.0 × AllOf (ArmIsIn b) p.1.1}
      (second_gives {H = λ p. IsSized p.0 × AllOf (ArmIsIn b) p.1} (both_give (after_gives (before_gives expressions)) (before_gives arms_give)))
      (λ p q. record { literals = two_sized (literals p.1.0) (items_literals (arms_of p.1.1)) q.0 (arms_literals b p.1.1 q.1); quiet = arms_quiet b p.1.1 q.1 })

  for_gives : Gives S (for_rule b) (IsIn b)
  unfolding for_rule
  for_gives = made_gives {Q = λ p. IsIn b p.1.1} (second_gives {H = λ p. IsIn b p.1} (second_gives statements)) (λ p q. record { literals = q.literals; quiet = q.quiet })

  sign_gives : (c : Body) → Gives S (sign_rule c) (IsQuiet c)
  sign_gives Combinational = made_gives any_gives (λ t q. refl)
  sign_gives Clocked = any_gives
  sign_gives Initial = any_gives

  assignment_gives : Gives S (assignment_rule b) (IsIn b)
  unfolding assignment_rule
  assignment_gives =
      made_gives {Q = λ p. IsSized p.0 × (IsQuiet b p.1.0 × IsSized p.1.1)} (both_give targets (both_give (sign_gives b) (before_gives expressions)))
      (λ p q. record { literals = two_sized (literals p.0) (literals p.1.1) q.0 q.1.1; quiet = q.1.0 })

  task_gives : (names : Phrased Lexeme) → Gives S (task_rule names) (IsIn b)
  unfolding task_rule
  task_gives names = made_gives any_gives (λ p q. record { literals = tt; quiet = all_quiet b })

  null_gives : Gives S null_rule (IsIn b)
  null_gives = made_gives any_gives (λ t q. record { literals = tt; quiet = all_quiet b })

  task_or_null_gives : (c : Body) → Gives S (task_or_null_rule c) (IsIn b)
  task_or_null_gives Combinational = null_gives
  task_or_null_gives Clocked = either_gives (task_gives _) null_gives
  task_or_null_gives Initial = either_gives (task_gives _) null_gives

  pub statement_gives : Gives S (statement_rule b) (IsIn b)
  unfolding statement_rule
  statement_gives = either_gives block_gives (either_gives if_gives (either_gives case_gives (either_gives for_gives (either_gives assignment_gives (task_or_null_gives b)))))
