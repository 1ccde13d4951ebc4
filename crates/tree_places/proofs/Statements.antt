-- Where the statements begin that tokens spell, and how many line points and counted nodes they have.
use Rattle.std.proofs.Common.{◌≡◌, ◌+◌, ℕ, List, [], ◌∷◌, ◌++◌, Option, Some, None, refl, arith}
use Rattle.cov_host.specs.declared.place.Place.{Place}
use Rattle.flat_design.specs.Numbering.{all_lines, all_statement_nodes, is_counted_condition, item_lines, item_nodes, lines, nodes, statement_nodes}
use Rattle.flat_design.specs.Scope.{Scope}
use Rattle.grammar_rules.specs.Rule.{nest}
use Rattle.grammar_rules.proofs.Holds.{AllOf}
use Rattle.verilog_grammar.specs.declared.body.Body.{Body}
use Rattle.verilog_grammar.specs.declared.body.Body.TheVariants.{Combinational, Clocked, Initial}
use Rattle.verilog_grammar.specs.Language.{verilog, target, statement}
use Rattle.verilog_grammar.specs.Parts.{Phrased, an_expression}
use Rattle.verilog_grammar.specs.Expressions.{exprs_rule}
use Rattle.verilog_grammar.specs.Statements.{statements_rule, block_rule, else_of, if_rule, label_arm_rule, label_arms_rule, default_arm_rule, rest_of_arms, default_arms_rule, arms_rule, case_rule, for_rule, sign_rule, assignment_rule, task_rule, null_of, null_rule, task_or_null_rule, statement_rule}
use Rattle.verilog_lexer.specs.Tokens.{Lexeme}
use Rattle.verilog_tree.specs.Tree.{exprs_of, Statement, statements_of, CaseArm, arms_of}
use Rattle.parsed_modules.proofs.Lists.{all_append}
use Rattle.parsed_modules.proofs.TokensHold.{Spelling, IfSome}
use Rattle.tree_places.specs.Placed.{IsPlaced, ArePlaced, IsPlacedBody, ArePlacedBodies, ArePlacedArms}
use Rattle.tree_places.proofs.Expressions.{IsAt, at_most_one, begins, list_placed, list_nodes}
use Rattle.tree_places.proofs.TokensTaken.{total, total_if, Shrinks, Takes, any_takes, one_takes, both_take, either_takes, made_takes, many_take, maybe_takes, after_takes, before_takes, optional_takes, listed_takes}

-- the line points and counted nodes of a statement
abbrev pub parts : Scope → Statement → ℕ
parts g s = lines s + statement_nodes g s

-- an arm of a case
record ArmIsPlaced (P : Place → Type 0) (a : CaseArm) : Type 0 where
  labels : ArePlaced P (exprs_of a.labels)
  body : IsPlacedBody P a.body

abbrev arm_parts : Scope → CaseArm → ℕ
arm_parts g a = total (nodes g) a.labels + parts g a.body

list_bodies : (P : Place → Type 0) (ss : List Statement) → AllOf (IsPlacedBody P) ss → ArePlacedBodies P (statements_of ss)
list_bodies P [] h = tt
list_bodies P (s ∷ ss) h = (h.0, list_bodies P ss h.1)

list_parts : (g : Scope) (ss : List Statement) → all_lines (statements_of ss) + all_statement_nodes g (statements_of ss) ≡ total (parts g) ss
list_parts g [] = refl
list_parts g (s ∷ ss) = omega (arith, list_parts g ss)

arms_placed : (P : Place → Type 0) (arms : List CaseArm) → AllOf (ArmIsPlaced P) arms → ArePlacedArms P (arms_of arms)
arms_placed P [] h = tt
arms_placed P (a ∷ arms) h = (h.0.labels, h.0.body, arms_placed P arms h.1)

arms_parts : (g : Scope) (arms : List CaseArm) → item_lines (arms_of arms) + item_nodes g (arms_of arms) ≡ total (arm_parts g) arms
arms_parts g [] = refl
arms_parts g (a ∷ arms) = omega (arith, list_nodes g a.labels, arms_parts g arms)

else_placed : (P : Place → Type 0) (s : Option Statement) → IfSome (IsPlacedBody P) s → ArePlacedBodies P (else_of s)
else_placed P None h = tt
else_placed P (Some s) h = (h, tt)

else_parts : (g : Scope) (s : Option Statement) → all_lines (else_of s) + all_statement_nodes g (else_of s) ≡ total_if (parts g) s
else_parts g None = refl
else_parts g (Some s) = omega arith

-- the default and what follows it, if there is one
abbrev RestIsPlaced : (Place → Type 0) → CaseArm × List CaseArm → Type 0
RestIsPlaced P p = ArmIsPlaced P p.0 × AllOf (ArmIsPlaced P) p.1

abbrev rest_parts : Scope → CaseArm × List CaseArm → ℕ
rest_parts g p = arm_parts g p.0 + total (arm_parts g) p.1

rest_placed : (P : Place → Type 0) (r : Option (CaseArm × List CaseArm)) → IfSome (RestIsPlaced P) r → AllOf (ArmIsPlaced P) (rest_of_arms r)
rest_placed P None h = tt
rest_placed P (Some p) h = h

rest_counted : (g : Scope) (r : Option (CaseArm × List CaseArm)) → total (arm_parts g) (rest_of_arms r) ≡ total_if (rest_parts g) r
rest_counted g None = refl
rest_counted g (Some p) = refl

pub total_append : {A : Type 0} (w : A → ℕ) (xs ys : List A) → total w (xs ++ ys) ≡ total w xs + total w ys
total_append w [] ys = omega arith
total_append w (x ∷ xs) ys = omega (arith, total_append w xs ys)

module _ (P : Place → Type 0) (g : Scope) (S : Spelling verilog (IsAt P)) (shrinks : Shrinks S) (b : Body) (expressions : Takes S an_expression (IsPlaced P) (nodes g)) (targets : Takes S (nest target) (IsPlaced P) (nodes g)) (statements : Takes S (nest (statement b)) (IsPlacedBody P) (parts g)) where
  block_takes : Takes S (block_rule b) (IsPlacedBody P) (parts g)
  unfolding block_rule statements_rule
  block_takes =
      made_takes {w = λ p. 1 + (0 + total (parts g) p.1.1)} (both_take one_takes (both_take (any_takes shrinks) (before_takes (many_take statements))))
      (λ p q. (q.0, list_bodies P p.1.1 q.1.1)) (λ p. omega (arith, list_parts g p.1.1))

  if_takes : Takes S (if_rule b) (IsPlacedBody P) (parts g)
  unfolding if_rule
  if_takes =
      made_takes {w = λ p. 1 + ((1 + nodes g p.1.0) + (parts g p.1.1.0 + total_if (parts g) p.1.1.1))} (both_take one_takes (both_take (after_takes (before_takes expressions)) (both_take statements (maybe_takes statements))))
      (λ p q. (q.0, q.1.0, q.1.1.0, else_placed P p.1.1.1 q.1.1.1)) (λ p. omega (arith, at_most_one (is_counted_condition g p.1.0), else_parts g p.1.1.1))

  label_arm_takes : Takes S (label_arm_rule b) (ArmIsPlaced P) (arm_parts g)
  unfolding label_arm_rule exprs_rule
  label_arm_takes =
      made_takes {w = λ p. total (nodes g) p.0 + (1 + parts g p.1)} (both_take (listed_takes expressions) (after_takes statements))
      (λ p q. record { labels = list_placed P p.0 q.0; body = q.1 }) (λ p. omega arith)

  label_arms_take : Takes S (label_arms_rule b) (λ arms. AllOf (ArmIsPlaced P) arms) (λ arms. total (arm_parts g) arms)
  unfolding label_arms_rule
  label_arms_take = many_take label_arm_takes

  default_arm_takes : Takes S (default_arm_rule b) (ArmIsPlaced P) (arm_parts g)
  unfolding default_arm_rule
  default_arm_takes =
      made_takes {w = λ p. 1 + (0 + parts g p.1.1)} (both_take one_takes (both_take (any_takes shrinks) statements)) (λ p q. record { labels = tt; body = q.1.1 }) (λ p. omega arith)

  default_arms_take : Takes S (default_arms_rule b) (RestIsPlaced P) (rest_parts g)
  unfolding default_arms_rule
  default_arms_take = both_take default_arm_takes label_arms_take

  arms_take : Takes S (arms_rule b) (λ arms. AllOf (ArmIsPlaced P) arms) (λ arms. total (arm_parts g) arms)
  unfolding arms_rule
  arms_take =
      either_takes (made_takes default_arms_take (λ p q. q) (λ p. omega arith))
      (made_takes {w = λ p. arm_parts g p.0 + (total (arm_parts g) p.1.0 + total_if (rest_parts g) p.1.1)} (both_take label_arm_takes (both_take label_arms_take (optional_takes default_arms_take)))
      (λ p q. (q.0, all_append (ArmIsPlaced P) p.1.0 (rest_of_arms p.1.1) q.1.0 (rest_placed P p.1.1 q.1.1)))
      (λ p. omega (arith, total_append (arm_parts g) p.1.0 (rest_of_arms p.1.1), rest_counted g p.1.1)))

  case_takes : Takes S (case_rule b) (IsPlacedBody P) (parts g)
  unfolding case_rule
  case_takes =
      made_takes {w = λ p. 1 + ((1 + nodes g p.1.0) + total (arm_parts g) p.1.1)} (both_take one_takes (both_take (after_takes (before_takes expressions)) (before_takes arms_take)))
      (λ p q. (q.0, q.1.0, arms_placed P p.1.1 q.1.1)) (λ p. omega (arith, arms_parts g p.1.1))

  for_takes : Takes S (for_rule b) (IsPlacedBody P) (parts g)
  unfolding for_rule
  for_takes = made_takes {w = λ p. 1 + (0 + parts g p.1.1)} (both_take one_takes (both_take (any_takes shrinks) statements)) (λ p q. (q.0, q.1.1)) (λ p. omega arith)

  sign_takes : (c : Body) → Takes S (sign_rule c) (λ s. Unit {0}) (λ s. 1)
  sign_takes Combinational = made_takes one_takes (λ t q. tt) (λ t. omega arith)
  sign_takes Clocked = either_takes (made_takes one_takes (λ t q. tt) (λ t. omega arith)) (made_takes one_takes (λ t q. tt) (λ t. omega arith))
  sign_takes Initial = either_takes (made_takes one_takes (λ t q. tt) (λ t. omega arith)) (made_takes one_takes (λ t q. tt) (λ t. omega arith))

  assignment_takes : Takes S (assignment_rule b) (IsPlacedBody P) (parts g)
  unfolding assignment_rule
  assignment_takes =
      made_takes {w = λ p. nodes g p.0 + (1 + nodes g p.1.1)} (both_take targets (both_take (sign_takes b) (before_takes expressions)))
      (λ p q. (begins P p.0 q.0, q.0, q.1.1)) (λ p. omega arith)

  task_takes : {names : Phrased Lexeme} → Takes S names (IsAt P) (λ t. 1) → Takes S (task_rule names) (IsPlacedBody P) (parts g)
  unfolding task_rule
  task_takes h = made_takes {w = λ p. 1 + 0} (both_take h (any_takes shrinks)) (λ p q. q.0) (λ p. omega arith)

  null_takes : Takes S null_rule (IsPlacedBody P) (parts g)
  null_takes = made_takes {f = null_of} {H = IsPlacedBody P} {u = parts g} one_takes (λ t q. q) (λ t. omega arith)

  task_or_null_takes : (c : Body) → Takes S (task_or_null_rule c) (IsPlacedBody P) (parts g)
  task_or_null_takes Combinational = null_takes
  task_or_null_takes Clocked = either_takes (task_takes one_takes) null_takes
  task_or_null_takes Initial = either_takes (task_takes one_takes) null_takes

  pub statement_takes : Takes S (statement_rule b) (IsPlacedBody P) (parts g)
  unfolding statement_rule
  statement_takes = either_takes block_takes (either_takes if_takes (either_takes case_takes (either_takes for_takes (either_takes assignment_takes (task_or_null_takes b)))))
