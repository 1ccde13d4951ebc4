-- The statements that lie inside a statement (IEEE 1364-2001, clause 9).
use Rattle.std.specs.Prelude.{◌≡◌, ◌⊎◌}
use Rattle.design_model.specs.Tree.{Arms, Stmt, Stmts, Term, Terms, a_stmt, a_term, arm, block, branch, empty, no_arms, no_stmts, no_terms, select, set, turns}

-- t is one of the terms
abbrev pub IsTerm : Term → Terms → Type 0
IsTerm t no_terms = ⊥
IsTerm t (a_term x ts) = (x ≡ t) ⊎ IsTerm t ts

-- s is one of the statements
abbrev pub IsStmt : Stmt → Stmts → Type 0
IsStmt s no_stmts = ⊥
IsStmt s (a_stmt x ss) = (x ≡ s) ⊎ IsStmt s ss

-- one of the arms has these labels and the statement s
abbrev pub IsArm : Terms → Stmt → Arms → Type 0
IsArm ts s no_arms = ⊥
IsArm ts s (arm labels x arms) = ((labels ≡ ts) × (x ≡ s)) ⊎ IsArm ts s arms

-- s is directly a part of the statement
abbrev pub IsPart : Stmt → Stmt → Type 0
IsPart s (block p ss) = IsStmt s ss
IsPart s (branch p n t x other) = (x ≡ s) ⊎ IsStmt s other
IsPart s (select p n kind t arms) = (labels : Terms) × IsArm labels s arms
IsPart s (turns p n ss) = IsStmt s ss
IsPart s (set p n blocking x t) = ⊥
IsPart s (empty p) = ⊥

-- s is the statement, or lies inside it
pub data LiesIn (s : Stmt) : Stmt → Type 0 where
  itself : LiesIn s s
  inside : (t u : Stmt) → LiesIn s t → IsPart t u → LiesIn s u
