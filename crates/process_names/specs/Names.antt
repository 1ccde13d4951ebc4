-- What a text mentions, in the order in which its execution reads: an index before what it indexes, the indexes of a target before the
-- value, and of a case all labels before the default, wherever it is.
use Rattle.std.specs.Prelude.{if◌then◌else◌, ℕ, List, [], ◌∷◌, ◌++◌}
use Rattle.cov_host.specs.declared.place.Place.{Place}
use Rattle.design_model.specs.Execution.{is_default}
use Rattle.design_model.specs.Tree as t
use Rattle.design_model.specs.Tree.{Arms, Process, Stmt, Stmts, Target, Targets, Term, Terms, a_stmt, a_target, a_term, all_of, arm, assign, binary, bit, bits_of, block, branch, choice, clocked, comb, concat, empty, no_arms, no_stmts, no_targets, no_terms, number, part, repeat, select, set, several, sign, signal, slide, turns, unary, word, word_of}
use Rattle.design_model.specs.View.{Arm, arm_step, stmt_form_step, stmt_step}
use Rattle.design_model.specs.declared.tree.CaseArm.{CaseArm, fold-CaseArm}

-- the plain arm
abbrev pub arm_view : CaseArm → Arm
arm_view = fold-CaseArm (Place → t.Stmt) Arm t.Stmt stmt_form_step arm_step stmt_step

-- the signals and memories that a term names
abbrev mutual
  pub term_names : Term → List ℕ
  term_names (number h n) = []
  term_names (signal h s) = s ∷ []
  term_names (word h m i) = term_names i ++ m ∷ []
  term_names (bit h t i) = term_names i ++ term_names t
  term_names (part h t i j) = term_names i ++ term_names j ++ term_names t
  term_names (slide h t b w up) = term_names b ++ term_names w ++ term_names t
  term_names (unary h op t) = term_names t
  term_names (binary h op t u) = term_names t ++ term_names u
  term_names (choice h c t u) = term_names c ++ term_names t ++ term_names u
  term_names (concat h ts) = all_term_names ts
  term_names (repeat h n ts) = term_names n ++ all_term_names ts
  term_names (sign h s t) = term_names t

  pub all_term_names : Terms → List ℕ
  all_term_names no_terms = []
  all_term_names (a_term t ts) = term_names t ++ all_term_names ts

-- those that the indexes in a target name
abbrev mutual
  pub index_names : Target → List ℕ
  index_names (all_of s) = []
  index_names (bits_of s low w) = term_names low
  index_names (word_of m i) = term_names i
  index_names (several ts) = all_index_names ts

  pub all_index_names : Targets → List ℕ
  all_index_names no_targets = []
  all_index_names (a_target t ts) = index_names t ++ all_index_names ts

-- those that a body names
abbrev mutual
  pub body_names : Stmt → List ℕ
  body_names (block p ss) = all_body_names ss
  body_names (branch p n t s other) = term_names t ++ body_names s ++ all_body_names other
  body_names (select p n kind t arms) = term_names t ++ arm_names arms ++ default_names arms
  body_names (turns p n ss) = all_body_names ss
  body_names (set p n blocking x t) = index_names x ++ term_names t
  body_names (empty p) = []

  pub all_body_names : Stmts → List ℕ
  all_body_names no_stmts = []
  all_body_names (a_stmt s ss) = body_names s ++ all_body_names ss

  -- the labels, and after those of an arm its statement
  pub arm_names : Arms → List ℕ
  arm_names no_arms = []
  arm_names (arm labels s arms) = all_term_names labels ++ (if is_default labels then [] else body_names s) ++ arm_names arms

  -- the statement of the default
  pub default_names : Arms → List ℕ
  default_names no_arms = []
  default_names (arm labels s arms) = (if is_default labels then body_names s else []) ++ default_names arms

-- what wakes a process at each change: what an Assign or Comb reads, and then what else a Comb lists
abbrev pub level_names : Process → List ℕ
level_names (assign i x t counted) = index_names x ++ term_names t
level_names (comb i wakes s) = body_names s ++ wakes
level_names (clocked i events s) = []
