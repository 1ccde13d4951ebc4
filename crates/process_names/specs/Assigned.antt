-- What a text assigns, in order of the text.
use Rattle.std.specs.Prelude.{if◌then◌else◌, ℕ, Bool, List, [], ◌∷◌, ◌++◌}
use Rattle.design_model.specs.Shape.{same_bool}
use Rattle.design_model.specs.Tree.{Arms, Stmt, Stmts, Target, Targets, a_stmt, a_target, all_of, arm, bits_of, block, branch, empty, no_arms, no_stmts, no_targets, select, set, several, turns, word_of}

-- the signals and memories that a target names
abbrev mutual
  pub target_names : Target → List ℕ
  target_names (all_of s) = s ∷ []
  target_names (bits_of s low w) = s ∷ []
  target_names (word_of m i) = m ∷ []
  target_names (several ts) = all_target_names ts

  pub all_target_names : Targets → List ℕ
  all_target_names no_targets = []
  all_target_names (a_target t ts) = target_names t ++ all_target_names ts

-- those that a body assigns by blocking assignments, or with false by nonblocking ones
abbrev mutual
  pub assigned : Bool → Stmt → List ℕ
  assigned b (block p ss) = all_assigned b ss
  assigned b (branch p n t s other) = assigned b s ++ all_assigned b other
  assigned b (select p n kind t arms) = arms_assigned b arms
  assigned b (turns p n ss) = all_assigned b ss
  assigned b (set p n blocking x t) = if same_bool blocking b then target_names x else []
  assigned b (empty p) = []

  pub all_assigned : Bool → Stmts → List ℕ
  all_assigned b no_stmts = []
  all_assigned b (a_stmt s ss) = assigned b s ++ all_assigned b ss

  pub arms_assigned : Bool → Arms → List ℕ
  arms_assigned b no_arms = []
  arms_assigned b (arm labels s arms) = assigned b s ++ arms_assigned b arms
