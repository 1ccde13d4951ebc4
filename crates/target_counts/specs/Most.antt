-- The most targets that name a signal or memory on one path through a text.
use Rattle.std.specs.Prelude.{◌+◌, ◌&&◌, ◌||◌, if◌then◌else◌, ℕ, Bool, false, max}
use Rattle.design_model.specs.Execution.{is_default}
use Rattle.design_model.specs.Once.{parts_on}
use Rattle.design_model.specs.Tree.{Arms, Stmt, Stmts, a_stmt, arm, block, branch, empty, no_arms, no_stmts, select, set, turns}

-- of statements one after the other the sum; of branches the greatest, where of several defaults the first one counts
abbrev mutual
  pub most : ℕ → Stmt → ℕ
  most x (block p ss) = most_all x ss
  most x (branch p n t s other) = max (most x s) (most_all x other)
  most x (select p n kind t arms) = most_of x false arms
  most x (turns p n ss) = most_all x ss
  most x (set p n blocking y t) = parts_on x y
  most x (empty p) = 0

  pub most_all : ℕ → Stmts → ℕ
  most_all x no_stmts = 0
  most_all x (a_stmt s ss) = most x s + most_all x ss

  -- of arms after others, among which there was a default or not
  pub most_of : ℕ → Bool → Arms → ℕ
  most_of x met no_arms = 0
  most_of x met (arm labels s arms) = max (if met && is_default labels then 0 else most x s) (most_of x (met || is_default labels) arms)
