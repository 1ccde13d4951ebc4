-- Bodies that name a signal in at most one target of each path.
use Rattle.std.specs.Prelude.{◌+◌, ◌==◌, ◌∷◌, if◌then◌else◌, ℕ, Bool, [], nat_le}
use Rattle.std.specs.List.{list_all}
use Rattle.design_model.specs.Tree.{Stmt, Target, Targets, a_target, all_of, bits_of, no_targets, several, word_of}
use Rattle.design_model.specs.Paths.{Action, Path, assigns, paths}

-- how many parts of a target name signal or memory x
abbrev mutual
  pub parts_on : ℕ → Target → ℕ
  parts_on x (all_of s) = if s == x then 1 else 0
  parts_on x (bits_of s low w) = if s == x then 1 else 0
  parts_on x (word_of m i) = if m == x then 1 else 0
  parts_on x (several ts) = all_parts_on x ts

  pub all_parts_on : ℕ → Targets → ℕ
  all_parts_on x no_targets = 0
  all_parts_on x (a_target t ts) = parts_on x t + all_parts_on x ts

-- how many targets of an action name x
abbrev pub action_targets_on : ℕ → Action → ℕ
action_targets_on x (assigns blocking y t) = parts_on x y
action_targets_on x _ = 0

-- how many targets of a path name x
abbrev pub path_targets_on : ℕ → Path → ℕ
path_targets_on x [] = 0
path_targets_on x (y ∷ ys) = action_targets_on x y.action + path_targets_on x ys

-- on each path through the body at most one target names x
abbrev pub names_once : Stmt → ℕ → Bool
names_once b x = list_all (λ p. nat_le (path_targets_on x p) 1) (paths [] b)
