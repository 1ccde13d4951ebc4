-- The parts of the targets of a text, in order of the text.
use Rattle.std.specs.Prelude.{if◌then◌else◌, ℕ, Bool, List, [], ◌∷◌, ◌++◌, Option, Some, None}
use Rattle.std.specs.Borrow.{Bor}
use Rattle.design_model.specs.Shape.{same_bool}
use Rattle.design_model.specs.Tree.{Arms, Stmt, Stmts, Target, Targets, Term, a_stmt, a_target, all_of, arm, bits_of, block, branch, empty, no_arms, no_stmts, no_targets, select, set, several, turns, word_of}
use Rattle.design_model.specs.View.{term_view}
use Rattle.design_model.specs.declared.tree.Term.{Term as CodeTerm}
use Rattle.design_targets.specs.declared.leaves.Leaf.{Leaf as CodeLeaf}

-- a part of a target that has no parts of its own: the signal or memory, and of a part of a signal the index of the lowest bit and the number of bits
abbrev pub Leaf : Type 0
Leaf = ℕ × Option (Term × ℕ)

-- the parts of a target
abbrev mutual
  pub target_leaves : Target → List Leaf
  target_leaves (all_of s) = (s, None) ∷ []
  target_leaves (bits_of s low w) = (s, Some (low, w)) ∷ []
  target_leaves (word_of m i) = (m, None) ∷ []
  target_leaves (several ts) = all_target_leaves ts

  pub all_target_leaves : Targets → List Leaf
  all_target_leaves no_targets = []
  all_target_leaves (a_target t ts) = target_leaves t ++ all_target_leaves ts

-- those of the blocking assignments of a body, or with false of its nonblocking ones
abbrev mutual
  pub leaves : Bool → Stmt → List Leaf
  leaves b (block p ss) = all_leaves b ss
  leaves b (branch p n t s other) = leaves b s ++ all_leaves b other
  leaves b (select p n kind t arms) = arms_leaves b arms
  leaves b (turns p n ss) = all_leaves b ss
  leaves b (set p n blocking x t) = if same_bool blocking b then target_leaves x else []
  leaves b (empty p) = []

  pub all_leaves : Bool → Stmts → List Leaf
  all_leaves b no_stmts = []
  all_leaves b (a_stmt s ss) = leaves b s ++ all_leaves b ss

  pub arms_leaves : Bool → Arms → List Leaf
  arms_leaves b no_arms = []
  arms_leaves b (arm labels s arms) = leaves b s ++ arms_leaves b arms

-- the index and the number of bits of a part
abbrev pub part_view : Option (Bor CodeTerm × ℕ) → Option (Term × ℕ)
part_view None = None
part_view (Some (low, w)) = Some (term_view low.now, w)

-- the part that a part of the code represents
abbrev pub leaf_view : CodeLeaf → Leaf
leaf_view l = (l.thing, part_view l.part)
