-- What scenes that are alike have in common, and the contexts of the terms that the run of a body evaluates.
use Rattle.std.specs.Prelude.{◌≡◌, ◌∷◌, ◌++◌, ℕ, List, [], true, Option}
use Rattle.body_calls.specs.known_state.Partly.{Partly}
use Rattle.body_calls.specs.design_model.Design.{Design, In}
use Rattle.body_calls.specs.design_model.Tree.{Arms, Stmt, Stmts, Target, Targets, Term, Terms, a_stmt, a_target, a_term, all_of, arm, bits_of, block, branch, empty, no_arms, no_stmts, no_targets, no_terms, select, set, several, turns, word_of}
use Rattle.body_calls.specs.design_model.Shape.{is_body}
use Rattle.body_calls.specs.body_replay.Replay.{State, joined_states}
use Rattle.body_calls.specs.term_replay.Noted.{marks_of}
use Rattle.body_calls.specs.term_replay.Stands.{IsInContext, Scene, Stands, first_after}
use Rattle.body_calls.specs.Lvalues.{Like}
use Rattle.body_calls.specs.Ways.{joined_scene}
use Rattle.scene_laws.specs.At.{scene_of}

-- a term gives the same on both scenes
pub record SameTerm (v w : Scene) (before : Option ℕ) (t : Term) : Type 0 where
  pub value : (r : Partly) → Stands w before t r → Stands v before t r
  pub first : first_after w before t ≡ first_after v before t
  pub marks : marks_of w before t ≡ marks_of v before t

-- *alike*: each term is the same in scenes that are alike
abbrev pub TermsAlike : Type 0
TermsAlike = (v w : Scene) → Like v w → (first : Option ℕ) (t : Term) → SameTerm v w first t

-- the terms of a list
abbrev pub each_of : Terms → List Term
each_of no_terms = []
each_of (a_term t ts) = t ∷ each_of ts

-- the indexes of a target
abbrev mutual
  pub indexes_of : Target → List Term
  indexes_of (all_of s) = []
  indexes_of (bits_of s low w) = low ∷ []
  indexes_of (word_of m i) = i ∷ []
  indexes_of (several ts) = all_indexes_of ts

  pub all_indexes_of : Targets → List Term
  all_indexes_of no_targets = []
  all_indexes_of (a_target t ts) = indexes_of t ++ all_indexes_of ts

-- the terms that the run of a statement may evaluate: indexes, values, conditions, selectors and labels
abbrev mutual
  pub run_terms : Stmt → List Term
  run_terms (block p ss) = all_run_terms ss
  run_terms (branch p n t s other) = t ∷ run_terms s ++ all_run_terms other
  run_terms (select p n kind t arms) = t ∷ arms_run_terms arms
  run_terms (turns p n ss) = all_run_terms ss
  run_terms (set p n blocking x t) = t ∷ indexes_of x
  run_terms (empty p) = []

  pub all_run_terms : Stmts → List Term
  all_run_terms no_stmts = []
  all_run_terms (a_stmt s ss) = run_terms s ++ all_run_terms ss

  pub arms_run_terms : Arms → List Term
  arms_run_terms no_arms = []
  arms_run_terms (arm labels s arms) = each_of labels ++ run_terms s ++ arms_run_terms arms

-- *contexts*: each term that the run of a body evaluates has the width and sign of its context
abbrev pub InContexts : Type 0
InContexts = (d : Design) (s : Stmt) → is_body d s ≡ true → (t : Term) → In t (run_terms s) → IsInContext d t

-- *joins*: what is read after an undecided test is what the definition joins of the states that its branches leave
abbrev pub JoinsAlike : Type 0
JoinsAlike =
    (d : Design) (test : ℕ) (left right : State) (v w : Scene) → Like (scene_of d left) v → Like (scene_of d right) w
    → Like (scene_of d (joined_states d test left right)) (joined_scene test v w)
