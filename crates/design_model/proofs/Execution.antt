-- An induction over executions: what each assignment and each visit keeps, a body keeps.
use Rattle.std.proofs.Common.{◌≡◌, ℕ, Bool, true, false, List, [], ◌∷◌, if◌then◌else◌}
use Rattle.std.specs.Prelude.{⊤}
use Rattle.std.proofs.lemmas.Bool.{or_parts}
use Rattle.four_state.specs.Vector.{truth}
use Rattle.four_state.specs.declared.bit.Bit.{Bit}
use Rattle.four_state.specs.declared.operator.CaseKind.{CaseKind}
use Rattle.four_state.specs.declared.truth.Truth.{Truth}
use Rattle.four_state.specs.declared.truth.Truth.TheVariants.{False, Strange, True}
use Rattle.design_model.specs.Tree.{Arms, Stmt, Stmts, Target, Term, a_stmt, arm, block, branch, empty, no_arms, no_stmts, select, set, turns}
use Rattle.design_model.specs.Design.{Design}
use Rattle.design_model.specs.Value.{value}
use Rattle.design_model.specs.Mentions.{any_set, any_set_in, any_set_of}
use Rattle.design_model.specs.Execution.{Execution, Visit, at_line, choose, evaluate, execute, execute_all, execute_arms, execute_assignment, execute_default, is_default, is_inner, label_visits, some_match, visits_of, with_visits}

-- S of each assignment of a body
abbrev mutual
  pub EachSet : (ℕ → Bool → Target → Term → Type 0) → Stmt → Type 0
  EachSet S (block p ss) = EachSetOf S ss
  EachSet S (branch p n t s other) = EachSet S s × EachSetOf S other
  EachSet S (select p n kind t arms) = EachSetIn S arms
  EachSet S (turns p n ss) = EachSetOf S ss
  EachSet S (set p n blocking x t) = S n blocking x t
  EachSet S (empty p) = ⊤

  pub EachSetOf : (ℕ → Bool → Target → Term → Type 0) → Stmts → Type 0
  EachSetOf S no_stmts = ⊤
  EachSetOf S (a_stmt s ss) = EachSet S s × EachSetOf S ss

  pub EachSetIn : (ℕ → Bool → Target → Term → Type 0) → Arms → Type 0
  EachSetIn S no_arms = ⊤
  EachSetIn S (arm labels s arms) = EachSet S s × EachSetIn S arms

-- where no assignment passes a test, each fails it
mutual
  pub each_fails : (f : Bool → Target → Term → Bool) (s : Stmt) → any_set f s ≡ false → EachSet (λ n b x t. f b x t ≡ false) s
  each_fails f (block p ss) e = each_fails_of f ss e
  each_fails f (branch p n t s other) e = let h = or_parts (any_set f s) (any_set_of f other) e in (each_fails f s h.0, each_fails_of f other h.1)
  each_fails f (select p n kind t arms) e = each_fails_in f arms e
  each_fails f (turns p n ss) e = each_fails_of f ss e
  each_fails f (set p n blocking x t) e = e
  each_fails f (empty p) e = tt

  pub each_fails_of : (f : Bool → Target → Term → Bool) (ss : Stmts) → any_set_of f ss ≡ false → EachSetOf (λ n b x t. f b x t ≡ false) ss
  each_fails_of f no_stmts e = tt
  each_fails_of f (a_stmt s ss) e = let h = or_parts (any_set f s) (any_set_of f ss) e in (each_fails f s h.0, each_fails_of f ss h.1)

  pub each_fails_in : (f : Bool → Target → Term → Bool) (arms : Arms) → any_set_in f arms ≡ false → EachSetIn (λ n b x t. f b x t ≡ false) arms
  each_fails_in f no_arms e = tt
  each_fails_in f (arm labels s arms) e = let h = or_parts (any_set f s) (any_set_in f arms) e in (each_fails f s h.0, each_fails_in f arms h.1)

-- a fact of each assignment gives another
mutual
  pub each_gives : {S R : ℕ → Bool → Target → Term → Type 0} → ((n : ℕ) (b : Bool) (x : Target) (t : Term) → S n b x t → R n b x t) → (s : Stmt) → EachSet S s → EachSet R s
  each_gives g (block p ss) e = each_gives_of g ss e
  each_gives g (branch p n t s other) e = (each_gives g s e.0, each_gives_of g other e.1)
  each_gives g (select p n kind t arms) e = each_gives_in g arms e
  each_gives g (turns p n ss) e = each_gives_of g ss e
  each_gives g (set p n blocking x t) e = g n blocking x t e
  each_gives g (empty p) e = tt

  pub each_gives_of : {S R : ℕ → Bool → Target → Term → Type 0} → ((n : ℕ) (b : Bool) (x : Target) (t : Term) → S n b x t → R n b x t) → (ss : Stmts) → EachSetOf S ss → EachSetOf R ss
  each_gives_of g no_stmts e = tt
  each_gives_of g (a_stmt s ss) e = (each_gives g s e.0, each_gives_of g ss e.1)

  pub each_gives_in : {S R : ℕ → Bool → Target → Term → Type 0} → ((n : ℕ) (b : Bool) (x : Target) (t : Term) → S n b x t → R n b x t) → (arms : Arms) → EachSetIn S arms → EachSetIn R arms
  each_gives_in g no_arms e = tt
  each_gives_in g (arm labels s arms) e = (each_gives g s e.0, each_gives_in g arms e.1)

-- a fact of every assignment
mutual
  pub each_all : {S : ℕ → Bool → Target → Term → Type 0} → ((n : ℕ) (b : Bool) (x : Target) (t : Term) → S n b x t) → (s : Stmt) → EachSet S s
  each_all g (block p ss) = each_all_of g ss
  each_all g (branch p n t s other) = (each_all g s, each_all_of g other)
  each_all g (select p n kind t arms) = each_all_in g arms
  each_all g (turns p n ss) = each_all_of g ss
  each_all g (set p n blocking x t) = g n blocking x t
  each_all g (empty p) = tt

  pub each_all_of : {S : ℕ → Bool → Target → Term → Type 0} → ((n : ℕ) (b : Bool) (x : Target) (t : Term) → S n b x t) → (ss : Stmts) → EachSetOf S ss
  each_all_of g no_stmts = tt
  each_all_of g (a_stmt s ss) = (each_all g s, each_all_of g ss)

  pub each_all_in : {S : ℕ → Bool → Target → Term → Type 0} → ((n : ℕ) (b : Bool) (x : Target) (t : Term) → S n b x t) → (arms : Arms) → EachSetIn S arms
  each_all_in g no_arms = tt
  each_all_in g (arm labels s arms) = (each_all g s, each_all_in g arms)

choose_keeps : (P : Execution → Type 0) (x : Truth) (a b : Execution) → P a → P b → P (choose x a b)
choose_keeps P True a b pa pb = pa
choose_keeps P False a b pa pb = pb
choose_keeps P Strange a b pa pb = pb

if_keeps : (P : Execution → Type 0) (x : Bool) (a b : Execution) → P a → P b → P (if x then a else b)
if_keeps P true a b pa pb = pa
if_keeps P false a b pa pb = pb

module _ (d : Design) (P : Execution → Type 0) (visited : (r : Execution) (vs : List Visit) → P r → P (with_visits r vs)) where
  -- each assignment keeps P
  abbrev pub KeepsP : ℕ → Bool → Target → Term → Type 0
  KeepsP n b x t = (r : Execution) → P r → P (execute_assignment d n b x t r)

  mutual
    pub execute_keeps : (s : Stmt) → EachSet KeepsP s → (r : Execution) → P r → P (execute d s r)
    execute_keeps (block p ss) e r h = all_keeps ss e r h
    execute_keeps (branch p n t s other) e r h =
        let r1 : Execution = with_visits r (at_line n ∷ []) in
        let tested : Execution = evaluate d t r1 in
        let h2 : P tested = visited r1 (visits_of d r.values (is_inner d r) t) (visited r (at_line n ∷ []) h) in
        choose_keeps P (truth (value d r.values t)) (execute d s tested) (execute_all d other tested) (execute_keeps s e.0 tested h2) (all_keeps other e.1 tested h2)
    execute_keeps (select p n kind t arms) e r h =
        let r1 : Execution = with_visits r (at_line n ∷ []) in
        let tested : Execution = evaluate d t r1 in
        let h2 : P tested = visited r1 (visits_of d r.values (is_inner d r) t) (visited r (at_line n ∷ []) h) in
        arms_keep kind (value d r.values t) arms e (execute_default d arms) (default_keeps arms e) tested h2
    execute_keeps (turns p n ss) e r h = all_keeps ss e (with_visits r (at_line n ∷ [])) (visited r (at_line n ∷ []) h)
    execute_keeps (set p n blocking x t) e r h = e r h
    execute_keeps (empty p) e r h = h

    pub all_keeps : (ss : Stmts) → EachSetOf KeepsP ss → (r : Execution) → P r → P (execute_all d ss r)
    all_keeps no_stmts e r h = h
    all_keeps (a_stmt s ss) e r h = all_keeps ss e.1 (execute d s r) (execute_keeps s e.0 r h)

    pub arms_keep : (kind : CaseKind) (on : List Bit) (arms : Arms) → EachSetIn KeepsP arms → (otherwise : Execution → Execution) → ((r : Execution) → P r → P (otherwise r)) → (r : Execution) → P r → P (execute_arms d kind on arms otherwise r)
    arms_keep kind on no_arms e otherwise o r h = o r h
    arms_keep kind on (arm labels s arms) e otherwise o r h =
        let seen : Execution = with_visits r (label_visits d kind on r labels) in
        let h2 : P seen = visited r (label_visits d kind on r labels) h in
        if_keeps P (some_match d kind on r.values labels) (execute d s seen) (execute_arms d kind on arms otherwise seen) (execute_keeps s e.0 seen h2) (arms_keep kind on arms e.1 otherwise o seen h2)

    pub default_keeps : (arms : Arms) → EachSetIn KeepsP arms → (r : Execution) → P r → P (execute_default d arms r)
    default_keeps no_arms e r h = h
    default_keeps (arm labels s arms) e r h =
        if_keeps P (is_default labels) (execute d s r) (execute_default d arms r) (execute_keeps s e.0 r h) (default_keeps arms e.1 r h)
