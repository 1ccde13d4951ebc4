-- The most targets that name a thing on one path are those of the text.
use Rattle.std.proofs.Common.{◌≡◌, ◌∙◌, ℕ, suc, ◌+◌, Bool, true, false, cond, ◌&&◌, List, [], ◌∷◌, ◌++◌, refl, sym, ap, ap₂, arith}
use Rattle.std.specs.Prelude.{⊤, max, nat_le}
use Rattle.std.specs.List.{list_all}
use Rattle.four_state.specs.declared.operator.CaseKind.{CaseKind}
use Rattle.design_model.specs.Execution.{is_default}
use Rattle.design_model.specs.Once.{names_once, path_targets_on}
use Rattle.design_model.specs.Paths.{Path, action_at, compares, followed_by, matching_ways, passing_actions, paths, paths_all, paths_default, paths_of, preceded_by, reaches, selects, tests}
use Rattle.design_model.specs.Tree.{Arms, Stmt, Stmts, Term, Terms, a_stmt, a_term, arm, block, branch, empty, no_arms, no_stmts, no_terms, select, set, turns}
use Rattle.target_counts.specs.Most.{most, most_all, most_of}

-- the list has a path
abbrev IsAny : List Path → Type 0
IsAny [] = ⊥
IsAny (p ∷ ps) = ⊤

any_preceded : (xs : Path) (ps : List Path) → IsAny ps → IsAny (preceded_by xs ps)
any_preceded xs [] h = h
any_preceded xs (p ∷ ps) h = tt

any_right : (ps qs : List Path) → IsAny qs → IsAny (ps ++ qs)
any_right [] qs h = h
any_right (p ∷ ps) qs h = tt

any_left : (ps qs : List Path) → IsAny ps → IsAny (ps ++ qs)
any_left [] qs h = absurd h
any_left (p ∷ ps) qs h = tt

any_followed : (ps qs : List Path) → IsAny ps → IsAny qs → IsAny (followed_by ps qs)
any_followed [] qs h k = absurd h
any_followed (p ∷ ps) qs h k = any_left (preceded_by p qs) (followed_by ps qs) (any_preceded p qs k)

-- each text has a path
mutual
  some_path : (at : List ℕ) (s : Stmt) → IsAny (paths at s)
  some_path at (block p ss) = some_paths at 0 ss
  some_path at (branch p n t s other) = any_left (preceded_by (action_at at (reaches n) ∷ action_at at (tests t true) ∷ []) (paths (0 ∷ at) s)) (preceded_by (action_at at (reaches n) ∷ action_at at (tests t false) ∷ []) (paths_all at 1 other)) (any_preceded (action_at at (reaches n) ∷ action_at at (tests t true) ∷ []) (paths (0 ∷ at) s) (some_path (0 ∷ at) s))
  some_path at (select p n kind t arms) = any_preceded (action_at at (reaches n) ∷ action_at at (selects t) ∷ []) (paths_of at 0 kind t arms (paths_default at 0 arms)) (some_arm at 0 kind t arms (paths_default at 0 arms) (some_default at 0 arms))
  some_path at (turns p n ss) = any_preceded (action_at at (reaches n) ∷ []) (paths_all at 0 ss) (some_paths at 0 ss)
  some_path at (set p n blocking y t) = tt
  some_path at (empty p) = tt

  some_paths : (at : List ℕ) (k : ℕ) (ss : Stmts) → IsAny (paths_all at k ss)
  some_paths at k no_stmts = tt
  some_paths at k (a_stmt s ss) = any_followed (paths (k ∷ at) s) (paths_all at (suc k) ss) (some_path (k ∷ at) s) (some_paths at (suc k) ss)

  some_arm : (at : List ℕ) (k : ℕ) (kind : CaseKind) (on : Term) (arms : Arms) (otherwise : List Path) → IsAny otherwise → IsAny (paths_of at k kind on arms otherwise)
  some_arm at k kind on no_arms otherwise h = h
  some_arm at k kind on (arm labels s arms) otherwise h =
      any_right (followed_by (matching_ways (k ∷ at) 1 kind on labels) (paths (0 ∷ k ∷ at) s)) (preceded_by (passing_actions (k ∷ at) 1 kind on labels) (paths_of at (suc k) kind on arms otherwise))
      (any_preceded (passing_actions (k ∷ at) 1 kind on labels) (paths_of at (suc k) kind on arms otherwise) (some_arm at (suc k) kind on arms otherwise h))

  some_default : (at : List ℕ) (k : ℕ) (arms : Arms) → IsAny (paths_default at k arms)
  some_default at k no_arms = tt
  some_default at k (arm no_terms s arms) = some_path (0 ∷ k ∷ at) s
  some_default at k (arm (a_term t ts) s arms) = some_default at (suc k) arms

-- the most on one of the arms that have labels, and that on the first default
abbrev labelled : ℕ → Arms → ℕ
labelled x no_arms = 0
labelled x (arm labels s arms) = cond (is_default labels) (labelled x arms) (max (most x s) (labelled x arms))

abbrev default_most : ℕ → Arms → ℕ
default_most x no_arms = 0
default_most x (arm labels s arms) = cond (is_default labels) (most x s) (default_most x arms)

after_default : (x : ℕ) (arms : Arms) → most_of x true arms ≡ labelled x arms
after_default x no_arms = refl
after_default x (arm no_terms s arms) = let later = after_default x arms in omega (arith, later)
after_default x (arm (a_term t ts) s arms) = ap (max (most x s)) (after_default x arms)

before_default : (x : ℕ) (arms : Arms) → most_of x false arms ≡ max (labelled x arms) (default_most x arms)
before_default x no_arms = refl
before_default x (arm no_terms s arms) = let later = after_default x arms in omega (arith, later)
before_default x (arm (a_term t ts) s arms) = let later = before_default x arms in omega (arith, later)

both_below : (a b : ℕ) → (nat_le a 1 && nat_le b 1) ≡ nat_le (max a b) 1
both_below a b = grind (arith)

module _ (x : ℕ) where
  -- the most on one of the paths
  abbrev highest : List Path → ℕ
  highest [] = 0
  highest (p ∷ ps) = max (path_targets_on x p) (highest ps)

  all_below : (ps : List Path) → list_all (λ p. nat_le (path_targets_on x p) 1) ps ≡ nat_le (highest ps) 1
  all_below [] = refl
  all_below (p ∷ ps) = ap (λ b. nat_le (path_targets_on x p) 1 && b) (all_below ps) ∙ both_below (path_targets_on x p) (highest ps)

  of_both : (ps qs : List Path) → highest (ps ++ qs) ≡ max (highest ps) (highest qs)
  of_both [] qs = omega arith
  of_both (p ∷ ps) qs = let rest = of_both ps qs in omega (arith, rest)

  on_both : (p q : Path) → path_targets_on x (p ++ q) ≡ path_targets_on x p + path_targets_on x q
  on_both [] q = omega arith
  on_both (y ∷ p) q = let rest = on_both p q in omega (arith, rest)

  of_preceded : (p : Path) (ps : List Path) → IsAny ps → highest (preceded_by p ps) ≡ path_targets_on x p + highest ps
  of_preceded p [] h = absurd h
  of_preceded p (q ∷ []) h = let here = on_both p q in omega (arith, here)
  of_preceded p (q ∷ r ∷ ps) h = let here = on_both p q in let rest = of_preceded p (r ∷ ps) tt in omega (arith, here, rest)

  of_followed : (ps qs : List Path) → IsAny ps → IsAny qs → highest (followed_by ps qs) ≡ highest ps + highest qs
  of_followed [] qs h k = absurd h
  of_followed (p ∷ []) qs h k = let both = of_both (preceded_by p qs) [] in let first = of_preceded p qs k in omega (arith, both, first)
  of_followed (p ∷ q ∷ ps) qs h k =
      let both = of_both (preceded_by p qs) (followed_by (q ∷ ps) qs) in
      let first = of_preceded p qs k in
      let rest = of_followed (q ∷ ps) qs tt k in
      omega (arith, both, first, rest)

  -- steps that assign nothing
  of_steps : (p : Path) (ps : List Path) → path_targets_on x p ≡ 0 → IsAny ps → highest (preceded_by p ps) ≡ highest ps
  of_steps p ps none h = let all = of_preceded p ps h in omega (arith, all, none)

  no_matching : (at : List ℕ) (k : ℕ) (kind : CaseKind) (on : Term) (ts : Terms) → highest (matching_ways at k kind on ts) ≡ 0
  no_matching at k kind on no_terms = refl
  no_matching at k kind on (a_term t no_terms) = omega arith
  no_matching at k kind on (a_term t (a_term u ts)) =
      let rest = of_steps (action_at (k ∷ at) (compares kind on t false) ∷ []) (matching_ways at (suc k) kind on (a_term u ts)) (omega arith) tt in
      let none = no_matching at (suc k) kind on (a_term u ts) in
      omega (arith, rest, none)

  no_passing : (at : List ℕ) (k : ℕ) (kind : CaseKind) (on : Term) (ts : Terms) → path_targets_on x (passing_actions at k kind on ts) ≡ 0
  no_passing at k kind on no_terms = refl
  no_passing at k kind on (a_term t ts) = let rest = no_passing at (suc k) kind on ts in omega (arith, rest)

  mutual
    of_stmt : (at : List ℕ) (s : Stmt) → highest (paths at s) ≡ most x s
    of_stmt at (block p ss) = of_stmts at 0 ss
    of_stmt at (branch p n t s other) =
        let taken : Path = action_at at (reaches n) ∷ action_at at (tests t true) ∷ [] in
        let passed : Path = action_at at (reaches n) ∷ action_at at (tests t false) ∷ [] in
        let both = of_both (preceded_by taken (paths (0 ∷ at) s)) (preceded_by passed (paths_all at 1 other)) in
        let yes = of_steps taken (paths (0 ∷ at) s) (omega arith) (some_path (0 ∷ at) s) in
        let no = of_steps passed (paths_all at 1 other) (omega arith) (some_paths at 1 other) in
        both ∙ ap₂ max (yes ∙ of_stmt (0 ∷ at) s) (no ∙ of_stmts at 1 other)
    of_stmt at (select p n kind t arms) =
        of_steps (action_at at (reaches n) ∷ action_at at (selects t) ∷ []) (paths_of at 0 kind t arms (paths_default at 0 arms)) (omega arith) (some_arm at 0 kind t arms (paths_default at 0 arms) (some_default at 0 arms))
        ∙ of_arms at 0 kind t arms (paths_default at 0 arms) (some_default at 0 arms)
        ∙ ap (max (labelled x arms)) (of_default at 0 arms)
        ∙ sym (before_default x arms)
    of_stmt at (turns p n ss) = of_steps (action_at at (reaches n) ∷ []) (paths_all at 0 ss) (omega arith) (some_paths at 0 ss) ∙ of_stmts at 0 ss
    of_stmt at (set p n blocking y t) = omega arith
    of_stmt at (empty p) = refl

    of_stmts : (at : List ℕ) (k : ℕ) (ss : Stmts) → highest (paths_all at k ss) ≡ most_all x ss
    of_stmts at k no_stmts = refl
    of_stmts at k (a_stmt s ss) =
        of_followed (paths (k ∷ at) s) (paths_all at (suc k) ss) (some_path (k ∷ at) s) (some_paths at (suc k) ss) ∙ ap₂ (λ a b. a + b) (of_stmt (k ∷ at) s) (of_stmts at (suc k) ss)

    of_arms : (at : List ℕ) (k : ℕ) (kind : CaseKind) (on : Term) (arms : Arms) (otherwise : List Path) → IsAny otherwise → highest (paths_of at k kind on arms otherwise) ≡ max (labelled x arms) (highest otherwise)
    of_arms at k kind on no_arms otherwise h = omega arith
    of_arms at k kind on (arm no_terms s arms) otherwise h =
        of_steps [] (paths_of at (suc k) kind on arms otherwise) refl (some_arm at (suc k) kind on arms otherwise h) ∙ of_arms at (suc k) kind on arms otherwise h
    of_arms at k kind on (arm (a_term t ts) s arms) otherwise h =
        let ways = matching_ways (k ∷ at) 1 kind on (a_term t ts) in
        let rest = paths_of at (suc k) kind on arms otherwise in
        let both = of_both (followed_by ways (paths (0 ∷ k ∷ at) s)) (preceded_by (passing_actions (k ∷ at) 1 kind on (a_term t ts)) rest) in
        let first = of_followed ways (paths (0 ∷ k ∷ at) s) tt (some_path (0 ∷ k ∷ at) s) in
        let none = no_matching (k ∷ at) 1 kind on (a_term t ts) in
        let here = of_stmt (0 ∷ k ∷ at) s in
        let others = of_steps (passing_actions (k ∷ at) 1 kind on (a_term t ts)) rest (no_passing (k ∷ at) 1 kind on (a_term t ts)) (some_arm at (suc k) kind on arms otherwise h) in
        let later = of_arms at (suc k) kind on arms otherwise h in
        omega (arith, both, first, none, here, others, later)

    of_default : (at : List ℕ) (k : ℕ) (arms : Arms) → highest (paths_default at k arms) ≡ default_most x arms
    of_default at k no_arms = refl
    of_default at k (arm no_terms s arms) = of_stmt (0 ∷ k ∷ at) s
    of_default at k (arm (a_term t ts) s arms) = of_default at (suc k) arms

-- it is named at most once on each path exactly where the most is one
pub once_is : (s : Stmt) (x : ℕ) → names_once s x ≡ nat_le (most x s) 1
once_is s x = all_below x (paths [] s) ∙ ap (λ n. nat_le n 1) (of_stmt x [] s)
