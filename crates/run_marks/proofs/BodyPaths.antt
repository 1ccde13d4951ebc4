-- The assignments on each path through a body are those of the body.
use Rattle.std.proofs.Common.{ℕ, suc, Bool, true, false, List, [], ◌∷◌, ◌++◌, subst, inl, inr, if◌then◌else◌}
use Rattle.std.specs.Prelude.{⊤}
use Rattle.four_state.specs.declared.operator.CaseKind.{CaseKind}
use Rattle.design_model.specs.Tree.{Arms, Stmt, Stmts, Target, Term, Terms, a_stmt, a_term, arm, block, branch, empty, no_arms, no_stmts, no_terms, select, set, turns}
use Rattle.design_model.specs.Design.{In}
use Rattle.design_model.specs.Execution.{is_default}
use Rattle.design_model.specs.Paths.{Path, PlacedAction, action_at, compares, followed_by, matching_ways, passing_actions, paths, paths_all, paths_default, paths_of, preceded_by, reaches, selects, tests}
use Rattle.design_model.proofs.Along.{ActionHas, AllActions}
use Rattle.design_model.proofs.Execution.{EachSet, EachSetIn, EachSetOf}

module _ (S : Bool → Target → Term → Type 0) where
  -- each assignment on each of these paths has S
  abbrev AllPaths : List Path → Type 0
  AllPaths [] = ⊤
  AllPaths (p ∷ ps) = AllActions S p × AllPaths ps

  actions_append : (xs ys : Path) → AllActions S xs → AllActions S ys → AllActions S (xs ++ ys)
  actions_append [] ys a b = b
  actions_append (x ∷ xs) ys a b = (a.0, actions_append xs ys a.1 b)

  append : (ps qs : List Path) → AllPaths ps → AllPaths qs → AllPaths (ps ++ qs)
  append [] qs a b = b
  append (p ∷ ps) qs a b = (a.0, append ps qs a.1 b)

  preceded : (xs : Path) (ps : List Path) → AllActions S xs → AllPaths ps → AllPaths (preceded_by xs ps)
  preceded xs [] a b = tt
  preceded xs (p ∷ ps) a b = (actions_append xs p a b.0, preceded xs ps a b.1)

  followed : (ps qs : List Path) → AllPaths ps → AllPaths qs → AllPaths (followed_by ps qs)
  followed [] qs a b = tt
  followed (p ∷ ps) qs a b = append (preceded_by p qs) (followed_by ps qs) (preceded p qs a.0 b) (followed ps qs a.1 b)

  matching : (at : List ℕ) (k : ℕ) (kind : CaseKind) (on : Term) (ts : Terms) → AllPaths (matching_ways at k kind on ts)
  matching at k kind on no_terms = tt
  matching at k kind on (a_term t ts) =
      ((tt, tt), preceded (action_at (k ∷ at) (compares kind on t false) ∷ []) (matching_ways at (suc k) kind on ts) (tt, tt) (matching at (suc k) kind on ts))

  passing : (at : List ℕ) (k : ℕ) (kind : CaseKind) (on : Term) (ts : Terms) → AllActions S (passing_actions at k kind on ts)
  passing at k kind on no_terms = tt
  passing at k kind on (a_term t ts) = (tt, passing at (suc k) kind on ts)

  mutual
    body_paths : (at : List ℕ) (s : Stmt) → EachSet (λ n. S) s → AllPaths (paths at s)
    body_paths at (block p ss) e = all_paths at 0 ss e
    body_paths at (branch p n t s other) e =
        append (preceded_by (action_at at (reaches n) ∷ action_at at (tests t true) ∷ []) (paths (0 ∷ at) s)) (preceded_by (action_at at (reaches n) ∷ action_at at (tests t false) ∷ []) (paths_all at 1 other))
        (preceded (action_at at (reaches n) ∷ action_at at (tests t true) ∷ []) (paths (0 ∷ at) s) (tt, (tt, tt)) (body_paths (0 ∷ at) s e.0))
        (preceded (action_at at (reaches n) ∷ action_at at (tests t false) ∷ []) (paths_all at 1 other) (tt, (tt, tt)) (all_paths at 1 other e.1))
    body_paths at (select p n kind t arms) e =
        preceded (action_at at (reaches n) ∷ action_at at (selects t) ∷ []) (paths_of at 0 kind t arms (paths_default at 0 arms)) (tt, (tt, tt))
        (arm_paths at 0 kind t arms e (paths_default at 0 arms) (default_paths at 0 arms e))
    body_paths at (turns p n ss) e = preceded (action_at at (reaches n) ∷ []) (paths_all at 0 ss) (tt, tt) (all_paths at 0 ss e)
    body_paths at (set p n b x t) e = ((tt, (e, tt)), tt)
    body_paths at (empty p) e = (tt, tt)

    all_paths : (at : List ℕ) (k : ℕ) (ss : Stmts) → EachSetOf (λ n. S) ss → AllPaths (paths_all at k ss)
    all_paths at k no_stmts e = (tt, tt)
    all_paths at k (a_stmt s ss) e = followed (paths (k ∷ at) s) (paths_all at (suc k) ss) (body_paths (k ∷ at) s e.0) (all_paths at (suc k) ss e.1)

    arm_paths : (at : List ℕ) (k : ℕ) (kind : CaseKind) (on : Term) (arms : Arms) → EachSetIn (λ n. S) arms → (otherwise : List Path) → AllPaths otherwise → AllPaths (paths_of at k kind on arms otherwise)
    arm_paths at k kind on no_arms e otherwise o = o
    arm_paths at k kind on (arm labels s arms) e otherwise o =
        append (followed_by (matching_ways (k ∷ at) 1 kind on labels) (paths (0 ∷ k ∷ at) s)) (preceded_by (passing_actions (k ∷ at) 1 kind on labels) (paths_of at (suc k) kind on arms otherwise))
        (followed (matching_ways (k ∷ at) 1 kind on labels) (paths (0 ∷ k ∷ at) s) (matching (k ∷ at) 1 kind on labels) (body_paths (0 ∷ k ∷ at) s e.0))
        (preceded (passing_actions (k ∷ at) 1 kind on labels) (paths_of at (suc k) kind on arms otherwise) (passing (k ∷ at) 1 kind on labels) (arm_paths at (suc k) kind on arms e.1 otherwise o))

    default_paths : (at : List ℕ) (k : ℕ) (arms : Arms) → EachSetIn (λ n. S) arms → AllPaths (paths_default at k arms)
    default_paths at k no_arms e = (tt, tt)
    default_paths at k (arm labels s arms) e = go (is_default labels) (body_paths (0 ∷ k ∷ at) s e.0) (default_paths at (suc k) arms e.1)
      where
        go : (b : Bool) → AllPaths (paths (0 ∷ k ∷ at) s) → AllPaths (paths_default at (suc k) arms) → AllPaths (if b then paths (0 ∷ k ∷ at) s else paths_default at (suc k) arms)
        go true a b = a
        go false a b = b

  in_actions : (x : PlacedAction) (xs : Path) → AllActions S xs → In x xs → ActionHas S x.action
  in_actions x [] a h = absurd h
  in_actions x (y ∷ xs) a (inl e) = subst (λ (z : PlacedAction). ActionHas S z.action) e a.0
  in_actions x (y ∷ xs) a (inr h) = in_actions x xs a.1 h

  in_paths : (p : Path) (ps : List Path) → AllPaths ps → In p ps → AllActions S p
  in_paths p [] a h = absurd h
  in_paths p (q ∷ ps) a (inl e) = subst (AllActions S) e a.0
  in_paths p (q ∷ ps) a (inr h) = in_paths p ps a.1 h

  -- an assignment on a path of a body has what each of the body has
  pub on_path : (b : Stmt) → EachSet (λ n. S) b → (p : Path) → In p (paths [] b) → (x : PlacedAction) → In x p → ActionHas S x.action
  on_path b e p here x there = in_actions x p (in_paths p (paths [] b) (body_paths [] b e) here) there
