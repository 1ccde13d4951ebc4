-- What a path's action mentions, the body mentions.
use Rattle.std.proofs.Common.{◌≡◌, ◌⊎◌, inl, inr, ⊎_elim, ℕ, suc, Bool, true, false, ◌&&◌, not, List, [], ◌∷◌, ◌++◌, refl, subst, if◌then◌else◌}
use Rattle.std.proofs.lemmas.Bool.{and_parts, false≢true, or_cases, or_left, or_right}
use Rattle.event_machine.specs.Cell.{Write}
use Rattle.four_state.specs.declared.bit.Bit.{Bit}
use Rattle.four_state.specs.declared.operator.CaseKind.{CaseKind}
use Rattle.design_model.specs.Tree.{Arms, Stmt, Stmts, Term, Terms, a_stmt, a_term, arm, block, branch, empty, no_arms, no_stmts, no_terms, select, set, turns}
use Rattle.design_model.specs.Design.{Design, In, body_at, signal_cells}
use Rattle.design_model.specs.Mentions.{arms_mention, body_mentions, body_mentions_all, mentions, mentions_any}
use Rattle.design_model.specs.Execution.{covers, is_default}
use Rattle.design_model.specs.Paths.{Path, PlacedAction, action_blocking_writes, action_mentions, assigns, compares, followed_by, matching_ways, passing_actions, paths, paths_all, paths_default, paths_of, preceded_by, reaches, reads_signal_unwritten, selects, action_at, tests}
use Rattle.design_model.specs.BodyLaws.{PathMentionsLaw}

in_two : {A : Type 0} (x : A) (xs ys : List A) → In x (xs ++ ys) → In x xs ⊎ In x ys
in_two x [] ys h = inr h
in_two x (z ∷ xs) ys (inl e) = inl (inl e)
in_two x (z ∷ xs) ys (inr h) = ⊎_elim (λ k. inl (inr k)) (λ k. inr k) (in_two x xs ys h)

module _ (y : ℕ) (G : Type 0) where
  -- an action that mentions y gives G
  abbrev StepGives : List PlacedAction → Type 0
  StepGives xs = (x : PlacedAction) → In x xs → action_mentions y x.action ≡ true → G

  abbrev PathsGive : List Path → Type 0
  PathsGive ps = (p : Path) → In p ps → StepGives p

  steps_two : (xs zs : List PlacedAction) → StepGives xs → StepGives zs → StepGives (xs ++ zs)
  steps_two xs zs f g x h m = ⊎_elim (λ k. f x k m) (λ k. g x k m) (in_two x xs zs h)

  one_step : (at : List ℕ) (a : _) → (action_mentions y a ≡ true → G) → StepGives (action_at at a ∷ [])
  one_step at a f x (inl e) m = f (subst (λ z. action_mentions y z.action ≡ true) (sym' e) m)
    where
      sym' : {p q : PlacedAction} → p ≡ q → q ≡ p
      sym' {p} e = subst (λ z. z ≡ p) e refl
  one_step at a f x (inr h) m = absurd h

  gives_append : (ps qs : List Path) → PathsGive ps → PathsGive qs → PathsGive (ps ++ qs)
  gives_append ps qs f g p h = ⊎_elim (λ k. f p k) (λ k. g p k) (in_two p ps qs h)

  gives_preceded : (xs : List PlacedAction) (ps : List Path) → StepGives xs → PathsGive ps → PathsGive (preceded_by xs ps)
  gives_preceded xs [] f g p h = absurd h
  gives_preceded xs (q ∷ ps) f g p (inl e) = subst StepGives e (steps_two xs q f (g q (inl refl)))
  gives_preceded xs (q ∷ ps) f g p (inr h) = gives_preceded xs ps f (λ r k. g r (inr k)) p h

  gives_followed : (ps qs : List Path) → PathsGive ps → PathsGive qs → PathsGive (followed_by ps qs)
  gives_followed [] qs f g p h = absurd h
  gives_followed (q ∷ ps) qs f g p h = gives_append (preceded_by q qs) (followed_by ps qs) (gives_preceded q qs (f q (inl refl)) g) (gives_followed ps qs (λ r k. f r (inr k)) g) p h

  gives_matching : (at : List ℕ) (k : ℕ) (kind : CaseKind) (on : Term) (ts : Terms) → (mentions_any y ts ≡ true → G) → PathsGive (matching_ways at k kind on ts)
  gives_matching at k kind on no_terms f p h = absurd h
  gives_matching at k kind on (a_term t ts) f p (inl e) = subst StepGives e (one_step (k ∷ at) (compares kind on t true) (λ m. f (or_left (mentions y t) _ m)))
  gives_matching at k kind on (a_term t ts) f p (inr h) =
      gives_preceded (action_at (k ∷ at) (compares kind on t false) ∷ []) (matching_ways at (suc k) kind on ts) (one_step (k ∷ at) (compares kind on t false) (λ m. f (or_left (mentions y t) _ m))) (gives_matching at (suc k) kind on ts (λ m. f (or_right (mentions y t) _ m))) p h

  gives_passing : (at : List ℕ) (k : ℕ) (kind : CaseKind) (on : Term) (ts : Terms) → (mentions_any y ts ≡ true → G) → StepGives (passing_actions at k kind on ts)
  gives_passing at k kind on no_terms f x h m = absurd h
  gives_passing at k kind on (a_term t ts) f x h m =
      steps_two (action_at (k ∷ at) (compares kind on t false) ∷ []) (passing_actions at (suc k) kind on ts) (one_step (k ∷ at) (compares kind on t false) (λ m. f (or_left (mentions y t) _ m))) (gives_passing at (suc k) kind on ts (λ m. f (or_right (mentions y t) _ m))) x h m

  one_path : (xs : List PlacedAction) → StepGives xs → PathsGive (xs ∷ [])
  one_path xs f p (inl e) = subst StepGives e f
  one_path xs f p (inr h) = absurd h

  two_steps : (at : List ℕ) (n : ℕ) (a : _) → (action_mentions y a ≡ true → G) → StepGives (action_at at (reaches n) ∷ action_at at a ∷ [])
  two_steps at n a f = steps_two (action_at at (reaches n) ∷ []) (action_at at a ∷ []) (one_step at (reaches n) (λ m. absurd (false≢true m))) (one_step at a f)

  mutual
    pub paths_give : (at : List ℕ) (b : Stmt) → (body_mentions y b ≡ true → G) → PathsGive (paths at b)
    paths_give at (block p ss) f = all_paths_give at 0 ss f
    paths_give at (branch p n t s other) f =
        gives_append (preceded_by (action_at at (reaches n) ∷ action_at at (tests t true) ∷ []) (paths (0 ∷ at) s)) _
        (gives_preceded (action_at at (reaches n) ∷ action_at at (tests t true) ∷ []) (paths (0 ∷ at) s) (two_steps at n (tests t true) (λ m. f (or_left (mentions y t) _ m))) (paths_give (0 ∷ at) s (λ m. f (or_right (mentions y t) _ (or_left (body_mentions y s) _ m)))))
        (gives_preceded (action_at at (reaches n) ∷ action_at at (tests t false) ∷ []) (paths_all at 1 other) (two_steps at n (tests t false) (λ m. f (or_left (mentions y t) _ m))) (all_paths_give at 1 other (λ m. f (or_right (mentions y t) _ (or_right (body_mentions y s) _ m)))))
    paths_give at (select p n kind t arms) f =
        gives_preceded (action_at at (reaches n) ∷ action_at at (selects t) ∷ []) (paths_of at 0 kind t arms (paths_default at 0 arms)) (two_steps at n (selects t) (λ m. f (or_left (mentions y t) _ m)))
        (arm_paths_give at 0 kind t arms (λ m. f (or_right (mentions y t) _ m)) (paths_default at 0 arms) (default_paths_give at 0 arms (λ m. f (or_right (mentions y t) _ m))))
    paths_give at (turns p n ss) f = gives_preceded (action_at at (reaches n) ∷ []) (paths_all at 0 ss) (one_step at (reaches n) (λ m. absurd (false≢true m))) (all_paths_give at 0 ss f)
    paths_give at (set p n blocking x t) f = one_path (action_at at (reaches n) ∷ action_at at (assigns blocking x t) ∷ []) (two_steps at n (assigns blocking x t) f)
    paths_give at (empty p) f = one_path [] (λ x h m. absurd h)

    all_paths_give : (at : List ℕ) (k : ℕ) (ss : Stmts) → (body_mentions_all y ss ≡ true → G) → PathsGive (paths_all at k ss)
    all_paths_give at k no_stmts f = one_path [] (λ x h m. absurd h)
    all_paths_give at k (a_stmt s ss) f =
        gives_followed (paths (k ∷ at) s) (paths_all at (suc k) ss) (paths_give (k ∷ at) s (λ m. f (or_left (body_mentions y s) _ m))) (all_paths_give at (suc k) ss (λ m. f (or_right (body_mentions y s) _ m)))

    arm_paths_give : (at : List ℕ) (k : ℕ) (kind : CaseKind) (on : Term) (arms : Arms) → (arms_mention y arms ≡ true → G) → (otherwise : List Path) → PathsGive otherwise → PathsGive (paths_of at k kind on arms otherwise)
    arm_paths_give at k kind on no_arms f otherwise g = g
    arm_paths_give at k kind on (arm labels s arms) f otherwise g =
        gives_append (followed_by (matching_ways (k ∷ at) 1 kind on labels) (paths (0 ∷ k ∷ at) s)) _
        (gives_followed (matching_ways (k ∷ at) 1 kind on labels) (paths (0 ∷ k ∷ at) s) (gives_matching (k ∷ at) 1 kind on labels (λ m. f (or_left (mentions_any y labels) _ m))) (paths_give (0 ∷ k ∷ at) s (λ m. f (or_right (mentions_any y labels) _ (or_left (body_mentions y s) _ m)))))
        (gives_preceded (passing_actions (k ∷ at) 1 kind on labels) (paths_of at (suc k) kind on arms otherwise) (gives_passing (k ∷ at) 1 kind on labels (λ m. f (or_left (mentions_any y labels) _ m)))
        (arm_paths_give at (suc k) kind on arms (λ m. f (or_right (mentions_any y labels) _ (or_right (body_mentions y s) _ m))) otherwise g))

    default_paths_give : (at : List ℕ) (k : ℕ) (arms : Arms) → (arms_mention y arms ≡ true → G) → PathsGive (paths_default at k arms)
    default_paths_give at k no_arms f = one_path [] (λ x h m. absurd h)
    default_paths_give at k (arm labels s arms) f =
        either (is_default labels) (paths_give (0 ∷ k ∷ at) s (λ m. f (or_right (mentions_any y labels) _ (or_left (body_mentions y s) _ m)))) (default_paths_give at (suc k) arms (λ m. f (or_right (mentions_any y labels) _ (or_right (body_mentions y s) _ m))))
      where
        either : (b : Bool) → PathsGive (paths (0 ∷ k ∷ at) s) → PathsGive (paths_default at (suc k) arms) → PathsGive (if b then paths (0 ∷ k ∷ at) s else paths_default at (suc k) arms)
        either true p q = p
        either false p q = q

-- a path that reads a signal before writing it has an action that mentions it
some_mention : (d : Design) (s : ℕ) (ws : List (Write Bit)) (path : Path) → reads_signal_unwritten d s ws path ≡ true → (x : PlacedAction) × In x path × (action_mentions s x.action ≡ true)
some_mention d s ws [] h = absurd (false≢true h)
some_mention d s ws (x ∷ xs) h =
    ⊎_elim (λ k. (x, inl refl, (and_parts (action_mentions s x.action) _ k).0)) (λ k. let r = some_mention d s (ws ++ action_blocking_writes d x.action) xs k in (r.0, inr r.1, r.2))
    (or_cases (action_mentions s x.action && not (covers ws (signal_cells d s))) _ h)

pub path_mentions_law : (d : Design) → PathMentionsLaw d
path_mentions_law d p y (path, is_path, inl h) = let r = some_mention d y [] path h in paths_give y (body_mentions y (body_at d p) ≡ true) [] (body_at d p) (λ m. m) path is_path r.0 r.1 r.2
path_mentions_law d p y (path, is_path, inr h) = paths_give y (body_mentions y (body_at d p) ≡ true) [] (body_at d p) (λ m. m) path is_path h.1.0 h.1.1 h.1.2
