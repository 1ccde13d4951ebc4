-- The line of the test with which a body begins is on each path, so it is surely open whatever is known.
use Rattle.std.proofs.Common.{◌≡◌, inl, inr, ℕ, List, [], ◌∷◌, ◌++◌, true, false, refl, subst}
use Rattle.cov_host.specs.declared.place.Place.{Place}
use Rattle.design_model.specs.Tree.{Stmt, Stmts, Term, branch}
use Rattle.design_model.specs.Design.{Design, In}
use Rattle.design_model.specs.Paths.{Path, PlacedAction, paths, paths_all, preceded_by, reaches, action_at, tests}
use Rattle.design_model.specs.Reads.{PartialMap}
use Rattle.design_model.specs.Open.{OnEachPath}

-- each of these paths has the first of the steps before it
begins_each : (x : PlacedAction) (xs : List PlacedAction) (ps : List Path) (path : Path) → In path (preceded_by (x ∷ xs) ps) → In x path
begins_each x xs [] path h = absurd h
begins_each x xs (p ∷ ps) path (inl e) = subst (In x) e (inl refl)
begins_each x xs (p ∷ ps) path (inr h) = begins_each x xs ps path h

-- and so have those of a further list
begins : (x : PlacedAction) (xs : List PlacedAction) (ps rest : List Path) → ((path : Path) → In path rest → In x path) → (path : Path) → In path (preceded_by (x ∷ xs) ps ++ rest) → In x path
begins x xs [] rest f path h = f path h
begins x xs (p ∷ ps) rest f path (inl e) = subst (In x) e (inl refl)
begins x xs (p ∷ ps) rest f path (inr h) = begins x xs ps rest f path h

pub test_line_sure : (d : Design) (K : PartialMap) (at : Place) (n : ℕ) (t : Term) (s : Stmt) (other : Stmts) → OnEachPath d K (branch at n t s other) (λ x. x ≡ reaches n)
test_line_sure d K at n t s other =
    ([], λ path o. (action_at [] (reaches n), begins (action_at [] (reaches n)) (action_at [] (tests t true) ∷ []) (paths (0 ∷ []) s) (preceded_by (action_at [] (reaches n) ∷ action_at [] (tests t false) ∷ []) (paths_all [] 1 other)) (begins_each (action_at [] (reaches n)) (action_at [] (tests t false) ∷ []) (paths_all [] 1 other)) path o.is_path, refl, refl))
