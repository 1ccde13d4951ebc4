-- A line that no path of a body reaches, as one of another block, is not open for it.
use Rattle.std.proofs.Common.{◌≡◌, ◌∙◌, inl, inr, ℕ, List, [], ◌∷◌, true, false, subst, sym}
use Rattle.std.specs.List.{list_any}
use Rattle.std.proofs.lemmas.Bool.{false≢true, or_left, or_right}
use Rattle.design_model.specs.Tree.{Stmt}
use Rattle.design_model.specs.Design.{Design, In}
use Rattle.design_model.specs.Paths.{Path, paths, reaches}
use Rattle.design_model.specs.Reads.{PartialMap}
use Rattle.design_model.specs.Open.{OnSomePath}
use Rattle.worked_examples.proofs.Design.PathSteps.{is_reaching, reaching_found}

-- a path of the list that reaches the line is found
path_found : (n : ℕ) (path : Path) (ps : List Path) → In path ps → list_any (λ y. is_reaching n y.action) path ≡ true → list_any (λ p. list_any (λ y. is_reaching n y.action) p) ps ≡ true
path_found n path [] h is = absurd h
path_found n path (p ∷ ps) (inl e) is = or_left (list_any (λ y. is_reaching n y.action) p) _ (subst (λ q. list_any (λ y. is_reaching n y.action) q ≡ true) (sym e) is)
path_found n path (p ∷ ps) (inr h) is = or_right (list_any (λ y. is_reaching n y.action) p) _ (path_found n path ps h is)

pub line_away : (d : Design) (K : PartialMap) (b : Stmt) (n : ℕ) → list_any (λ p. list_any (λ y. is_reaching n y.action) p) (paths [] b) ≡ false → OnSomePath d K b (λ x. x ≡ reaches n) → ⊥
line_away d K b n none h = false≢true (sym none ∙ path_found n h.0 (paths [] b) h.1.is_path (reaching_found n h.2.1.0 h.0 h.2.1.1 h.2.1.3))
