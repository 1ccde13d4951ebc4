-- Steps of a path that reach a line.
use Rattle.std.proofs.Common.{◌≡◌, inl, inr, ℕ, ◌==◌, Bool, true, false, List, [], ◌∷◌, refl, sym, ap, subst, ◌∙◌, eq-eqb, Option, Some, None}
use Rattle.std.specs.List.{list_any}
use Rattle.std.proofs.lemmas.Bool.{or_left, or_right}
use Rattle.design_model.specs.Design.{In}
use Rattle.design_model.specs.Execution.{node_visits}
use Rattle.point_words.specs.declared.node_case.NodeCase.{NodeCase}
use Rattle.design_model.specs.Paths.{Action, Path, PlacedAction, assigns, compares, reaches, selects, tests}
use Rattle.design_model.specs.Reads.{AllInside, PartialMap}

-- the action reaches line n
abbrev pub is_reaching : ℕ → Action → Bool
is_reaching n (reaches m) = m == n
is_reaching n (tests t taken) = false
is_reaching n (selects t) = false
is_reaching n (compares kind on t taken) = false
is_reaching n (assigns blocking x t) = false

-- a step that reaches the line is found in the path
pub reaching_found : (n : ℕ) (x : PlacedAction) (path : Path) → In x path → x.action ≡ reaches n → list_any (λ y. is_reaching n y.action) path ≡ true
reaching_found n x [] h e = absurd h
reaching_found n x (y ∷ ys) (inl is) e = or_left (is_reaching n y.action) _ (subst (λ z. is_reaching n z ≡ true) (sym (ap (λ z. z.action) is ∙ e)) (eq-eqb n n refl))
reaching_found n x (y ∷ ys) (inr h) e = or_right (is_reaching n y.action) _ (reaching_found n x ys h e)

-- the visits of a node read nothing
pub node_inside : (K : PartialMap) (n : Option ℕ) (cs : List NodeCase) → AllInside K (node_visits n cs)
node_inside K None cs = tt
node_inside K (Some n) [] = tt
node_inside K (Some n) (c ∷ cs) = (tt, node_inside K (Some n) cs)
