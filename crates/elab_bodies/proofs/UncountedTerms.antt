-- Lists of terms without counted nodes.
use Rattle.std.proofs.Common.{◌≡◌, List, [], ◌∷◌, map, refl, ap}
use Rattle.design_model.specs.Tree.{a_term}
use Rattle.design_model.specs.View.{term_view, terms_of}
use Rattle.design_model.specs.declared.tree.Term.{Term}
use Rattle.flat_design.specs.Processes.{uncounted, all_uncounted}

-- each term without counted nodes, in a list
pub each_uncounted : (xs : List Term) → terms_of (map (λ x. uncounted (term_view x)) xs) ≡ all_uncounted (terms_of (map term_view xs))
each_uncounted [] = refl
each_uncounted (x ∷ xs) = ap (a_term (uncounted (term_view x))) (each_uncounted xs)
