-- Points found after others.
use Rattle.std.proofs.Common.{◌≡◌, List, ◌∷◌, ◌++◌, refl, sym, ap, ◌∙◌, append_assoc}
use Rattle.std.proofs.lemmas.List.{map-append}
use Rattle.std.proofs.lemmas.List.Concat.{flat_map-append}
use Rattle.design_model.specs.Numbered.{LineAt}
use Rattle.design_model.specs.Mentions.{subterms}
use Rattle.design_model.specs.Tree.{Term, binary, bit, choice, concat, number, part, repeat, sign, signal, slide, unary, word}
use Rattle.text_points.specs.Lines.{line_with, lines_with}
use Rattle.text_points.specs.Nodes.{cases_with, inner_terms, nodes_with}
use Rattle.text_points.specs.declared.points.LinePoint.{LinePoint}
use Rattle.text_points.specs.declared.points.NodePoint.{NodePoint}
use Rattle.text_points.specs.declared.points.Owner.{Owner}

pub joined_lines : (o : Owner) (found : List LinePoint) (xs ys : List LineAt) → (found ++ lines_with o xs) ++ lines_with o ys ≡ found ++ lines_with o (xs ++ ys)
joined_lines o found xs ys = append_assoc found (lines_with o xs) (lines_with o ys) ∙ ap (λ zs. found ++ zs) (sym (map-append (line_with o) xs ys))

pub joined_nodes : (o : Owner) (found : List NodePoint) (xs ys : List Term) → (found ++ nodes_with o xs) ++ nodes_with o ys ≡ found ++ nodes_with o (xs ++ ys)
joined_nodes o found xs ys = append_assoc found (nodes_with o xs) (nodes_with o ys) ∙ ap (λ zs. found ++ zs) (sym (flat_map-append (cases_with o) xs ys))

-- a term and the terms in it
subterms_are : (t : Term) → subterms t ≡ t ∷ inner_terms t
subterms_are (number h n) = refl
subterms_are (signal h s) = refl
subterms_are (word h m i) = refl
subterms_are (bit h t i) = refl
subterms_are (part h t i j) = refl
subterms_are (slide h t b w up) = refl
subterms_are (unary h op t) = refl
subterms_are (binary h op t u) = refl
subterms_are (choice h c t u) = refl
subterms_are (concat h ts) = refl
subterms_are (repeat h n ts) = refl
subterms_are (sign h s t) = refl

-- the cases of a term, and those of the terms in it
pub whole_term : (o : Owner) (found : List NodePoint) (t : Term) → (found ++ cases_with o t) ++ nodes_with o (inner_terms t) ≡ found ++ nodes_with o (subterms t)
whole_term o found t = append_assoc found (cases_with o t) (nodes_with o (inner_terms t)) ∙ ap (λ ts. found ++ nodes_with o ts) (sym (subterms_are t))
