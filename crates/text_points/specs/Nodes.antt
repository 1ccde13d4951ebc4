-- The cases of the counted nodes of a process.
use Rattle.std.specs.Prelude.{ℕ, List, [], ◌++◌, map, Option, Some, None}
use Rattle.std.specs.List.{flat_map}
use Rattle.cov_host.specs.declared.place.Place.{Place}
use Rattle.design_model.specs.Execution.{node_cases}
use Rattle.point_words.specs.declared.node_case.NodeCase.{NodeCase}
use Rattle.design_model.specs.Mentions.{all_subterms, subterms}
use Rattle.design_model.specs.Tree.{Term, binary, bit, choice, concat, number, part, repeat, sign, signal, slide, unary, word}
use Rattle.design_model.specs.Value.{head}
use Rattle.point_words.specs.declared.operator.Operator.{Operator}
use Rattle.text_points.specs.Operators.{operator_of}
use Rattle.text_points.specs.declared.points.NodePoint.{NodePoint}
use Rattle.text_points.specs.declared.points.Owner.{Owner}

-- a case of a node by its number, place and operator
abbrev pub node_at : Owner → ℕ → Place → Operator → NodeCase → NodePoint
node_at o n p op c = record { instance = o.instance; node = n; case = c; process = o.process; place = p; operator = op }

-- the cases of a term with this number, if it is a counted node
abbrev pub numbered_cases : Owner → Option ℕ → Term → List NodePoint
numbered_cases o None t = []
numbered_cases o (Some n) t = map (node_at o n (head t).place (operator_of t)) (node_cases t)

-- the cases of a term, if it is a counted node
abbrev pub cases_with : Owner → Term → List NodePoint
cases_with o t = numbered_cases o (head t).node t

-- the cases of the counted nodes among terms
abbrev pub nodes_with : Owner → List Term → List NodePoint
nodes_with o ts = flat_map (cases_with o) ts

-- the terms in a term, without the term itself
abbrev pub inner_terms : Term → List Term
inner_terms (number h n) = []
inner_terms (signal h s) = []
inner_terms (word h m i) = subterms i
inner_terms (bit h t i) = subterms t ++ subterms i
inner_terms (part h t i j) = subterms t ++ subterms i ++ subterms j
inner_terms (slide h t b w up) = subterms t ++ subterms b ++ subterms w
inner_terms (unary h op t) = subterms t
inner_terms (binary h op t u) = subterms t ++ subterms u
inner_terms (choice h c t u) = subterms c ++ subterms t ++ subterms u
inner_terms (concat h ts) = all_subterms ts
inner_terms (repeat h n ts) = subterms n ++ all_subterms ts
inner_terms (sign h s t) = subterms t
