-- The cases of counted nodes that are found are those of the design.
use Rattle.std.proofs.Common.{◌≡◌, ◌↔◌, ◌<◌, ◌≤◌, ◌==◌, ℕ, cond, inl, inr, List, [], ◌∷◌, Option, Some, None, length, map, refl, sym, ap, subst, ◌∙◌, arith}
use Rattle.std.specs.declared.cmp.Ordering.TheVariants.{Equal}
use Rattle.std.specs.Ordering.{nat_cmp, ordering_then}
use Rattle.std.proofs.lemmas.Bool.{cases_lt}
use Rattle.std.proofs.lemmas.List.{get_or_past}
use Rattle.cov_host.specs.declared.place.Place.{Place}
use Rattle.design_model.specs.Tree.{Term, binary, bit, choice, concat, number, part, repeat, sign, signal, slide, unary, word}
use Rattle.design_model.specs.Design.{Design, In, no_instance, no_process, process_at}
use Rattle.design_model.specs.Execution.{node_cases}
use Rattle.design_model.specs.Lawful.{IsLawfulDesign, instance_of}
use Rattle.design_model.specs.Points.{IsPoint}
use Rattle.design_model.specs.point_words.declared.node_case.NodeCase.{NodeCase}
use Rattle.design_model.specs.point_words.declared.node_case.NodeCase.TheVariants.{ValueFalse, ValueTrue, LeftFalse, RightFalse, LeftTrue, RightTrue, BothFalse, FalseTrue, TrueFalse, BothTrue}
use Rattle.design_model.specs.declared.point.Point.{Point}
use Rattle.design_model.specs.declared.point.Point.TheVariants.{Logic as logic_point}
use Rattle.design_model.specs.Numbered.{NodeAt, counted_terms, node_at as numbered_node, node_text, nodes_in, nodes_of}
use Rattle.design_model.specs.Value.{head}
use Rattle.design_model.specs.point_words.Words.{operator_text}
use Rattle.text_points.specs.Nodes.{cases_with, node_at, numbered_cases}
use Rattle.text_points.specs.Operators.{operator_of}
use Rattle.text_points.proofs.OperatorTexts.{text_is}
use Rattle.text_points.specs.declared.points.NodePoint.{NodePoint}
use Rattle.cover_points.specs.Order.{bytes_cmp, case_rank, node_cmp, path_at}
use Rattle.cover_points.specs.Texts.{each_from, node_view, owner, process_nodes}
use Rattle.cover_points.proofs.Pieces.{from_all, from_one, instance_there}
use Rattle.std.specs.List.{dedup}
use Rattle.std.specs.List.Sorted.{IsPermutation}
use Rattle.std.specs.Ordering.{eq_by_cmp}
use Rattle.cover_points.proofs.Orders.{node_total}
use Rattle.cover_points.proofs.Members.{once_from, once_keeps, both_equal, in_flat_map, in_flat_map_back, in_left, in_map, in_map_back, in_right, same_bytes, same_number, same_place}

-- the point is one of a case of a counted node of a process of the design
pub record IsNodeOf (d : Design) (x : NodePoint) : Type 0 where
  pub instance_is : x.instance ≡ instance_of (process_at d x.process)
  pub term : Term
  pub counted : In term (counted_terms (process_at d x.process))
  pub number_is : (head term).node ≡ Some x.node
  pub place_is : x.place ≡ (head term).place
  pub operator_is : x.operator ≡ operator_of term
  pub case_in : In x.case (node_cases term)

pub node_is_of : (d : Design) (x : NodePoint) → In x (each_from process_nodes 0 d.processes) → IsNodeOf d x
node_is_of d x h =
    let r = from_one process_nodes x d h in
    let o = owner r.0 (process_at d r.0) in
    let t = in_flat_map (cases_with o) x (counted_terms (process_at d r.0)) r.2 in
    by_number r.0 t.0 t.1 (head t.0).node refl t.2
  where
    by_number : (j : ℕ) (t : Term) → In t (counted_terms (process_at d j)) → (m : Option ℕ) → (head t).node ≡ m → In x (numbered_cases (owner j (process_at d j)) m t) → IsNodeOf d x
    by_number j t k None e i = absurd i
    by_number j t k (Some n) e i =
        let c = in_map (node_at (owner j (process_at d j)) n (head t).place (operator_of t)) x (node_cases t) i in
        subst (IsNodeOf d) c.2 (record { instance_is = refl; term = t; counted = k; number_is = e; place_is = refl; operator_is = refl; case_in = c.1 })

-- a case of a node as a node in a text
abbrev pub node_of : NodePoint → NodeAt
node_of x = record { node = x.node; place = x.place; op = operator_text x.operator }

node_stands : (d : Design) (x : NodePoint) (h : IsNodeOf d x) → In (node_of x) (numbered_node (head h.term).node h.term)
node_stands d x h =
    let make : Place → List ℕ → NodeAt = λ (p : Place). λ (o : List ℕ). record { node = x.node; place = p; op = o } in
    let is : make (head h.term).place (node_text h.term) ≡ node_of x =
    ap (λ p. make p (node_text h.term)) (sym h.place_is) ∙ ap (make x.place) (sym (ap operator_text h.operator_is ∙ text_is h.term)) in
    subst (λ m. In (node_of x) (numbered_node m h.term)) (sym h.number_is) (inl is)

-- a case that is found is a point
pub node_is_point : (d : Design) (x : NodePoint) → IsNodeOf d x → IsPoint d [] (node_view x)
node_is_point d x h = (h.term, h.counted, node_stands d x h, h.case_in)

past_none : (d : Design) (p : ℕ) (t : Term) → length d.processes ≤ p → In t (counted_terms (process_at d p)) → ⊥
past_none d p t l h = let k : In t (counted_terms no_process) = rw (get_or_past d.processes p no_process l) at h in k

process_there : (d : Design) (p : ℕ) (t : Term) → In t (counted_terms (process_at d p)) → p < length d.processes
process_there d p t h = elim (cases_lt p (length d.processes)) [ inl l ↦ l | inr m ↦ absurd (past_none d p t (omega arith) h) ]

-- a point is found
pub point_is_node : (d : Design) (p n : ℕ) (at : Place) (op : List ℕ) (c : NodeCase) → IsPoint d [] (logic_point p n at op c) → (x : NodePoint) × In x (each_from process_nodes 0 d.processes) × (node_view x ≡ logic_point p n at op c)
point_is_node d p n at op c h = by_number (head h.0).node refl h.2
  where
    by_number : (m : Option ℕ) → (head h.0).node ≡ m → In (record { node = n; place = at; op = op }) (numbered_node m h.0) → (x : NodePoint) × In x (each_from process_nodes 0 d.processes) × (node_view x ≡ logic_point p n at op c)
    by_number None e i = absurd i
    by_number (Some k) e (inr i) = absurd i
    by_number (Some k) e (inl q) =
        let t = h.0 in
        let x = node_at (owner p (process_at d p)) k (head t).place (operator_of t) c in
        let in_term : In x (cases_with (owner p (process_at d p)) t) =
        subst (λ m. In x (numbered_cases (owner p (process_at d p)) m t)) (sym e) (in_map_back (node_at (owner p (process_at d p)) k (head t).place (operator_of t)) c (node_cases t) h.3) in
        let in_process : In x (process_nodes p (process_at d p)) = in_flat_map_back (cases_with (owner p (process_at d p))) t (counted_terms (process_at d p)) x h.1 in_term in
        let named : node_view x ≡ logic_point p k (head t).place (node_text t) c = ap (λ s. logic_point p k (head t).place s c) (text_is t) in
        (x, from_all process_nodes x d p (process_there d p t h.1) in_process, named ∙ ap (λ (a : NodeAt). logic_point p a.node a.place a.op c) q)

nodes_have : (a : NodeAt) (t : Term) (ts : List Term) → In t ts → In a (numbered_node (head t).node t) → In a (nodes_in ts)
nodes_have a t [] h i = absurd h
nodes_have a t (u ∷ us) (inl e) i = in_left a (numbered_node (head u).node u) (nodes_in us) (subst (λ v. In a (numbered_node (head v).node v)) (sym e) i)
nodes_have a t (u ∷ us) (inr h) i = in_right a (numbered_node (head u).node u) (nodes_in us) (nodes_have a t us h i)

-- the case with a rank
abbrev of_rank : ℕ → NodeCase
of_rank n = cond (n == 0) ValueFalse (cond (n == 1) ValueTrue (cond (n == 2) LeftFalse (cond (n == 3) RightFalse (cond (n == 4) LeftTrue (cond (n == 5) RightTrue (cond (n == 6) BothFalse (cond (n == 7) FalseTrue (cond (n == 8) TrueFalse BothTrue))))))))

rank_back : (c : NodeCase) → of_rank (case_rank c) ≡ c
rank_back ValueFalse = refl
rank_back ValueTrue = refl
rank_back LeftFalse = refl
rank_back RightFalse = refl
rank_back LeftTrue = refl
rank_back RightTrue = refl
rank_back BothFalse = refl
rank_back FalseTrue = refl
rank_back TrueFalse = refl
rank_back BothTrue = refl

pub same_case : (a b : NodeCase) → case_rank a ≡ case_rank b → a ≡ b
same_case a b e = sym (rank_back a) ∙ ap of_rank e ∙ rank_back b

-- two cases that are equal in the order are the same point
pub one_node : (d : Design) → IsLawfulDesign d → (x y : NodePoint) → IsNodeOf d x → IsNodeOf d y → node_cmp d.instances x y ≡ Equal → node_view x ≡ node_view y
one_node d lawful x y h k tied =
    let outer = both_equal (ordering_then (bytes_cmp (path_at d.instances x.instance) (path_at d.instances y.instance)) (nat_cmp x.node y.node)) (nat_cmp (case_rank x.case) (case_rank y.case)) tied in
    let ends = both_equal (bytes_cmp (path_at d.instances x.instance) (path_at d.instances y.instance)) (nat_cmp x.node y.node) outer.0 in
    let lx : x.instance < length d.instances = rw h.instance_is (instance_there d lawful x.process (process_there d x.process h.term h.counted)) in
    let ly : y.instance < length d.instances = rw k.instance_is (instance_there d lawful y.process (process_there d y.process k.term k.counted)) in
    let same : x.instance ≡ y.instance = same_place (λ i. i.path) d.instances x.instance y.instance no_instance lawful.instance_paths lx ly (same_bytes _ _ ends.0) in
    let a : In (node_of x) (nodes_of (process_at d x.process)) = nodes_have (node_of x) h.term (counted_terms (process_at d x.process)) h.counted (node_stands d x h) in
    let b : In (node_of y) (nodes_of (process_at d y.process)) = nodes_have (node_of y) k.term (counted_terms (process_at d y.process)) k.counted (node_stands d y k) in
    let once = lawful.nodes_once x.process y.process (node_of x) (node_of y) a b (sym h.instance_is ∙ same ∙ k.instance_is) (same_number x.node y.node ends.1) in
    let make : ℕ → NodeAt → NodeCase → Point = λ (p : ℕ). λ (n : NodeAt). λ (c : NodeCase). logic_point p n.node n.place n.op c in
    ap (λ p. make p (node_of x) x.case) once.0 ∙ ap (λ n. make y.process n x.case) once.1 ∙ ap (make y.process (node_of y)) (same_case x.case y.case (same_number _ _ outer.1))

-- the points of a list of cases that has each of those found are those of the design
module _ (d : Design) (found kept : List NodePoint) (is : found ≡ each_from process_nodes 0 d.processes) (from : (x : NodePoint) → In x kept → In x found) (keeps : (x : NodePoint) → In x found → In (node_view x) (map node_view kept)) where
  pub node_members : (p n : ℕ) (at : Place) (op : List ℕ) (c : NodeCase) → In (logic_point p n at op c) (map node_view kept) ↔ IsPoint d [] (logic_point p n at op c)
  node_members p n at op c = (there, back)
    where
      there : In (logic_point p n at op c) (map node_view kept) → IsPoint d [] (logic_point p n at op c)
      there h =
          let y = in_map node_view (logic_point p n at op c) kept h in
          subst (IsPoint d []) y.2 (node_is_point d y.0 (node_is_of d y.0 (subst (In y.0) is (from y.0 y.1))))

      back : IsPoint d [] (logic_point p n at op c) → In (logic_point p n at op c) (map node_view kept)
      back h =
          let x = point_is_node d p n at op c h in
          subst (λ z. In z (map node_view kept)) x.2 (keeps x.0 (subst (In x.0) (sym is) x.1))

-- each of those found, sorted and each once, is of the instance of its process
pub nodes_owned : (d : Design) (found sorted kept : List NodePoint) → found ≡ each_from process_nodes 0 d.processes → IsPermutation found sorted → kept ≡ dedup (eq_by_cmp (node_cmp d.instances)) sorted → (x : NodePoint) → In x kept → x.instance ≡ instance_of (process_at d x.process)
nodes_owned d found sorted kept is moved kept_is x h =
    let k = node_is_of d x (subst (In x) is (once_from (node_total d.instances) found sorted moved x (subst (In x) kept_is h))) in
    k.instance_is

-- those found, sorted and each once, are the points of the design
pub nodes_are : (d : Design) → IsLawfulDesign d → (found sorted kept : List NodePoint) → found ≡ each_from process_nodes 0 d.processes → IsPermutation found sorted → kept ≡ dedup (eq_by_cmp (node_cmp d.instances)) sorted → (p n : ℕ) (at : Place) (op : List ℕ) (c : NodeCase) → In (logic_point p n at op c) (map node_view kept) ↔ IsPoint d [] (logic_point p n at op c)
nodes_are d lawful found sorted kept is moved kept_is =
    let o = node_total d.instances in
    node_members d found kept is (λ x h. once_from o found sorted moved x (subst (In x) kept_is h)) (λ x h.
    subst (λ ks. In (node_view x) (map node_view ks)) (sym kept_is) (once_keeps o found sorted moved node_view (λ x y h k e. one_node d lawful x y (node_is_of d x (subst (In x) is h)) (node_is_of d y (subst (In y) is k)) e) x h))
