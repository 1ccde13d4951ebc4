-- No two points of a list have one visit.
use Rattle.std.proofs.Common.{◌≡◌, ◌<◌, ◌+◌, ℕ, Bool, true, false, not, Some, inl, inr, List, length, get_or, refl, sym, ap, ◌∙◌, arith}
use Rattle.std.specs.declared.cmp.Ordering.{Ordering}
use Rattle.std.specs.declared.cmp.Ordering.TheVariants.{Equal}
use Rattle.std.specs.Cmp.{IsTotalOrder}
use Rattle.std.specs.List.Sorted.{IsStrictlySortedBy}
use Rattle.std.proofs.lemmas.Bool.{cases_order}
use Rattle.std.proofs.lemmas.Cmp.{nat_list_cmp_total, tied_itself}
use Rattle.std.proofs.lemmas.Map.Keys.{Less-from_sorted}
use Rattle.design_model.specs.Design.{Design, process_at}
use Rattle.design_model.specs.Lawful.{instance_of}
use Rattle.design_model.specs.point_words.declared.node_case.NodeCase.{NodeCase}
use Rattle.text_points.specs.declared.points.LinePoint.{LinePoint}
use Rattle.text_points.specs.declared.points.NodePoint.{NodePoint}
use Rattle.cover_points.specs.Listed.{IsPointList, points_of}
use Rattle.cover_points.specs.Order.{bytes_cmp, index_cmp, line_cmp, node_cmp, path_at}
use Rattle.cover_points.specs.Texts.{IsOwner, node_view}
use Rattle.cover_points.specs.Things.{word_view}
use Rattle.cover_points.specs.MachinePoints.{first_name, machine_cmp, machine_path, machine_rank, machine_variable, machine_view, second_name, state_name}
use Rattle.cover_points.specs.Visits.{AreApart, AreOnce, point_at, visit_of}
use Rattle.cover_points.specs.declared.machine_point.MachinePoint.{MachinePoint}
use Rattle.cover_points.specs.declared.machine_point.MachinePoint.TheVariants.{Arc, State}
use Rattle.design_machines.specs.Machines.{machine_at}
use Rattle.design_machines.specs.declared.machine.Machine.{Machine}
use Rattle.design_machines.specs.state_machines.Machines.{StateMachines}
use Rattle.design_model.specs.declared.design.Instance.{Instance}
use Rattle.std.specs.Ordering.{nat_cmp, ordering_then}
use Rattle.cover_points.specs.declared.listing.Points.{Points}
use Rattle.cover_points.specs.declared.points.IndexPoint.{IndexPoint}
use Rattle.cover_points.specs.declared.visit.Visit.{Visit}
use Rattle.cover_points.specs.declared.visit.Visit.TheVariants.{Line, Node, Toggle}
use Rattle.cover_points.proofs.Members.{in_at}
use Rattle.cover_points.proofs.Orders.{index_total, line_total, machine_total, node_total}
use Rattle.cover_points.proofs.Places.{Where, in_lines, in_nodes, in_states, in_toggles, in_words, lines_end, no_index, no_line, no_node, no_state, nodes_end, state_place, states_end, toggles_end, where_is}
use Rattle.cover_points.proofs.Seen.{Sees, at_line, at_node, at_toggle, at_word, inner, one_word, part, part_is, toggle_visit, unseen, Kind, visit_or_state, word_visit_is}

-- what is equal in the order of a strictly sorted list is at one place
one_place : {X : Type 0} {R : X → X → Ordering} (o : IsTotalOrder R) (xs : List X) (d : X) → IsStrictlySortedBy R xs → (j k : ℕ) → j < length xs → k < length xs → R (get_or xs j d) (get_or xs k d) ≡ Equal → R (get_or xs k d) (get_or xs j d) ≡ Equal → j ≡ k
one_place {R = R} o xs d h j k l m e f = elim (cases_order j k) [
  | inl same ↦ same
  | inr (inl less) ↦ let g = Less-from_sorted R xs j k d h less m in absurd (cc (e, g))
  | inr (inr more) ↦ let g = Less-from_sorted R xs k j d h more l in absurd (cc (f, g))
]

module _ (d : Design) where
  -- two line points of one number of a process are equal in the order
  tied_lines : (x y : LinePoint) → IsOwner d x.process x.instance → IsOwner d y.process y.instance → x.process ≡ y.process → x.line ≡ y.line → line_cmp d.instances x y ≡ Equal
  tied_lines x y h k p n =
      let i : y.instance ≡ x.instance = k ∙ sym (h ∙ ap (λ q. instance_of (process_at d q)) p) in
      let with : ℕ → ℕ → LinePoint = λ (i : ℕ). λ (n : ℕ). record { instance = i; line = n; process = y.process; place = y.place; word = y.word } in
      ap (λ i. line_cmp d.instances x (with i y.line)) i ∙ ap (λ n. line_cmp d.instances x (with x.instance n)) (sym n) ∙ tied_itself (line_total d.instances) x

  -- and so are two points of one case of a node
  tied_nodes : (x y : NodePoint) → IsOwner d x.process x.instance → IsOwner d y.process y.instance → x.process ≡ y.process → x.node ≡ y.node → x.case ≡ y.case → node_cmp d.instances x y ≡ Equal
  tied_nodes x y h k p n c =
      let i : y.instance ≡ x.instance = k ∙ sym (h ∙ ap (λ q. instance_of (process_at d q)) p) in
      let with : ℕ → ℕ → NodeCase → NodePoint = λ (i : ℕ). λ (n : ℕ). λ (c : NodeCase). record { instance = i; node = n; case = c; process = y.process; place = y.place; operator = y.operator } in
      ap (λ i. node_cmp d.instances x (with i y.node y.case)) i ∙ ap (λ n. node_cmp d.instances x (with x.instance n y.case)) (sym n) ∙ ap (λ c. node_cmp d.instances x (with x.instance x.node c)) (sym c) ∙ tied_itself (node_total d.instances) x

not_once : (a b : Bool) → not a ≡ not b → a ≡ b
not_once true true e = refl
not_once false false e = refl
not_once true false e = cc
not_once false true e = cc

same_index : (x y : IndexPoint) → x.thing ≡ y.thing → x.index ≡ y.index → x.second ≡ y.second → x ≡ y
same_index x y t i s =
    let make : ℕ → ℕ → Bool → IndexPoint = λ (t : ℕ). λ (i : ℕ). λ (s : Bool). record { thing = t; index = i; second = s } in
    ap (λ t. make t x.index x.second) t ∙ ap (λ i. make y.thing i x.second) i ∙ ap (make y.thing y.index) s

same_toggle : (x y : IndexPoint) (v : Visit) → Some (toggle_visit x) ≡ Some v → Some (toggle_visit y) ≡ Some v → x ≡ y
same_toggle x y v a b =
    let both : Toggle x.thing x.index (not x.second) ≡ Toggle y.thing y.index (not y.second) = inner (a ∙ sym b) in
    let t : x.thing ≡ y.thing = cc in
    let i : x.index ≡ y.index = cc in
    let s : not x.second ≡ not y.second = cc in
    same_index x y t i (not_once x.second y.second s)

same_word : (x y : IndexPoint) (v : Visit) → visit_of (word_view x) ≡ Some v → visit_of (word_view y) ≡ Some v → x ≡ y
same_word x y v a b =
    let both = one_word x.second y.second x.thing x.index y.thing y.index (inner (sym (word_visit_is x) ∙ a ∙ sym b ∙ word_visit_is y)) in
    same_index x y both.0 both.1 both.2

module _ (d : Design) (ms : StateMachines) (ps : Points) (h : IsPointList d ms ps) (v : Visit) where
  one_line : (j k : ℕ) → j < length ps.lines.items → k < length ps.lines.items → visit_of (point_at ps j) ≡ Some v → visit_of (point_at ps k) ≡ Some v → j ≡ k
  one_line j k l m a b =
      let x = get_or ps.lines.items j no_line in
      let y = get_or ps.lines.items k no_line in
      let both : Line x.process x.line ≡ Line y.process y.line = inner (at_line ps v j l a ∙ sym (at_line ps v k m b)) in
      let p : x.process ≡ y.process = cc in
      let n : x.line ≡ y.line = cc in
      let ox = h.line_owners x (in_at ps.lines.items j no_line l) in
      let oy = h.line_owners y (in_at ps.lines.items k no_line m) in
      one_place (line_total d.instances) ps.lines.items no_line h.lines j k l m (tied_lines d x y ox oy p n) (tied_lines d y x oy ox (sym p) (sym n))

  one_node : (j k : ℕ) → j < length ps.nodes.items → k < length ps.nodes.items → visit_of (node_view (get_or ps.nodes.items j no_node)) ≡ Some v → visit_of (node_view (get_or ps.nodes.items k no_node)) ≡ Some v → j ≡ k
  one_node j k l m a b =
      let x = get_or ps.nodes.items j no_node in
      let y = get_or ps.nodes.items k no_node in
      let both : Node x.process x.node x.case ≡ Node y.process y.node y.case = inner (a ∙ sym b) in
      let p : x.process ≡ y.process = cc in
      let n : x.node ≡ y.node = cc in
      let c : x.case ≡ y.case = cc in
      let ox = h.node_owners x (in_at ps.nodes.items j no_node l) in
      let oy = h.node_owners y (in_at ps.nodes.items k no_node m) in
      one_place (node_total d.instances) ps.nodes.items no_node h.nodes j k l m (tied_nodes d x y ox oy p n c) (tied_nodes d y x oy ox (sym p) (sym n) (sym c))

  one_index : (xs : List IndexPoint) → IsStrictlySortedBy (index_cmp d) xs → (j k : ℕ) → j < length xs → k < length xs → get_or xs j no_index ≡ get_or xs k no_index → j ≡ k
  one_index xs rise j k l m e =
      let tied = tied_itself (index_total d) (get_or xs k no_index) in
      one_place (index_total d) xs no_index rise j k l m (ap (λ x. index_cmp d x (get_or xs k no_index)) e ∙ tied) (ap (index_cmp d (get_or xs k no_index)) e ∙ tied)

  one_point : (j k : ℕ) (p : Where ps j) (q : Where ps k) → part ps v p ≡ part ps v q → Sees ps v j → Sees ps v k → j ≡ k
  one_point j k (in_lines l) (in_lines m) same a b = one_line j k l m a b
  one_point j k (in_nodes i e l) (in_nodes n f m) same a b = e ∙ ap (λ i. lines_end ps + i) (one_node i n l m (at_node ps v j i e l a) (at_node ps v k n f m b)) ∙ sym f
  one_point j k (in_toggles i e l) (in_toggles n f m) same a b =
      let x = get_or ps.toggles.items i no_index in
      let y = get_or ps.toggles.items n no_index in
      e ∙ ap (λ i. nodes_end ps + i) (one_index ps.toggles.items h.toggles i n l m (same_toggle x y v (at_toggle ps v j i e l a) (at_toggle ps v k n f m b))) ∙ sym f
  one_point j k (in_words i e l) (in_words n f m) same a b =
      let x = get_or ps.words.items i no_index in
      let y = get_or ps.words.items n no_index in
      e ∙ ap (λ i. states_end ps + i) (one_index ps.words.items h.words i n l m (same_word x y v (at_word ps v j i e l a) (at_word ps v k n f m b))) ∙ sym f
  one_point j k (in_states i e l) q same a b = absurd (unseen ps v j i e l a)
  one_point j k (in_lines l) (in_states n f m) same a b = absurd (unseen ps v k n f m b)
  one_point j k (in_nodes i e l) (in_states n f m) same a b = absurd (unseen ps v k n f m b)
  one_point j k (in_toggles i e l) (in_states n f m) same a b = absurd (unseen ps v k n f m b)
  one_point j k (in_words i e l) (in_states n f m) same a b = absurd (unseen ps v k n f m b)
  one_point j k (in_lines l) (in_nodes n f m) same a b = absurd (omega (arith, same))
  one_point j k (in_lines l) (in_toggles n f m) same a b = absurd (omega (arith, same))
  one_point j k (in_lines l) (in_words n f m) same a b = absurd (omega (arith, same))
  one_point j k (in_nodes i e l) (in_lines m) same a b = absurd (omega (arith, same))
  one_point j k (in_nodes i e l) (in_toggles n f m) same a b = absurd (omega (arith, same))
  one_point j k (in_nodes i e l) (in_words n f m) same a b = absurd (omega (arith, same))
  one_point j k (in_toggles i e l) (in_lines m) same a b = absurd (omega (arith, same))
  one_point j k (in_toggles i e l) (in_nodes n f m) same a b = absurd (omega (arith, same))
  one_point j k (in_toggles i e l) (in_words n f m) same a b = absurd (omega (arith, same))
  one_point j k (in_words i e l) (in_lines m) same a b = absurd (omega (arith, same))
  one_point j k (in_words i e l) (in_nodes n f m) same a b = absurd (omega (arith, same))
  one_point j k (in_words i e l) (in_toggles n f m) same a b = absurd (omega (arith, same))

pub points_apart : (d : Design) (ms : StateMachines) (ps : Points) → IsPointList d ms ps → AreApart ps
points_apart d ms ps h j k v a b =
    let p = where_is ps j a.0 in
    let q = where_is ps k b.0 in
    one_point d ms ps h v j k p q (sym (part_is ps v j p a.1) ∙ part_is ps v k q b.1) a.1 b.1

-- orders one after the other that are all equal
then_same : (p q : Ordering) → p ≡ Equal → q ≡ Equal → ordering_then p q ≡ Equal
then_same p q e f = rw (e, f) refl

same_names : (a b : List ℕ) → a ≡ b → bytes_cmp a b ≡ Equal
same_names a b e = ap (bytes_cmp a) (sym e) ∙ tied_itself nat_list_cmp_total a

all_same : (is : List Instance) (xs : List Machine) (p q : MachinePoint) → machine_path is xs p ≡ machine_path is xs q → machine_variable xs p ≡ machine_variable xs q → nat_cmp (machine_rank p) (machine_rank q) ≡ Equal → first_name xs p ≡ first_name xs q → second_name xs p ≡ second_name xs q → machine_cmp is xs p q ≡ Equal
all_same is xs p q a b c e f =
    then_same _ _ (then_same _ _ (then_same _ _ (then_same _ _ (same_names _ _ a) (same_names _ _ b)) c) (same_names _ _ e)) (same_names _ _ f)

-- machine points that are one point are equal in the order
tied_states : (is : List Instance) (xs : List Machine) (p q : MachinePoint) → machine_view xs p ≡ machine_view xs q → machine_cmp is xs p q ≡ Equal
tied_states is xs (State k s) (State l t) e =
    let i : (machine_at xs k).instance ≡ (machine_at xs l).instance = cc in
    let v : (machine_at xs k).variable ≡ (machine_at xs l).variable = cc in
    let n : state_name xs k s ≡ state_name xs l t = cc in
    all_same is xs (State k s) (State l t) (ap (path_at is) i) v refl n refl
tied_states is xs (Arc k i j) (Arc l m n) e =
    let at : (machine_at xs k).instance ≡ (machine_at xs l).instance = cc in
    let v : (machine_at xs k).variable ≡ (machine_at xs l).variable = cc in
    let from : state_name xs k i ≡ state_name xs l m = cc in
    let to : state_name xs k j ≡ state_name xs l n = cc in
    all_same is xs (Arc k i j) (Arc l m n) (ap (path_at is) at) v refl from to
tied_states is xs (State k s) (Arc l m n) e = absurd (cc)
tied_states is xs (Arc k i j) (State l t) e = absurd (cc)

-- no point is listed twice
pub points_once : (d : Design) (ms : StateMachines) (ps : Points) → IsPointList d ms ps → AreOnce ps
points_once d ms ps h j k l m e = by_kind (visit_or_state ps j (where_is ps j l)) (visit_or_state ps k (where_is ps k m))
  where
    seen_once : (i n : ℕ) (v : Visit) → i < length (points_of ps) → n < length (points_of ps) → visit_of (point_at ps i) ≡ Some v → point_at ps i ≡ point_at ps n → i ≡ n
    seen_once i n v a b s f = points_apart d ms ps h i n v (a, s) (b, ap visit_of (sym f) ∙ s)

    by_kind : Kind ps j → Kind ps k → j ≡ k
    by_kind (inl a) b = seen_once j k a.0 l m a.1 e
    by_kind (inr a) (inl b) = sym (seen_once k j b.0 m l b.1 (sym e))
    by_kind (inr a) (inr b) =
        let x = get_or ps.states.items a.0 no_state in
        let y = get_or ps.states.items b.0 no_state in
        let view : machine_view ps.machines.items x ≡ machine_view ps.machines.items y =
        sym (state_place ps a.0 a.2) ∙ ap (point_at ps) (sym a.1) ∙ e ∙ ap (point_at ps) b.1 ∙ state_place ps b.0 b.2 in
        let same = one_place (machine_total d.instances ps.machines.items) ps.states.items no_state h.states a.0 b.0 a.2 b.2 (tied_states d.instances ps.machines.items x y view) (tied_states d.instances ps.machines.items y x (sym view)) in
        a.1 ∙ ap (λ i. toggles_end ps + i) same ∙ sym b.1
