-- What a visit says of the place of its point in the list.
use Rattle.std.proofs.Common.{◌≡◌, ◌⊎◌, ◌<◌, ◌+◌, ℕ, List, inl, inr, Bool, true, false, not, Option, Some, None, length, get_or, refl, sym, ap, subst, ◌∙◌}
use Rattle.design_model.specs.declared.point.Point.TheVariants.{Word as word_point}
use Rattle.text_points.specs.declared.points.LinePoint.{LinePoint}
use Rattle.text_points.specs.declared.points.NodePoint.{NodePoint}
use Rattle.cover_points.specs.MachinePoints.{machine_view}
use Rattle.cover_points.specs.declared.machine_point.MachinePoint.{MachinePoint}
use Rattle.cover_points.specs.declared.machine_point.MachinePoint.TheVariants.{Arc, State}
use Rattle.design_machines.specs.declared.machine.Machine.{Machine}
use Rattle.cover_points.specs.Texts.{line_view, node_view}
use Rattle.cover_points.specs.Things.{toggle_view, word_view}
use Rattle.cover_points.specs.Visits.{point_at, visit_of}
use Rattle.cover_points.specs.declared.listing.Points.{Points}
use Rattle.cover_points.specs.declared.points.IndexPoint.{IndexPoint}
use Rattle.cover_points.specs.declared.visit.Visit.{Visit}
use Rattle.cover_points.specs.declared.visit.Visit.TheVariants.{Line, Node, Toggle, Read, Write}
use Rattle.cover_points.proofs.Places.{Where, in_lines, in_nodes, in_states, in_toggles, in_words, line_place, lines_end, no_index, no_line, no_node, no_state, node_place, nodes_end, state_place, states_end, toggle_place, toggles_end, word_place}

-- the kind of a visit, as a number
abbrev pub kind : Visit → ℕ
kind (Line p n) = 0
kind (Node p n c) = 1
kind (Toggle s i rise) = 2
kind (Read m i) = 3
kind (Write m i) = 3

abbrev pub kind_of : Option Visit → ℕ
kind_of None = 4
kind_of (Some v) = kind v

-- the visits of the points of each kind
abbrev pub line_visit : LinePoint → Visit
line_visit x = Line x.process x.line

abbrev pub node_visit : NodePoint → Visit
node_visit x = Node x.process x.node x.case

abbrev pub toggle_visit : IndexPoint → Visit
toggle_visit x = Toggle x.thing x.index (not x.second)

abbrev pub word_visit_by : Bool → ℕ → ℕ → Visit
word_visit_by true m i = Write m i
word_visit_by false m i = Read m i

abbrev pub word_visit : IndexPoint → Visit
word_visit x = word_visit_by x.second x.thing x.index

visit_of_word : (b : Bool) (m i : ℕ) → visit_of (word_point m i b) ≡ Some (word_visit_by b m i)
visit_of_word true m i = refl
visit_of_word false m i = refl

pub word_visit_is : (x : IndexPoint) → visit_of (word_view x) ≡ Some (word_visit x)
word_visit_is x = visit_of_word x.second x.thing x.index

pub kind_by : (b : Bool) (m i : ℕ) → kind (word_visit_by b m i) ≡ 3
kind_by true m i = refl
kind_by false m i = refl

word_kind : (x : IndexPoint) → kind_of (visit_of (word_view x)) ≡ 3
word_kind x = ap kind_of (word_visit_is x) ∙ kind_by x.second x.thing x.index

pub inner : {v w : Visit} → Some v ≡ Some w → v ≡ w
inner e = cc

pub one_word : (a b : Bool) (x i m j : ℕ) → word_visit_by a x i ≡ word_visit_by b m j → (x ≡ m) × (i ≡ j) × (a ≡ b)
one_word true true x i m j e = let f : Write x i ≡ Write m j = e in (cc, cc, refl)
one_word false false x i m j e = let f : Read x i ≡ Read m j = e in (cc, cc, refl)
one_word true false x i m j e = let f : Write x i ≡ Read m j = e in absurd (cc)
one_word false true x i m j e = let f : Read x i ≡ Write m j = e in absurd (cc)

no_visit : (xs : List Machine) (p : MachinePoint) → visit_of (machine_view xs p) ≡ None
no_visit xs (State k s) = refl
no_visit xs (Arc k i j) = refl

module _ (ps : Points) (v : Visit) where
  -- the point with this number has the visit
  abbrev pub Sees : ℕ → Type 0
  Sees k = visit_of (point_at ps k) ≡ Some v

  pub at_line : (k : ℕ) → k < length ps.lines.items → Sees k → visit_of (line_view (get_or ps.lines.items k no_line)) ≡ Some v
  at_line k l a = ap visit_of (sym (line_place ps k l)) ∙ a

  pub at_node : (k j : ℕ) → k ≡ lines_end ps + j → j < length ps.nodes.items → Sees k → visit_of (node_view (get_or ps.nodes.items j no_node)) ≡ Some v
  at_node k j e l a = ap visit_of (sym (node_place ps j l)) ∙ subst Sees e a

  pub at_toggle : (k j : ℕ) → k ≡ nodes_end ps + j → j < length ps.toggles.items → Sees k → visit_of (toggle_view (get_or ps.toggles.items j no_index)) ≡ Some v
  at_toggle k j e l a = ap visit_of (sym (toggle_place ps j l)) ∙ subst Sees e a

  -- no state and no arc has a visit
  pub unseen : (k j : ℕ) → k ≡ toggles_end ps + j → j < length ps.states.items → Sees k → ⊥
  unseen k j e l a =
      let p = get_or ps.states.items j no_state in
      let none : None ≡ Some v = sym (no_visit ps.machines.items p) ∙ ap visit_of (sym (state_place ps j l)) ∙ subst Sees e a in
      absurd (cc)

  pub at_word : (k j : ℕ) → k ≡ states_end ps + j → j < length ps.words.items → Sees k → visit_of (word_view (get_or ps.words.items j no_index)) ≡ Some v
  at_word k j e l a = ap visit_of (sym (word_place ps j l)) ∙ subst Sees e a

  -- the part of the list in which a point is, as a number
  abbrev pub part : {k : ℕ} → Where ps k → ℕ
  part (in_lines l) = 0
  part (in_nodes j e l) = 1
  part (in_toggles j e l) = 2
  part (in_states j e l) = 4
  part (in_words j e l) = 3

  pub part_is : (k : ℕ) (w : Where ps k) → Sees k → kind v ≡ part w
  part_is k (in_lines l) a = sym (ap kind_of (at_line k l a))
  part_is k (in_nodes j e l) a = sym (ap kind_of (at_node k j e l a))
  part_is k (in_toggles j e l) a = sym (ap kind_of (at_toggle k j e l a))
  part_is k (in_states j e l) a = absurd (unseen k j e l a)
  part_is k (in_words j e l) a = sym (ap kind_of (at_word k j e l a)) ∙ word_kind (get_or ps.words.items j no_index)

-- the point with this number has a visit, or is a state or an arc
abbrev pub Kind : Points → ℕ → Type 0
Kind ps k = ((v : Visit) × (visit_of (point_at ps k) ≡ Some v)) ⊎ ((j : ℕ) × (k ≡ toggles_end ps + j) × (j < length ps.states.items))

pub visit_or_state : (ps : Points) (k : ℕ) → Where ps k → Kind ps k
visit_or_state ps k (in_lines l) = inl (line_visit (get_or ps.lines.items k no_line), ap visit_of (line_place ps k l))
visit_or_state ps k (in_nodes j e l) = inl (node_visit (get_or ps.nodes.items j no_node), ap (λ k. visit_of (point_at ps k)) e ∙ ap visit_of (node_place ps j l))
visit_or_state ps k (in_toggles j e l) = inl (toggle_visit (get_or ps.toggles.items j no_index), ap (λ k. visit_of (point_at ps k)) e ∙ ap visit_of (toggle_place ps j l))
visit_or_state ps k (in_states j e l) = inr (j, e, l)
visit_or_state ps k (in_words j e l) =
    let x = get_or ps.words.items j no_index in
    inl (word_visit x, ap (λ k. visit_of (point_at ps k)) e ∙ ap visit_of (word_place ps j l) ∙ word_visit_is x)
