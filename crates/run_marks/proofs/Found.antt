-- Where the point of a spot is in the list of points.
use Rattle.std.proofs.Common.{◌≡◌, ◌↔◌, ◌<◌, ◌≤◌, ◌+◌, ℕ, Bool, true, false, List, IsTrue, length, get_or, refl, sym, ap, subst, ◌∙◌, arith}
use Rattle.std.proofs.lemmas.Bool.{false≢true, true≢false}
use mathlib.Core.Bool.{beq}
use Rattle.text_points.specs.declared.points.LinePoint.{LinePoint}
use Rattle.text_points.specs.declared.points.NodePoint.{NodePoint}
use Rattle.cover_points.specs.declared.points.IndexPoint.{IndexPoint}
use Rattle.point_words.specs.declared.node_case.NodeCase.{NodeCase}
use Rattle.cover_points.specs.Visits.{IsVisitOf, visit_of}
use Rattle.cover_points.specs.declared.listing.Points.{Points}
use Rattle.cover_points.specs.declared.visit.Visit.TheVariants.{Line, Node}
use Rattle.cover_points.proofs.Places.{Where, in_lines, in_nodes, in_states, in_toggles, in_words, length_is, line_place, lines_end, no_index, no_line, no_node, node_place, states_end, where_is, word_place}
use Rattle.cover_points.proofs.Seen.{at_line, at_node, at_word, inner, kind, kind_by, one_word, part_is, unseen, word_visit as word_visit_of, word_visit_by, word_visit_is}
use Rattle.run_marks.specs.Reported.{word_visit}

by_same : (m i : ℕ) (b : Bool) → word_visit m i b ≡ word_visit_by b m i
by_same m i true = refl
by_same m i false = refl

module _ (ps : Points) (k : ℕ) where
  -- a line point with this process and line
  pub line_there : (p n : ℕ) → k < length ps.lines.items → (get_or ps.lines.items k no_line).process ≡ p → (get_or ps.lines.items k no_line).line ≡ n → IsVisitOf ps k (Line p n)
  line_there p n l process line =
      subst (λ q. IsVisitOf ps k (Line q n)) process (subst (λ m. IsVisitOf ps k (Line (get_or ps.lines.items k no_line).process m)) line (omega (arith, length_is ps), ap visit_of (line_place ps k l)))

  pub line_only : (p n : ℕ) → IsVisitOf ps k (Line p n) → (k < length ps.lines.items) × ((get_or ps.lines.items k no_line).process ≡ p) × ((get_or ps.lines.items k no_line).line ≡ n)
  line_only p n s = by_part (where_is ps k s.0)
    where
      by_part : Where ps k → (k < length ps.lines.items) × ((get_or ps.lines.items k no_line).process ≡ p) × ((get_or ps.lines.items k no_line).line ≡ n)
      by_part (in_lines l) =
          let x = get_or ps.lines.items k no_line in
          let e : Line x.process x.line ≡ Line p n = inner (at_line ps (Line p n) k l s.1) in
          (l, cc, cc)
      by_part (in_nodes j e l) = let q : kind (Line p n) ≡ 1 = part_is ps (Line p n) k (in_nodes j e l) s.1 in absurd (omega arith)
      by_part (in_toggles j e l) = let q : kind (Line p n) ≡ 2 = part_is ps (Line p n) k (in_toggles j e l) s.1 in absurd (omega arith)
      by_part (in_states j e l) = absurd (unseen ps (Line p n) k j e l s.1)
      by_part (in_words j e l) = let q : kind (Line p n) ≡ 3 = part_is ps (Line p n) k (in_words j e l) s.1 in absurd (omega arith)

  -- a node point with this process, node and case
  pub node_there : (p n : ℕ) (c : NodeCase) (j : ℕ) → k ≡ lines_end ps + j → j < length ps.nodes.items → (get_or ps.nodes.items j no_node).process ≡ p → (get_or ps.nodes.items j no_node).node ≡ n → (get_or ps.nodes.items j no_node).case ≡ c → IsVisitOf ps k (Node p n c)
  node_there p n c j e l process node case_is =
      let x = get_or ps.nodes.items j no_node in
      let at : IsVisitOf ps (lines_end ps + j) (Node x.process x.node x.case) = (omega (arith, length_is ps), ap visit_of (node_place ps j l)) in
      rw (e, ← process, ← node, ← case_is) at

  pub node_only : (p n : ℕ) (c : NodeCase) → IsVisitOf ps k (Node p n c) → (j : ℕ) × (k ≡ lines_end ps + j) × (j < length ps.nodes.items) × ((get_or ps.nodes.items j no_node).process ≡ p) × ((get_or ps.nodes.items j no_node).node ≡ n) × ((get_or ps.nodes.items j no_node).case ≡ c)
  node_only p n c s = by_part (where_is ps k s.0)
    where
      by_part : Where ps k → (j : ℕ) × (k ≡ lines_end ps + j) × (j < length ps.nodes.items) × ((get_or ps.nodes.items j no_node).process ≡ p) × ((get_or ps.nodes.items j no_node).node ≡ n) × ((get_or ps.nodes.items j no_node).case ≡ c)
      by_part (in_lines l) = let q : kind (Node p n c) ≡ 0 = part_is ps (Node p n c) k (in_lines l) s.1 in absurd (omega arith)
      by_part (in_nodes j e l) =
          let x = get_or ps.nodes.items j no_node in
          let f : Node x.process x.node x.case ≡ Node p n c = inner (at_node ps (Node p n c) k j e l s.1) in
          (j, e, l, cc, cc, cc)
      by_part (in_toggles j e l) = let q : kind (Node p n c) ≡ 2 = part_is ps (Node p n c) k (in_toggles j e l) s.1 in absurd (omega arith)
      by_part (in_states j e l) = absurd (unseen ps (Node p n c) k j e l s.1)
      by_part (in_words j e l) = let q : kind (Node p n c) ≡ 3 = part_is ps (Node p n c) k (in_words j e l) s.1 in absurd (omega arith)

  -- a word point with this memory, index and use
  pub word_there : (m i : ℕ) (w : Bool) (j : ℕ) → k ≡ states_end ps + j → j < length ps.words.items → (get_or ps.words.items j no_index).thing ≡ m → (get_or ps.words.items j no_index).index ≡ i → (get_or ps.words.items j no_index).second ≡ w → IsVisitOf ps k (word_visit m i w)
  word_there m i w j e l thing index second =
      let x = get_or ps.words.items j no_index in
      let at : IsVisitOf ps (states_end ps + j) (word_visit_by x.second x.thing x.index) = (omega (arith, length_is ps), ap visit_of (word_place ps j l) ∙ word_visit_is x) in
      rw (by_same m i w, e, ← thing, ← index, ← second) at

  pub word_only : (m i : ℕ) (w : Bool) → IsVisitOf ps k (word_visit m i w) → (j : ℕ) × (k ≡ states_end ps + j) × (j < length ps.words.items) × ((get_or ps.words.items j no_index).thing ≡ m) × ((get_or ps.words.items j no_index).index ≡ i) × ((get_or ps.words.items j no_index).second ≡ w)
  word_only m i w given = by_part (where_is ps k s.0)
    where
      s : IsVisitOf ps k (word_visit_by w m i)
      s = subst (IsVisitOf ps k) (by_same m i w) given

      three : kind (word_visit_by w m i) ≡ 3
      three = kind_by w m i

      by_part : Where ps k → (j : ℕ) × (k ≡ states_end ps + j) × (j < length ps.words.items) × ((get_or ps.words.items j no_index).thing ≡ m) × ((get_or ps.words.items j no_index).index ≡ i) × ((get_or ps.words.items j no_index).second ≡ w)
      by_part (in_lines l) = let q : kind (word_visit_by w m i) ≡ 0 = part_is ps (word_visit_by w m i) k (in_lines l) s.1 in absurd (omega (arith, three))
      by_part (in_nodes j e l) = let q : kind (word_visit_by w m i) ≡ 1 = part_is ps (word_visit_by w m i) k (in_nodes j e l) s.1 in absurd (omega (arith, three))
      by_part (in_toggles j e l) = let q : kind (word_visit_by w m i) ≡ 2 = part_is ps (word_visit_by w m i) k (in_toggles j e l) s.1 in absurd (omega (arith, three))
      by_part (in_states j e l) = absurd (unseen ps (word_visit_by w m i) k j e l s.1)
      by_part (in_words j e l) =
          let y = get_or ps.words.items j no_index in
          let f : word_visit_of y ≡ word_visit_by w m i = inner (sym (word_visit_is y) ∙ at_word ps (word_visit_by w m i) k j e l s.1) in
          let same = one_word y.second w y.thing y.index m i f in
          (j, e, l, same.0, same.1, same.2)

-- two flags are the same where the test says so
pub same_flags : (a b : Bool) → IsTrue (beq a b) ↔ (a ≡ b)
same_flags true true = (λ t. refl, λ e. refl)
same_flags false false = (λ t. refl, λ e. refl)
same_flags true false = (λ t. absurd (false≢true t), λ e. absurd (true≢false e))
same_flags false true = (λ t. absurd (false≢true t), λ e. absurd (false≢true e))

-- nothing is the point of a visit that no point has
none_is : (P : Type 0) → (P → ⊥) → (IsTrue false ↔ P)
none_is P never = (λ t. absurd (false≢true t), λ h. absurd (never h))

module _ (ps : Points) (k p n : ℕ) where
  pub line_is : (x : LinePoint) → (xs : List LinePoint) → xs ≡ ps.lines.items → k < length xs → ((d : LinePoint) → x ≡ get_or xs k d) → (b : Bool) → (IsTrue b ↔ ((x.process ≡ p) × (x.line ≡ n))) → (IsTrue b ↔ IsVisitOf ps k (Line p n))
  line_is x xs list l read b is =
      let same : get_or ps.lines.items k no_line ≡ x = ap (λ (ys : List LinePoint). get_or ys k no_line) (sym list) ∙ sym (read no_line) in
      let inside : k < length ps.lines.items = subst (λ (ys : List LinePoint). k < length ys) list l in (
        λ t. let f = is.0 t in line_there ps k p n inside (ap (λ (z : LinePoint). z.process) same ∙ f.0) (ap (λ (z : LinePoint). z.line) same ∙ f.1),
        λ at. let f = line_only ps k p n at in is.1 (sym (ap (λ (z : LinePoint). z.process) same) ∙ f.1, sym (ap (λ (z : LinePoint). z.line) same) ∙ f.2),
      )

  pub no_line_is : (xs : List LinePoint) → xs ≡ ps.lines.items → length xs ≤ k → (IsTrue false ↔ IsVisitOf ps k (Line p n))
  no_line_is xs list l = none_is (IsVisitOf ps k (Line p n)) (λ at. omega (arith, ap length list, l, (line_only ps k p n at).0))

  module _ (c : NodeCase) where
    pub node_is : (j : ℕ) → k ≡ lines_end ps + j → (x : NodePoint) → (xs : List NodePoint) → xs ≡ ps.nodes.items → j < length xs → ((d : NodePoint) → x ≡ get_or xs j d) → (b : Bool) → (IsTrue b ↔ (((x.process ≡ p) × (x.node ≡ n)) × (x.case ≡ c))) → (IsTrue b ↔ IsVisitOf ps k (Node p n c))
    node_is j at_j x xs list l read b is =
        let same : get_or ps.nodes.items j no_node ≡ x = ap (λ (ys : List NodePoint). get_or ys j no_node) (sym list) ∙ sym (read no_node) in
        let inside : j < length ps.nodes.items = subst (λ (ys : List NodePoint). j < length ys) list l in (
          λ t. let f = is.0 t in node_there ps k p n c j at_j inside (ap (λ (z : NodePoint). z.process) same ∙ f.0.0) (ap (λ (z : NodePoint). z.node) same ∙ f.0.1) (ap (λ (z : NodePoint). z.case) same ∙ f.1),
          λ at. let f = node_only ps k p n c at in
              let i : f.0 ≡ j = omega (arith, f.1, at_j) in
              let there : get_or ps.nodes.items f.0 no_node ≡ x = ap (λ (q : ℕ). get_or ps.nodes.items q no_node) i ∙ same in
              is.1 ((sym (ap (λ (z : NodePoint). z.process) there) ∙ f.3, sym (ap (λ (z : NodePoint). z.node) there) ∙ f.4), sym (ap (λ (z : NodePoint). z.case) there) ∙ f.5),
        )

    pub no_node_is : (j : ℕ) → k ≡ lines_end ps + j → (xs : List NodePoint) → xs ≡ ps.nodes.items → length xs ≤ j → (IsTrue false ↔ IsVisitOf ps k (Node p n c))
    no_node_is j at_j xs list l =
        none_is (IsVisitOf ps k (Node p n c)) (λ at. let f = node_only ps k p n c at in omega (arith, ap length list, l, f.1, at_j, f.2))

    pub before_nodes : ((j : ℕ) → k ≡ lines_end ps + j → ⊥) → (IsTrue false ↔ IsVisitOf ps k (Node p n c))
    before_nodes none = none_is (IsVisitOf ps k (Node p n c)) (λ at. let f = node_only ps k p n c at in none f.0 f.1)

module _ (ps : Points) (k m i : ℕ) (w : Bool) where
  pub word_is : (j : ℕ) → k ≡ states_end ps + j → (x : IndexPoint) → (xs : List IndexPoint) → xs ≡ ps.words.items → j < length xs → ((d : IndexPoint) → x ≡ get_or xs j d) → (b : Bool) → (IsTrue b ↔ (((x.thing ≡ m) × (x.index ≡ i)) × (x.second ≡ w))) → (IsTrue b ↔ IsVisitOf ps k (word_visit m i w))
  word_is j at_j x xs list l read b is =
      let same : get_or ps.words.items j no_index ≡ x = ap (λ (ys : List IndexPoint). get_or ys j no_index) (sym list) ∙ sym (read no_index) in
      let inside : j < length ps.words.items = subst (λ (ys : List IndexPoint). j < length ys) list l in (
        λ t. let f = is.0 t in word_there ps k m i w j at_j inside (ap (λ (z : IndexPoint). z.thing) same ∙ f.0.0) (ap (λ (z : IndexPoint). z.index) same ∙ f.0.1) (ap (λ (z : IndexPoint). z.second) same ∙ f.1),
        λ at. let f = word_only ps k m i w at in
            let q : f.0 ≡ j = omega (arith, f.1, at_j) in
            let there : get_or ps.words.items f.0 no_index ≡ x = ap (λ (q : ℕ). get_or ps.words.items q no_index) q ∙ same in
            is.1 ((sym (ap (λ (z : IndexPoint). z.thing) there) ∙ f.3, sym (ap (λ (z : IndexPoint). z.index) there) ∙ f.4), sym (ap (λ (z : IndexPoint). z.second) there) ∙ f.5),
      )

  pub no_word_is : (j : ℕ) → k ≡ states_end ps + j → (xs : List IndexPoint) → xs ≡ ps.words.items → length xs ≤ j → (IsTrue false ↔ IsVisitOf ps k (word_visit m i w))
  no_word_is j at_j xs list l =
      none_is (IsVisitOf ps k (word_visit m i w)) (λ at. let f = word_only ps k m i w at in omega (arith, ap length list, l, f.1, at_j, f.2))

  pub before_words : ((j : ℕ) → k ≡ states_end ps + j → ⊥) → (IsTrue false ↔ IsVisitOf ps k (word_visit m i w))
  before_words none = none_is (IsVisitOf ps k (word_visit m i w)) (λ at. let f = word_only ps k m i w at in none f.0 f.1)
