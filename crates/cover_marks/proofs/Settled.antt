-- The counts of the points that are not hit, and the visits of a process.
use Rattle.std.proofs.Common.{◌≡◌, ◌<◌, ◌≤◌, ◌+◌, ◌-◌, ℕ, List, length, get_or, set, replicate, inl, inr, refl, sym, ap, subst, ◌∙◌, arith, length-append, length-set}
use Rattle.std.proofs.lemmas.Bool.{cases_lt}
use Rattle.std.proofs.lemmas.List.{get_or-append_right, get_or-map, get_or_append_left, length-map}
use Rattle.cover_points.specs.Listed.{points_of}
use Rattle.cover_points.specs.Visits.{IsVisitOf, visit_of}
use Rattle.cover_points.specs.declared.listing.Points.{Points}
use Rattle.cover_points.specs.declared.visit.Visit.TheVariants.{Line, Node}
use Rattle.cover_points.specs.point_words.declared.node_case.NodeCase.{NodeCase}
use Rattle.cover_points.specs.text_points.declared.points.LinePoint.{LinePoint}
use Rattle.cover_points.specs.text_points.declared.points.NodePoint.{NodePoint}
use Rattle.cover_points.proofs.Places.{Where, in_lines, in_nodes, in_states, in_toggles, in_words, length_is, line_place, lines_end, no_line, no_node, node_place, nodes_end, where_is}
use Rattle.cover_points.proofs.Seen.{at_line, at_node, inner, kind, part_is, unseen}
use Rattle.point_marks.specs.declared.verdict.Verdict.{Verdict}
use Rattle.point_marks.specs.declared.verdict.Verdict.TheVariants.{Hit, Missed}
use Rattle.cover_marks.specs.Counted.{IsOpenBy}
use Rattle.cover_marks.specs.Index.{IsIndexOf}
use Rattle.cover_marks.specs.Marks.{AreMarksOf}
use Rattle.cover_marks.specs.Open.{open_of}
use Rattle.cover_marks.specs.Owners.{IsSettled, line_owners, node_owners, owners_of}
use Rattle.cover_marks.specs.declared.marks.Marks.{Marks}
use Rattle.cover_marks.proofs.StillOpen.{all_hit, none_open}

module _ (ps : Points) where
  lines_long : length (line_owners ps.lines.items) ≡ lines_end ps
  lines_long = length-map ps.lines.items (λ (x : LinePoint). x.process)

  pub owners_long : length (owners_of ps) ≡ nodes_end ps
  owners_long = omega (arith, lines_long, length-map ps.nodes.items (λ (x : NodePoint). x.process), length-append (line_owners ps.lines.items) (node_owners ps.nodes.items))

  -- there are no more owners than points
  pub owners_few : length (owners_of ps) ≤ length (points_of ps)
  owners_few = omega (arith, owners_long, length_is ps)

  line_owner : (k : ℕ) → k < length ps.lines.items → get_or (owners_of ps) k 0 ≡ (get_or ps.lines.items k no_line).process
  line_owner k l =
      get_or_append_left (line_owners ps.lines.items) (node_owners ps.nodes.items) 0 k (omega (arith, lines_long)) ∙ get_or-map (λ (x : LinePoint). x.process) ps.lines.items k no_line 0 l

  node_owner : (j : ℕ) → j < length ps.nodes.items → get_or (owners_of ps) (lines_end ps + j) 0 ≡ (get_or ps.nodes.items j no_node).process
  node_owner j l =
      let k : lines_end ps + j - lines_end ps ≡ j = omega arith in
      get_or-append_right (line_owners ps.lines.items) (node_owners ps.nodes.items) (lines_end ps) (lines_end ps + j) 0 lines_long (omega arith) ∙ ap (λ i. get_or (node_owners ps.nodes.items) i 0) k
      ∙ get_or-map (λ (x : NodePoint). x.process) ps.nodes.items j no_node 0 l

  -- the point has this owner
  abbrev Owns : ℕ → ℕ → Type 0
  Owns k p = (k < length (owners_of ps)) × (get_or (owners_of ps) k 0 ≡ p)

  -- a line point
  owns_line : (k p n : ℕ) → IsVisitOf ps k (Line p n) → Owns k p
  owns_line k p n s = by_part (where_is ps k s.0)
    where
      by_part : Where ps k → Owns k p
      by_part (in_lines l) =
          let x = get_or ps.lines.items k no_line in
          let e : Line x.process x.line ≡ Line p n = inner (at_line ps (Line p n) k l s.1) in
          let same : x.process ≡ p = cc in
          (omega (arith, owners_long, l), line_owner k l ∙ same)
      by_part (in_nodes j e l) = let q : kind (Line p n) ≡ 1 = part_is ps (Line p n) k (in_nodes j e l) s.1 in absurd (omega arith)
      by_part (in_toggles j e l) = let q : kind (Line p n) ≡ 2 = part_is ps (Line p n) k (in_toggles j e l) s.1 in absurd (omega arith)
      by_part (in_states j e l) = absurd (unseen ps (Line p n) k j e l s.1)
      by_part (in_words j e l) = let q : kind (Line p n) ≡ 3 = part_is ps (Line p n) k (in_words j e l) s.1 in absurd (omega arith)

  -- a case of a node
  owns_node : (k p n : ℕ) (c : NodeCase) → IsVisitOf ps k (Node p n c) → Owns k p
  owns_node k p n c s = by_part (where_is ps k s.0)
    where
      by_part : Where ps k → Owns k p
      by_part (in_lines l) = let q : kind (Node p n c) ≡ 0 = part_is ps (Node p n c) k (in_lines l) s.1 in absurd (omega arith)
      by_part (in_nodes j e l) =
          let x = get_or ps.nodes.items j no_node in
          let f : Node x.process x.node x.case ≡ Node p n c = inner (at_node ps (Node p n c) k j e l s.1) in
          let same : x.process ≡ p = cc in
          (omega (arith, owners_long, e, l), ap (λ i. get_or (owners_of ps) i 0) e ∙ node_owner j l ∙ same)
      by_part (in_toggles j e l) = let q : kind (Node p n c) ≡ 2 = part_is ps (Node p n c) k (in_toggles j e l) s.1 in absurd (omega arith)
      by_part (in_states j e l) = absurd (unseen ps (Node p n c) k j e l s.1)
      by_part (in_words j e l) = let q : kind (Node p n c) ≡ 3 = part_is ps (Node p n c) k (in_words j e l) s.1 in absurd (omega arith)

  line_at : (k : ℕ) → k < length ps.lines.items → IsVisitOf ps k (Line (get_or ps.lines.items k no_line).process (get_or ps.lines.items k no_line).line)
  line_at k l = (omega (arith, length_is ps), ap visit_of (line_place ps k l))

  node_at : (j : ℕ) → j < length ps.nodes.items → IsVisitOf ps (lines_end ps + j) (Node (get_or ps.nodes.items j no_node).process (get_or ps.nodes.items j no_node).node (get_or ps.nodes.items j no_node).case)
  node_at j l = (omega (arith, length_is ps), ap visit_of (node_place ps j l))

  module _ (vs : List Verdict) (p : ℕ) (h : IsSettled ps vs p) where
    hit_line : (k : ℕ) → k < length ps.lines.items → get_or (owners_of ps) k 0 ≡ p → get_or vs k Missed ≡ Hit
    hit_line k l e = let x = get_or ps.lines.items k no_line in h.lines k x.line (subst (λ q. IsVisitOf ps k (Line q x.line)) (sym (line_owner k l) ∙ e) (line_at k l))

    hit_node : (j : ℕ) → j < length ps.nodes.items → get_or (owners_of ps) (lines_end ps + j) 0 ≡ p → get_or vs (lines_end ps + j) Missed ≡ Hit
    hit_node j l e = let x = get_or ps.nodes.items j no_node in h.nodes (lines_end ps + j) x.node x.case (subst (λ q. IsVisitOf ps (lines_end ps + j) (Node q x.node x.case)) (sym (node_owner j l) ∙ e) (node_at j l))

    hit_owned : (k : ℕ) → k < length (owners_of ps) → get_or (owners_of ps) k 0 ≡ p → get_or vs k Missed ≡ Hit
    hit_owned k l e = elim (cases_lt k (lines_end ps)) [
      | inl a ↦ hit_line k a e
      | inr b ↦ (
          let j = k - lines_end ps in
          let is : k ≡ lines_end ps + j = omega arith in
          ap (λ i. get_or vs i Missed) is ∙ hit_node j (omega (arith, owners_long, l, b)) (ap (λ i. get_or (owners_of ps) i 0) (sym is) ∙ e))
    ]

    -- where the process is settled none of its points is open
    pub none_of : open_of p (owners_of ps) vs ≡ 0
    none_of = all_hit p (owners_of ps) vs (λ k l m e. hit_owned k l e)

  -- where none of its points is open, the process is settled
  pub settled_of : (vs : List Verdict) (p : ℕ) → length vs ≡ length (points_of ps) → open_of p (owners_of ps) vs ≡ 0 → IsSettled ps vs p
  settled_of vs p count none = record {
    lines = λ k n at. let o = owns_line k p n at in none_open p (owners_of ps) vs k none o.0 (omega (arith, at.0, count)) o.1;
    nodes = λ k n c at. let o = owns_node k p n c at in none_open p (owners_of ps) vs k none o.0 (omega (arith, at.0, count)) o.1;
  }

-- the marks with another verdict of one point
pub set_marks : (ps : Points) (m n : Marks) (k : ℕ) (v : Verdict) → AreMarksOf ps m → n.index ≡ m.index → n.verdicts ≡ set m.verdicts k v → IsOpenBy (owners_of ps) (set m.verdicts k v) n.open_points → AreMarksOf ps n
set_marks ps m n k v h index is counts =
    record {
      index = subst (IsIndexOf ps) (sym index) h.index;
      count = ap length is ∙ length-set m.verdicts k v ∙ h.count;
      counts = subst (λ vs. IsOpenBy (owners_of ps) vs n.open_points) (sym is) counts;
    }
