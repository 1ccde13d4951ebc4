-- The tables of the slots of points have the numbers of the points.
use Rattle.std.proofs.Common.{◌≡◌, ◌<◌, ◌+◌, ◌*◌, ℕ, Bool, true, false, not, Ok, Err, Result, List, length, map, get_or, refl, sym, ap, subst, ◌∙◌, arith}
use Rattle.std.specs.Prelude.{IfOk}
use Rattle.std.proofs.lemmas.List.{get_or-map, length-map}
use Rattle.cover_points.specs.point_words.declared.node_case.NodeCase.{NodeCase}
use Rattle.cover_points.specs.point_words.declared.node_case.NodeCase.TheVariants.{ValueFalse, ValueTrue, LeftFalse, RightFalse, LeftTrue, RightTrue, BothFalse, FalseTrue, TrueFalse, BothTrue}
use Rattle.number_tables.specs.Tables.{AreApart as SlotsApart, IsNumberOf, no_slot}
use Rattle.number_tables.specs.declared.slot.Slot.{Slot}
use Rattle.number_tables.specs.declared.table.NumberTable.{NumberTable}
use Rattle.cover_points.specs.text_points.declared.points.LinePoint.{LinePoint}
use Rattle.cover_points.specs.text_points.declared.points.NodePoint.{NodePoint}
use Rattle.cover_points.specs.Order.{case_rank, second_rank}
use Rattle.cover_points.specs.Visits.{AreApart, IsVisitOf, visit_of}
use Rattle.cover_points.specs.declared.listing.Points.{Points}
use Rattle.cover_points.specs.declared.points.IndexPoint.{IndexPoint}
use Rattle.cover_points.specs.declared.visit.Visit.{Visit}
use Rattle.cover_points.specs.declared.visit.Visit.TheVariants.{Line, Node, Toggle}
use Rattle.cover_points.proofs.NodeMembers.{same_case}
use Rattle.cover_points.proofs.Places.{Where, in_lines, in_nodes, in_states, in_toggles, in_words, length_is, line_place, lines_end, no_index, no_line, no_node, no_state, node_place, nodes_end, state_place, states_end, toggle_place, toggles_end, where_is, word_place}
use Rattle.cover_points.proofs.Seen.{at_line, at_node, at_toggle, at_word, inner, kind, kind_by, line_visit, node_visit, one_word, part_is, toggle_visit, unseen, word_visit, word_visit_by, word_visit_is}
use Rattle.cover_marks.specs.Index.{FindsLines, FindsNodes, FindsToggles, FindsWords}
use Rattle.cover_marks.specs.Slots.{index_slot, index_slots, line_slot, line_slots, node_slot, node_slots}

rank_below : (c : NodeCase) → case_rank c < 10
rank_below ValueFalse = omega arith
rank_below ValueTrue = omega arith
rank_below LeftFalse = omega arith
rank_below RightFalse = omega arith
rank_below LeftTrue = omega arith
rank_below RightTrue = omega arith
rank_below BothFalse = omega arith
rank_below FalseTrue = omega arith
rank_below TrueFalse = omega arith
rank_below BothTrue = omega arith

side_below : (b : Bool) → second_rank b < 2
side_below true = omega arith
side_below false = omega arith

same_side : (a b : Bool) → second_rank a ≡ second_rank b → a ≡ b
same_side true true e = refl
same_side false false e = refl
same_side true false e = absurd (omega arith)
same_side false true e = absurd (omega arith)

-- a slot is that of one statement, one case or one point of an index
one_line_slot : (p n q m : ℕ) → line_slot p n ≡ line_slot q m → (p ≡ q) × (n ≡ m)
one_line_slot p n q m e = (ap (λ (s : Slot). s.row) e, ap (λ (s : Slot). s.column) e)

one_node_slot : (p n q m : ℕ) (a b : NodeCase) → node_slot p n a ≡ node_slot q m b → (p ≡ q) × (n ≡ m) × (a ≡ b)
one_node_slot p n q m a b e =
    let row : p ≡ q = ap (λ (s : Slot). s.row) e in
    let column : n * 10 + case_rank a ≡ m * 10 + case_rank b = ap (λ (s : Slot). s.column) e in
    let x = rank_below a in
    let y = rank_below b in
    let rank : case_rank a ≡ case_rank b = omega arith in
    (row, omega arith, same_case a b rank)

one_index_slot : (x i y j : ℕ) (a b : Bool) → index_slot x i a ≡ index_slot y j b → (x ≡ y) × (i ≡ j) × (a ≡ b)
one_index_slot x i y j a b e =
    let row : x ≡ y = ap (λ (s : Slot). s.row) e in
    let column : i * 2 + second_rank a ≡ j * 2 + second_rank b = ap (λ (s : Slot). s.column) e in
    let p = side_below a in
    let q = side_below b in
    let side : second_rank a ≡ second_rank b = omega arith in
    (row, omega arith, same_side a b side)

-- points of one kind: their slots, the number of the first, and their places in the list
module _ (ps : Points) (apart : AreApart ps) {X : Type 0} (slot : X → Slot) (visit : X → Visit) (none : X) (xs : List X) (first : ℕ)
    (sees : (j : ℕ) → j < length xs → IsVisitOf ps (first + j) (visit (get_or xs j none)))
    (same : (x y : X) → slot x ≡ slot y → visit x ≡ visit y) where
  slot_at : (j : ℕ) → j < length xs → get_or (map slot xs) j no_slot ≡ slot (get_or xs j none)
  slot_at j l = get_or-map slot xs j none no_slot l

  pub slots_apart : SlotsApart (map slot xs)
  slots_apart j k l m e =
      let a : j < length xs = omega (arith, length-map xs slot) in
      let b : k < length xs = omega (arith, length-map xs slot) in
      let v : visit (get_or xs j none) ≡ visit (get_or xs k none) = same _ _ (sym (slot_at j a) ∙ e ∙ slot_at k b) in
      let both = apart (first + j) (first + k) (visit (get_or xs k none)) (subst (IsVisitOf ps (first + j)) v (sees j a)) (sees k b) in
      omega (arith, both)

  pub numbered : (t : NumberTable) → ((k : ℕ) → k < length (map slot xs) → IsNumberOf t (get_or (map slot xs) k no_slot) (first + k)) → (j : ℕ) → j < length xs → IsNumberOf t (slot (get_or xs j none)) (first + j)
  numbered t h j l = rw (slot_at j l) at (h j (omega (arith, length-map xs slot)))

-- the slots of the points of each kind
abbrev pub line_slot_of : LinePoint → Slot
line_slot_of x = line_slot x.process x.line

abbrev pub node_slot_of : NodePoint → Slot
node_slot_of x = node_slot x.process x.node x.case

abbrev pub index_slot_of : IndexPoint → Slot
index_slot_of x = index_slot x.thing x.index x.second

pub same_line : (x y : LinePoint) → line_slot_of x ≡ line_slot_of y → line_visit x ≡ line_visit y
same_line x y e = let b = one_line_slot x.process x.line y.process y.line e in ap (λ p. Line p x.line) b.0 ∙ ap (Line y.process) b.1

pub same_node : (x y : NodePoint) → node_slot_of x ≡ node_slot_of y → node_visit x ≡ node_visit y
same_node x y e =
    let b = one_node_slot x.process x.node y.process y.node x.case y.case e in
    ap (λ p. Node p x.node x.case) b.0 ∙ ap (λ n. Node y.process n x.case) b.1 ∙ ap (Node y.process y.node) b.2

pub same_toggle : (x y : IndexPoint) → index_slot_of x ≡ index_slot_of y → toggle_visit x ≡ toggle_visit y
same_toggle x y e =
    let b = one_index_slot x.thing x.index y.thing y.index x.second y.second e in
    ap (λ p. Toggle p x.index (not x.second)) b.0 ∙ ap (λ n. Toggle y.thing n (not x.second)) b.1 ∙ ap (λ s. Toggle y.thing y.index (not s)) b.2

pub same_word : (x y : IndexPoint) → index_slot_of x ≡ index_slot_of y → word_visit x ≡ word_visit y
same_word x y e =
    let b = one_index_slot x.thing x.index y.thing y.index x.second y.second e in
    ap (λ p. word_visit_by x.second p x.index) b.0 ∙ ap (λ n. word_visit_by x.second y.thing n) b.1 ∙ ap (λ s. word_visit_by s y.thing y.index) b.2

not_not : (b : Bool) → not (not b) ≡ b
not_not true = refl
not_not false = refl

module _ (ps : Points) where
  pub sees_line : (j : ℕ) → j < length ps.lines.items → IsVisitOf ps (0 + j) (line_visit (get_or ps.lines.items j no_line))
  sees_line j l =
      let e : j ≡ 0 + j = omega arith in
      subst (λ k. IsVisitOf ps k (line_visit (get_or ps.lines.items j no_line))) e (omega (arith, length_is ps), ap visit_of (line_place ps j l))

  pub sees_node : (j : ℕ) → j < length ps.nodes.items → IsVisitOf ps (lines_end ps + j) (node_visit (get_or ps.nodes.items j no_node))
  sees_node j l = (omega (arith, length_is ps), ap visit_of (node_place ps j l))

  pub sees_toggle : (j : ℕ) → j < length ps.toggles.items → IsVisitOf ps (nodes_end ps + j) (toggle_visit (get_or ps.toggles.items j no_index))
  sees_toggle j l = (omega (arith, length_is ps), ap visit_of (toggle_place ps j l))

  pub sees_word : (j : ℕ) → j < length ps.words.items → IsVisitOf ps (states_end ps + j) (word_visit (get_or ps.words.items j no_index))
  sees_word j l = (omega (arith, length_is ps), ap visit_of (word_place ps j l) ∙ word_visit_is (get_or ps.words.items j no_index))

-- the slots of a table, with the numbers from the first on
abbrev pub Numbers : NumberTable → List Slot → ℕ → Type 0
Numbers t ss first = (k : ℕ) → k < length ss → IsNumberOf t (get_or ss k no_slot) (first + k)

-- the same of the same slots and number
pub renumbered : (t : NumberTable) (ss xs : List Slot) (a b : ℕ) → ss ≡ xs → a ≡ b → Numbers t ss a → Numbers t xs b
renumbered t ss xs a b e f h = subst (λ (n : ℕ). Numbers t xs n) f (subst (λ (ys : List Slot). Numbers t ys a) e h)

pub ok_weaker : {T E : Type 0} (P Q : T → Type 0) → ((x : T) → P x → Q x) → (r : Result T E) → IfOk r P → IfOk r Q
ok_weaker P Q f (Ok x) h = f x h
ok_weaker P Q f (Err e) h = tt

module _ (ps : Points) (apart : AreApart ps) where
  pub line_slots_apart : SlotsApart (line_slots ps.lines.items)
  line_slots_apart = slots_apart ps apart line_slot_of line_visit no_line ps.lines.items 0 (sees_line ps) same_line

  pub node_slots_apart : SlotsApart (node_slots ps.nodes.items)
  node_slots_apart = slots_apart ps apart node_slot_of node_visit no_node ps.nodes.items (lines_end ps) (sees_node ps) same_node

  pub toggle_slots_apart : SlotsApart (index_slots ps.toggles.items)
  toggle_slots_apart = slots_apart ps apart index_slot_of toggle_visit no_index ps.toggles.items (nodes_end ps) (sees_toggle ps) same_toggle

  pub word_slots_apart : SlotsApart (index_slots ps.words.items)
  word_slots_apart = slots_apart ps apart index_slot_of word_visit no_index ps.words.items (states_end ps) (sees_word ps) same_word

  -- the tables have the numbers of the points
  module _ (t : NumberTable) where
    pub lines_found : Numbers t (line_slots ps.lines.items) 0 → FindsLines ps t
    lines_found h k p n s = by_part (where_is ps k s.0)
      where
        by_part : Where ps k → IsNumberOf t (line_slot p n) k
        by_part (in_lines l) =
            let x = get_or ps.lines.items k no_line in
            let e : Line x.process x.line ≡ Line p n = inner (at_line ps (Line p n) k l s.1) in
            let process : x.process ≡ p = cc in
            let line : x.line ≡ n = cc in
            let same : 0 + k ≡ k = omega arith in
            rw (process, line, same) at (numbered ps apart line_slot_of line_visit no_line ps.lines.items 0 (sees_line ps) same_line t h k l)
        by_part (in_nodes j e l) = let q : kind (Line p n) ≡ 1 = part_is ps (Line p n) k (in_nodes j e l) s.1 in absurd (omega arith)
        by_part (in_toggles j e l) = let q : kind (Line p n) ≡ 2 = part_is ps (Line p n) k (in_toggles j e l) s.1 in absurd (omega arith)
        by_part (in_states j e l) = absurd (unseen ps (Line p n) k j e l s.1)
        by_part (in_words j e l) = let q : kind (Line p n) ≡ 3 = part_is ps (Line p n) k (in_words j e l) s.1 in absurd (omega arith)

    pub nodes_found : Numbers t (node_slots ps.nodes.items) (lines_end ps) → FindsNodes ps t
    nodes_found h k p n c s = by_part (where_is ps k s.0)
      where
        by_part : Where ps k → IsNumberOf t (node_slot p n c) k
        by_part (in_lines l) = let q : kind (Node p n c) ≡ 0 = part_is ps (Node p n c) k (in_lines l) s.1 in absurd (omega arith)
        by_part (in_nodes j e l) =
            let x = get_or ps.nodes.items j no_node in
            let f : Node x.process x.node x.case ≡ Node p n c = inner (at_node ps (Node p n c) k j e l s.1) in
            let process : x.process ≡ p = cc in
            let node : x.node ≡ n = cc in
            let case_is : x.case ≡ c = cc in
            rw (process, node, case_is, ← e) at (numbered ps apart node_slot_of node_visit no_node ps.nodes.items (lines_end ps) (sees_node ps) same_node t h j l)
        by_part (in_toggles j e l) = let q : kind (Node p n c) ≡ 2 = part_is ps (Node p n c) k (in_toggles j e l) s.1 in absurd (omega arith)
        by_part (in_states j e l) = absurd (unseen ps (Node p n c) k j e l s.1)
        by_part (in_words j e l) = let q : kind (Node p n c) ≡ 3 = part_is ps (Node p n c) k (in_words j e l) s.1 in absurd (omega arith)

    pub toggles_found : Numbers t (index_slots ps.toggles.items) (nodes_end ps) → FindsToggles ps t
    toggles_found h k x i rise s = by_part (where_is ps k s.0)
      where
        by_part : Where ps k → IsNumberOf t (index_slot x i (not rise)) k
        by_part (in_lines l) = let q : kind (Toggle x i rise) ≡ 0 = part_is ps (Toggle x i rise) k (in_lines l) s.1 in absurd (omega arith)
        by_part (in_nodes j e l) = let q : kind (Toggle x i rise) ≡ 1 = part_is ps (Toggle x i rise) k (in_nodes j e l) s.1 in absurd (omega arith)
        by_part (in_toggles j e l) =
            let y = get_or ps.toggles.items j no_index in
            let f : Toggle y.thing y.index (not y.second) ≡ Toggle x i rise = inner (at_toggle ps (Toggle x i rise) k j e l s.1) in
            let thing : y.thing ≡ x = cc in
            let index : y.index ≡ i = cc in
            let way : not y.second ≡ rise = cc in
            let second : y.second ≡ not rise = sym (not_not y.second) ∙ ap not way in
            rw (thing, index, second, ← e) at (numbered ps apart index_slot_of toggle_visit no_index ps.toggles.items (nodes_end ps) (sees_toggle ps) same_toggle t h j l)
        by_part (in_states j e l) = absurd (unseen ps (Toggle x i rise) k j e l s.1)
        by_part (in_words j e l) = let q : kind (Toggle x i rise) ≡ 3 = part_is ps (Toggle x i rise) k (in_words j e l) s.1 in absurd (omega arith)

    -- a word that is read, or written
    word_found : Numbers t (index_slots ps.words.items) (states_end ps) → (k m i : ℕ) (write : Bool) → IsVisitOf ps k (word_visit_by write m i) → IsNumberOf t (index_slot m i write) k
    word_found h k m i write s = by_part (where_is ps k s.0)
      where
        three : kind (word_visit_by write m i) ≡ 3
        three = kind_by write m i

        by_part : Where ps k → IsNumberOf t (index_slot m i write) k
        by_part (in_lines l) = let q : kind (word_visit_by write m i) ≡ 0 = part_is ps (word_visit_by write m i) k (in_lines l) s.1 in absurd (omega (arith, three))
        by_part (in_nodes j e l) = let q : kind (word_visit_by write m i) ≡ 1 = part_is ps (word_visit_by write m i) k (in_nodes j e l) s.1 in absurd (omega (arith, three))
        by_part (in_toggles j e l) = let q : kind (word_visit_by write m i) ≡ 2 = part_is ps (word_visit_by write m i) k (in_toggles j e l) s.1 in absurd (omega (arith, three))
        by_part (in_states j e l) = absurd (unseen ps (word_visit_by write m i) k j e l s.1)
        by_part (in_words j e l) =
            let y = get_or ps.words.items j no_index in
            let f : word_visit y ≡ word_visit_by write m i = inner (sym (word_visit_is y) ∙ at_word ps (word_visit_by write m i) k j e l s.1) in
            let same = one_word y.second write y.thing y.index m i f in
            rw (same.0, same.1, same.2, ← e) at (numbered ps apart index_slot_of word_visit no_index ps.words.items (states_end ps) (sees_word ps) same_word t h j l)

    pub words_found : Numbers t (index_slots ps.words.items) (states_end ps) → FindsWords ps t
    words_found h k m i = (λ s. word_found h k m i false s, λ s. word_found h k m i true s)
