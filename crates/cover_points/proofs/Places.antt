-- Where the points of each kind are in the list.
use Rattle.std.proofs.Common.{◌≡◌, ◌<◌, ◌+◌, ◌-◌, ◌++◌, ℕ, false, inl, inr, List, length, map, get_or, ap, ◌∙◌, arith, length-append}
use Rattle.std.proofs.lemmas.Bool.{cases_lt}
use Rattle.std.proofs.lemmas.List.{get_or-append_right, get_or-map, get_or_append_left, length-map}
use Rattle.design_model.specs.Design.{nowhere}
use Rattle.design_model.specs.point_words.declared.line_word.LineWord.TheVariants.{Assign}
use Rattle.design_model.specs.point_words.declared.node_case.NodeCase.TheVariants.{ValueFalse}
use Rattle.design_model.specs.declared.point.Point.{Point}
use Rattle.text_points.specs.declared.points.LinePoint.{LinePoint}
use Rattle.design_model.specs.point_words.declared.operator.Operator.TheVariants.{Value}
use Rattle.text_points.specs.declared.points.NodePoint.{NodePoint}
use Rattle.cover_points.specs.Listed.{points_of}
use Rattle.cover_points.specs.MachinePoints.{machine_view}
use Rattle.cover_points.specs.declared.machine_point.MachinePoint.{MachinePoint}
use Rattle.cover_points.specs.declared.machine_point.MachinePoint.TheVariants.{State}
use Rattle.cover_points.specs.Texts.{line_view, node_view}
use Rattle.cover_points.specs.Things.{toggle_view, word_view}
use Rattle.cover_points.specs.Visits.{no_point, point_at}
use Rattle.cover_points.specs.declared.listing.Points.{Points}
use Rattle.cover_points.specs.declared.points.IndexPoint.{IndexPoint}

-- what the lists give past their ends
abbrev pub no_line : LinePoint
no_line = record { instance = 0; line = 0; process = 0; place = nowhere; word = Assign }

abbrev pub no_node : NodePoint
no_node = record { instance = 0; node = 0; case = ValueFalse; process = 0; place = nowhere; operator = Value }

abbrev pub no_index : IndexPoint
no_index = record { thing = 0; index = 0; second = false }

abbrev pub no_state : MachinePoint
no_state = State 0 0

module _ (ps : Points) where
  abbrev pub lines_end : ℕ
  lines_end = length ps.lines.items

  abbrev pub nodes_end : ℕ
  nodes_end = lines_end + length ps.nodes.items

  abbrev pub toggles_end : ℕ
  toggles_end = nodes_end + length ps.toggles.items

  abbrev pub states_end : ℕ
  states_end = toggles_end + length ps.states.items

  abbrev ls : List Point
  ls = map line_view ps.lines.items

  abbrev ns : List Point
  ns = map node_view ps.nodes.items

  abbrev ts : List Point
  ts = map toggle_view ps.toggles.items

  abbrev ss : List Point
  ss = map (machine_view ps.machines.items) ps.states.items

  abbrev ws : List Point
  ws = map word_view ps.words.items

  ends : (length ls ≡ lines_end) × (length (ls ++ ns) ≡ nodes_end) × (length (ls ++ ns ++ ts) ≡ toggles_end) × (length (ls ++ ns ++ ts ++ ss) ≡ states_end) × (length (points_of ps) ≡ states_end + length ps.words.items)
  ends =
      let l = length-map ps.lines.items line_view in
      let n = length-map ps.nodes.items node_view in
      let t = length-map ps.toggles.items toggle_view in
      let s = length-map ps.states.items (machine_view ps.machines.items) in
      let w = length-map ps.words.items word_view in
      let two = length-append ls ns in
      let three = length-append (ls ++ ns) ts in
      let four = length-append (ls ++ ns ++ ts) ss in
      let five = length-append (ls ++ ns ++ ts ++ ss) ws in
      (l, omega (arith, l, n, two), omega (arith, l, n, t, two, three), omega (arith, l, n, t, s, two, three, four), omega (arith, l, n, t, s, w, two, three, four, five))

  pub length_is : length (points_of ps) ≡ states_end + length ps.words.items
  length_is = ends.4

  -- a point before the words, before the states, before the toggles
  before_words : (k : ℕ) → k < states_end → point_at ps k ≡ get_or (ls ++ ns ++ ts ++ ss) k no_point
  before_words k l = get_or_append_left (ls ++ ns ++ ts ++ ss) ws no_point k (omega (arith, ends.3))

  before_states : (k : ℕ) → k < toggles_end → point_at ps k ≡ get_or (ls ++ ns ++ ts) k no_point
  before_states k l = before_words k (omega arith) ∙ get_or_append_left (ls ++ ns ++ ts) ss no_point k (omega (arith, ends.2))

  before_toggles : (k : ℕ) → k < nodes_end → point_at ps k ≡ get_or (ls ++ ns) k no_point
  before_toggles k l = before_states k (omega arith) ∙ get_or_append_left (ls ++ ns) ts no_point k (omega (arith, ends.1))

  pub line_place : (j : ℕ) → j < length ps.lines.items → point_at ps j ≡ line_view (get_or ps.lines.items j no_line)
  line_place j l = before_toggles j (omega arith) ∙ get_or_append_left ls ns no_point j (omega (arith, ends.0)) ∙ get_or-map line_view ps.lines.items j no_line no_point l

  pub node_place : (j : ℕ) → j < length ps.nodes.items → point_at ps (lines_end + j) ≡ node_view (get_or ps.nodes.items j no_node)
  node_place j l =
      let k : lines_end + j - lines_end ≡ j = omega arith in
      before_toggles (lines_end + j) (omega arith) ∙ get_or-append_right ls ns lines_end (lines_end + j) no_point ends.0 (omega arith) ∙ ap (λ i. get_or ns i no_point) k ∙ get_or-map node_view ps.nodes.items j no_node no_point l

  pub toggle_place : (j : ℕ) → j < length ps.toggles.items → point_at ps (nodes_end + j) ≡ toggle_view (get_or ps.toggles.items j no_index)
  toggle_place j l =
      let k : nodes_end + j - nodes_end ≡ j = omega arith in
      before_states (nodes_end + j) (omega arith) ∙ get_or-append_right (ls ++ ns) ts nodes_end (nodes_end + j) no_point ends.1 (omega arith) ∙ ap (λ i. get_or ts i no_point) k ∙ get_or-map toggle_view ps.toggles.items j no_index no_point l

  pub state_place : (j : ℕ) → j < length ps.states.items → point_at ps (toggles_end + j) ≡ machine_view ps.machines.items (get_or ps.states.items j no_state)
  state_place j l =
      let k : toggles_end + j - toggles_end ≡ j = omega arith in
      before_words (toggles_end + j) (omega arith) ∙ get_or-append_right (ls ++ ns ++ ts) ss toggles_end (toggles_end + j) no_point ends.2 (omega arith) ∙ ap (λ i. get_or ss i no_point) k ∙ get_or-map (machine_view ps.machines.items) ps.states.items j no_state no_point l

  pub word_place : (j : ℕ) → j < length ps.words.items → point_at ps (states_end + j) ≡ word_view (get_or ps.words.items j no_index)
  word_place j l =
      let k : states_end + j - states_end ≡ j = omega arith in
      get_or-append_right (ls ++ ns ++ ts ++ ss) ws states_end (states_end + j) no_point ends.3 (omega arith) ∙ ap (λ i. get_or ws i no_point) k ∙ get_or-map word_view ps.words.items j no_index no_point l

  -- where the point with a number is
  pub data Where (k : ℕ) : Type 0 where
    in_lines : k < length ps.lines.items → Where k
    in_nodes : (j : ℕ) → k ≡ lines_end + j → j < length ps.nodes.items → Where k
    in_toggles : (j : ℕ) → k ≡ nodes_end + j → j < length ps.toggles.items → Where k
    in_states : (j : ℕ) → k ≡ toggles_end + j → j < length ps.states.items → Where k
    in_words : (j : ℕ) → k ≡ states_end + j → j < length ps.words.items → Where k

  pub where_is : (k : ℕ) → k < length (points_of ps) → Where k
  where_is k l = elim (cases_lt k lines_end) [
    | inl a ↦ in_lines a
    | inr a ↦ elim (cases_lt k nodes_end) [
      | inl b ↦ in_nodes (k - lines_end) (omega arith) (omega arith)
      | inr b ↦ elim (cases_lt k toggles_end) [
        | inl c ↦ in_toggles (k - nodes_end) (omega arith) (omega arith)
        | inr c ↦ elim (cases_lt k states_end) [
          | inl e ↦ in_states (k - toggles_end) (omega arith) (omega arith)
          | inr e ↦ in_words (k - states_end) (omega arith) (omega (arith, length_is))
        ]
      ]
    ]
  ]
