-- The list of the points of a lawful design without state machines.
use Rattle.std.proofs.Common.{◌≡◌, ◌↔◌, ◌≤◌, ◌+◌, ◌^◌, ℕ, Bool, true, false, List, [], ◌∷◌, length, map, refl, arith, inl, inr}
use Rattle.std.proofs.lemmas.List.Sorted.{length_permutation}
use Rattle.std.specs.Global.{Global, Vec}
use Rattle.std.specs.Cmp.{IsTotalOrder}
use Rattle.std.specs.List.{dedup}
use Rattle.std.specs.List.Sorted.{IsStrictlySortedBy}
use Rattle.std.specs.Ordering.{eq_by_cmp}
use Rattle.std.specs.declared.cmp.Ordering.{Ordering}
use denote.RawPtr.{null_ptr}
use Rattle.cover_points.proofs.Assembly.{all_members, whole_length}
use Rattle.cover_points.proofs.LineMembers.{lines_are, lines_owned}
use Rattle.cover_points.proofs.Members.{once_rise}
use Rattle.cover_points.proofs.NodeMembers.{nodes_are, nodes_owned}
use Rattle.cover_points.proofs.Orders.{index_total, line_total, node_total}
use Rattle.cover_points.proofs.ThingMembers.{toggles_are, words_are}
use Rattle.cover_points.specs.Listed.{IsPointList}
use Rattle.cover_points.specs.MachinePoints.{IsOfMachine, machine_cmp, machine_view}
use Rattle.cover_points.specs.Texts.{each_from, process_lines, process_nodes}
use Rattle.cover_points.specs.Things.{memory_indexes, signal_indexes}
use Rattle.cover_points.specs.declared.listing.Points.{Points}
use Rattle.cover_points.specs.declared.listing.TheConstants.{MOST_POINTS}
use Rattle.cover_points.specs.declared.points.IndexPoint.{IndexPoint}
use Rattle.design_machines.specs.Drawn.{AreAllMachines}
use Rattle.design_model.specs.Design.{Design, In}
use Rattle.design_model.specs.Lawful.{IsLawfulDesign}
use Rattle.design_model.specs.declared.point.Point.{Point}
use Rattle.design_model.specs.declared.point.Point.TheVariants.{Line, Logic, Toggle, State, Arc, Word}
use Rattle.design_points.specs.Counted.{HasFewPoints}
use Rattle.state_machines.specs.Drawn.{IsPointWith}
use Rattle.state_machines.specs.Machines.{no_machines}
use Rattle.text_points.specs.declared.points.LinePoint.{LinePoint}
use Rattle.text_points.specs.declared.points.NodePoint.{NodePoint}
use Rattle.selfrun_points.proofs.Sorting.{sorting}

-- a vector of the items
vec_of : {X : Type 0} → Global → (xs : List X) → length xs ≤ 2 ^ 32 → Vec X
vec_of alloc xs few = record { ptr = null_ptr; len = length xs; cap = length xs; alloc = alloc; items = xs; ok = (refl, omega arith); small = omega (arith, few) }

-- without state machines no point is one of a machine
no_machine_points : (d : Design) (x : Point) → IsOfMachine x → In x (map (machine_view []) []) ↔ IsPointWith d no_machines x
no_machine_points d (State i name s state v) of = (λ h. absurd h, λ h. elim h [ inl named ↦ absurd named.1 | inr drawn ↦ absurd drawn.1 ])
no_machine_points d (Arc i name s from to u v) of = (λ h. absurd h, λ h. elim h [ inl named ↦ absurd named.1 | inr drawn ↦ absurd drawn.1 ])
no_machine_points d (Line p n at w) of = absurd of
no_machine_points d (Logic p n at op c) of = absurd of
no_machine_points d (Toggle s i rise) of = absurd of
no_machine_points d (Word m i write) of = absurd of

no_machines_are : (d : Design) → AreAllMachines d no_machines []
no_machines_are d = record {
  named = [];
  are_named = record { each = λ x h. absurd h; all = λ m i h. absurd h; counted = λ m h. absurd h; placed = λ m h. absurd h };
  are = refl;
  whole = λ x h. absurd h;
}

no_states_rise : (d : Design) → IsStrictlySortedBy (machine_cmp d.instances []) []
unfolding IsStrictlySortedBy
no_states_rise d = tt

-- what is found, each as often as the design has it
abbrev pub found_count : Design → ℕ
found_count d =
    length (each_from process_lines 0 d.processes) + length (each_from process_nodes 0 d.processes) + length (each_from signal_indexes 0 d.signals)
    + length (each_from memory_indexes (length d.signals) d.memories)

-- each once is no more
module _ {X : Type 0} (same : X → X → Bool) where
  one_more : (k x : X) (xs : List X) → length (dedup same (k ∷ xs)) ≤ length (k ∷ xs) → length (dedup same (x ∷ xs)) ≤ length (x ∷ xs) → (b : Bool) → same x k ≡ b → length (dedup same (k ∷ x ∷ xs)) ≤ length (k ∷ x ∷ xs)
  one_more k x xs with_k with_x true is = rw is (omega (arith, with_k))
  one_more k x xs with_k with_x false is = rw is (omega (arith, with_x))

  kept_shorter : (k : X) (xs : List X) → length (dedup same (k ∷ xs)) ≤ length (k ∷ xs)
  kept_shorter k [] = omega arith
  kept_shorter k (x ∷ xs) = one_more k x xs (kept_shorter k xs) (kept_shorter x xs) (same x k) refl

  shorter : (xs : List X) → length (dedup same xs) ≤ length xs
  shorter [] = omega arith
  shorter (x ∷ xs) = kept_shorter x xs

-- what is found, sorted, each once
module _ {X : Type 0} {R : X → X → Ordering} (o : IsTotalOrder R) (found : List X) where
  abbrev sorted : List X
  sorted = (sorting o found).ys

  abbrev once : List X
  once = dedup (eq_by_cmp R) sorted

  once_rises : IsStrictlySortedBy R once
  once_rises = once_rise o found sorted (sorting o found).moved (sorting o found).sorted

  no_more : length once ≤ length found
  no_more = omega (arith, shorter (eq_by_cmp R) sorted, length_permutation found sorted (sorting o found).moved)

limit : MOST_POINTS ≡ 1048576
limit = refl

module _ (alloc : Global) (d : Design) (lawful : IsLawfulDesign d) (few : found_count d ≤ 1048576) where
  abbrev found_lines : List LinePoint
  found_lines = each_from process_lines 0 d.processes

  abbrev found_nodes : List NodePoint
  found_nodes = each_from process_nodes 0 d.processes

  abbrev found_toggles : List IndexPoint
  found_toggles = each_from signal_indexes 0 d.signals

  abbrev found_words : List IndexPoint
  found_words = each_from memory_indexes (length d.signals) d.memories

  abbrev lines : List LinePoint
  lines = once (line_total d.instances) found_lines

  abbrev nodes : List NodePoint
  nodes = once (node_total d.instances) found_nodes

  abbrev toggles : List IndexPoint
  toggles = once (index_total d) found_toggles

  abbrev words : List IndexPoint
  words = once (index_total d) found_words

  counts : length lines + length nodes + length toggles + length words ≤ 1048576
  counts = omega (arith, few, no_more (line_total d.instances) found_lines, no_more (node_total d.instances) found_nodes, no_more (index_total d) found_toggles, no_more (index_total d) found_words)

  points : Points
  points = record {
    lines = vec_of alloc lines (omega (arith, counts));
    nodes = vec_of alloc nodes (omega (arith, counts));
    toggles = vec_of alloc toggles (omega (arith, counts));
    machines = vec_of alloc [] (omega arith);
    states = vec_of alloc [] (omega arith);
    words = vec_of alloc words (omega (arith, counts));
  }

  listed : IsPointList d no_machines points
  unfolding vec_of points
  listed =
      let of_lines = sorting (line_total d.instances) found_lines in
      let of_nodes = sorting (node_total d.instances) found_nodes in
      let of_toggles = sorting (index_total d) found_toggles in
      let of_words = sorting (index_total d) found_words in
      record {
        members = all_members lines nodes toggles [] [] words d no_machines (lines_are d lawful found_lines of_lines.ys lines refl of_lines.moved refl) (nodes_are d lawful found_nodes of_nodes.ys nodes refl of_nodes.moved refl) (toggles_are d lawful found_toggles of_toggles.ys toggles refl of_toggles.moved refl) (no_machine_points d) (words_are d lawful found_words of_words.ys words refl of_words.moved refl);
        machines = no_machines_are d;
        placed = λ p h. absurd h;
        line_owners = lines_owned d found_lines of_lines.ys lines refl of_lines.moved refl;
        node_owners = nodes_owned d found_nodes of_nodes.ys nodes refl of_nodes.moved refl;
        lines = once_rises (line_total d.instances) found_lines;
        nodes = once_rises (node_total d.instances) found_nodes;
        toggles = once_rises (index_total d) found_toggles;
        states = no_states_rise d;
        words = once_rises (index_total d) found_words;
      }

  pub few_points : HasFewPoints d no_machines
  unfolding vec_of points
  few_points = (points, listed, omega (arith, counts, limit, whole_length lines nodes toggles [] [] words))
