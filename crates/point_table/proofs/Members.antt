-- What the points of a list are of the design.
use Rattle.std.proofs.Common.{◌≡◌, ◌<◌, ◌++◌, ◌∙◌, ℕ, true, List, length, map, sym, arith, length-append}
use Rattle.std.proofs.lemmas.List.{length-map}
use Rattle.cover_points.specs.Listed.{points_of}
use Rattle.cover_points.specs.MachinePoints.{machine_view}
use Rattle.cover_points.specs.Texts.{line_view, node_view}
use Rattle.cover_points.specs.Things.{toggle_view, word_view}
use Rattle.cover_points.specs.declared.listing.Points.{Points}
use Rattle.cover_points.specs.declared.points.IndexPoint.{IndexPoint}
use Rattle.cover_points.proofs.Members.{in_left, in_map_back, in_right}
use Rattle.design_model.specs.Design.{Design, In, is_memory}
use Rattle.design_model.specs.declared.point.Point.{Point}
use Rattle.point_table.specs.Addresses.{line_address, machine_address, missed, missed_points, node_address, toggle_address, word_address}
use Rattle.point_table.specs.Collected.{AreListed}

module _ (d : Design) (ps : Points) (listed : AreListed d ps) where
  abbrev ls : List Point
  ls = map line_view ps.lines.items

  abbrev ns : List Point
  ns = map node_view ps.nodes.items

  abbrev ts : List Point
  ts = map toggle_view ps.toggles.items

  abbrev ss : List Point
  ss = map (machine_view ps.machines.items) ps.states.items

  abbrev ws : List Point
  ws = map word_view ps.words.items

  -- a toggle point is of a signal
  pub toggle_of : (p : IndexPoint) → In p ps.toggles.items → p.thing < length d.signals
  toggle_of p h =
      let x = toggle_view p in
      let there = in_left x (ls ++ ns ++ ts ++ ss) ws (in_left x (ls ++ ns ++ ts) ss (in_right x (ls ++ ns) ts (in_map_back toggle_view p ps.toggles.items h))) in
      ((listed.1.members x).0 there).0

  -- a point of a word is of a memory
  pub word_of : (p : IndexPoint) → In p ps.words.items → is_memory d p.thing ≡ true
  word_of p h =
      let x = word_view p in
      let there = in_right x (ls ++ ns ++ ts ++ ss) ws (in_map_back word_view p ps.words.items h) in
      ((listed.1.members x).0 there).0

same_length : {A B : Type 0} (xs : List A) (ys : List B) (us : List A) (vs : List B) → length xs ≡ length ys → length us ≡ length vs → length (xs ++ us) ≡ length (ys ++ vs)
same_length xs ys us vs e f = omega (arith, length-append xs us, length-append ys vs, e, f)

mapped : {A B C : Type 0} (f : A → B) (g : A → C) (xs : List A) → length (map f xs) ≡ length (map g xs)
mapped f g xs = length-map xs f ∙ sym (length-map xs g)

-- a row for each point
pub as_many_rows : (d : Design) (places : List ℕ) (ps : Points) → length (missed_points d places ps) ≡ length (points_of ps)
as_many_rows d places ps =
    same_length _ _ _ _
    (same_length _ _ _ _
    (same_length _ _ _ _
    (same_length _ _ _ _ (mapped (λ x. missed (line_address places x)) line_view ps.lines.items) (mapped (λ x. missed (node_address places x)) node_view ps.nodes.items))
    (mapped (λ x. missed (toggle_address d places x)) toggle_view ps.toggles.items))
    (mapped (λ x. missed (machine_address ps.machines.items places x)) (machine_view ps.machines.items) ps.states.items))
    (mapped (λ x. missed (word_address d places x)) word_view ps.words.items)
