-- The points of all kinds together.
use Rattle.std.proofs.Common.{◌≡◌, ◌⊎◌, ◌↔◌, ◌+◌, ◌++◌, ℕ, Bool, inl, inr, List, [], length, map, refl, subst, arith, length-append}
use Rattle.std.proofs.lemmas.List.{length-map}
use Rattle.cov_host.specs.declared.place.Place.{Place}
use Rattle.design_model.specs.Design.{Design, In}
use Rattle.design_machines.specs.declared.machine.Machine.{Machine}
use Rattle.design_model.specs.Points.{IsPoint}
use Rattle.design_machines.specs.state_machines.Drawn.{IsPointWith}
use Rattle.design_machines.specs.state_machines.Machines.{StateMachines}
use Rattle.design_model.specs.point_words.declared.line_word.LineWord.{LineWord}
use Rattle.design_model.specs.point_words.declared.node_case.NodeCase.{NodeCase}
use Rattle.design_model.specs.declared.point.Point.{Point}
use Rattle.design_model.specs.declared.point.Point.TheVariants.{Line, Logic, Toggle, State, Arc, Word}
use Rattle.text_points.specs.declared.points.LinePoint.{LinePoint}
use Rattle.text_points.specs.declared.points.NodePoint.{NodePoint}
use Rattle.cover_points.specs.MachinePoints.{IsOfMachine, machine_view}
use Rattle.cover_points.specs.declared.machine_point.MachinePoint.{MachinePoint}
use Rattle.cover_points.specs.declared.machine_point.MachinePoint.TheVariants as point
use Rattle.cover_points.specs.Texts.{line_view, node_view}
use Rattle.cover_points.specs.Things.{toggle_view, word_view}
use Rattle.cover_points.specs.declared.points.IndexPoint.{IndexPoint}
use Rattle.cover_points.proofs.Members.{in_append, in_left, in_map, in_right}

-- the kind of a point, as a number
abbrev kind : Point → ℕ
kind (Line p n place w) = 0
kind (Logic p n place op c) = 1
kind (Toggle s i rise) = 2
kind (State i name s state x) = 3
kind (Arc i name s from to x y) = 3
kind (Word m i write) = 5

of_kind : {A : Type 0} (f : A → Point) (k : ℕ) → ((y : A) → kind (f y) ≡ k) → (x : Point) (ys : List A) → In x (map f ys) → kind x ≡ k
of_kind f k same x ys h = let y = in_map f x ys h in subst (λ z. kind z ≡ k) y.2 (same y.0)

machine_kind : (xs : List Machine) (p : MachinePoint) → kind (machine_view xs p) ≡ 3
machine_kind xs (point.State k s) = refl
machine_kind xs (point.Arc k i j) = refl

module _ (ls : List LinePoint) (ns : List NodePoint) (ts : List IndexPoint) (xs : List Machine) (ps : List MachinePoint) (ws : List IndexPoint) where
  abbrev whole : List Point
  whole = map line_view ls ++ map node_view ns ++ map toggle_view ts ++ map (machine_view xs) ps ++ map word_view ws

  pub whole_length : length whole ≡ length ls + length ns + length ts + length ps + length ws
  whole_length =
      omega (arith, length-append (map line_view ls ++ map node_view ns ++ map toggle_view ts ++ map (machine_view xs) ps) (map word_view ws), length-append (map line_view ls ++ map node_view ns ++ map toggle_view ts) (map (machine_view xs) ps), length-append (map line_view ls ++ map node_view ns) (map toggle_view ts), length-append (map line_view ls) (map node_view ns), length-map ls line_view, length-map ns node_view, length-map ts toggle_view, length-map ps (machine_view xs), length-map ws word_view)

  abbrev Parts : Point → Type 0
  Parts x = ((kind x ≡ 0) × In x (map line_view ls)) ⊎ (((kind x ≡ 1) × In x (map node_view ns)) ⊎ (((kind x ≡ 2) × In x (map toggle_view ts)) ⊎ (((kind x ≡ 3) × In x (map (machine_view xs) ps)) ⊎ ((kind x ≡ 5) × In x (map word_view ws)))))

  of_two : (x : Point) → In x (map line_view ls) ⊎ In x (map node_view ns) → Parts x
  of_two x (inl k) = inl (of_kind line_view 0 (λ y. refl) x ls k, k)
  of_two x (inr k) = inr (inl (of_kind node_view 1 (λ y. refl) x ns k, k))

  of_three : (x : Point) → In x (map line_view ls ++ map node_view ns) ⊎ In x (map toggle_view ts) → Parts x
  of_three x (inl k) = of_two x (in_append x (map line_view ls) (map node_view ns) k)
  of_three x (inr k) = inr (inr (inl (of_kind toggle_view 2 (λ y. refl) x ts k, k)))

  of_four : (x : Point) → In x (map line_view ls ++ map node_view ns ++ map toggle_view ts) ⊎ In x (map (machine_view xs) ps) → Parts x
  of_four x (inl k) = of_three x (in_append x (map line_view ls ++ map node_view ns) (map toggle_view ts) k)
  of_four x (inr k) = inr (inr (inr (inl (of_kind (machine_view xs) 3 (machine_kind xs) x ps k, k))))

  of_five : (x : Point) → In x (map line_view ls ++ map node_view ns ++ map toggle_view ts ++ map (machine_view xs) ps) ⊎ In x (map word_view ws) → Parts x
  of_five x (inl k) = of_four x (in_append x (map line_view ls ++ map node_view ns ++ map toggle_view ts) (map (machine_view xs) ps) k)
  of_five x (inr k) = inr (inr (inr (inr (of_kind word_view 5 (λ y. refl) x ws k, k))))

  kinds : (x : Point) → In x whole → Parts x
  kinds x h = of_five x (in_append x (map line_view ls ++ map node_view ns ++ map toggle_view ts ++ map (machine_view xs) ps) (map word_view ws) h)

  module _ (d : Design) (ms : StateMachines)
      (on_lines : (p n : ℕ) (place : Place) (w : LineWord) → In (Line p n place w) (map line_view ls) ↔ IsPoint d [] (Line p n place w))
      (on_nodes : (p n : ℕ) (place : Place) (op : List ℕ) (c : NodeCase) → In (Logic p n place op c) (map node_view ns) ↔ IsPoint d [] (Logic p n place op c))
      (on_toggles : (s i : ℕ) (rise : Bool) → In (Toggle s i rise) (map toggle_view ts) ↔ IsPoint d [] (Toggle s i rise))
      (on_machines : (x : Point) → IsOfMachine x → In x (map (machine_view xs) ps) ↔ IsPointWith d ms x)
      (on_words : (m i : ℕ) (write : Bool) → In (Word m i write) (map word_view ws) ↔ IsPoint d [] (Word m i write)) where
    of_line : (x : Point) → kind x ≡ 0 → In x whole → In x (map line_view ls)
    of_line x e h = elim (kinds x h) [
      | inl k ↦ k.1
      | inr (inl k) ↦ absurd (omega (arith, k.0))
      | inr (inr (inl k)) ↦ absurd (omega (arith, k.0))
      | inr (inr (inr (inl k))) ↦ absurd (omega (arith, k.0))
      | inr (inr (inr (inr k))) ↦ absurd (omega (arith, k.0))
    ]

    of_node : (x : Point) → kind x ≡ 1 → In x whole → In x (map node_view ns)
    of_node x e h = elim (kinds x h) [
      | inl k ↦ absurd (omega (arith, k.0))
      | inr (inl k) ↦ k.1
      | inr (inr (inl k)) ↦ absurd (omega (arith, k.0))
      | inr (inr (inr (inl k))) ↦ absurd (omega (arith, k.0))
      | inr (inr (inr (inr k))) ↦ absurd (omega (arith, k.0))
    ]

    of_toggle : (x : Point) → kind x ≡ 2 → In x whole → In x (map toggle_view ts)
    of_toggle x e h = elim (kinds x h) [
      | inl k ↦ absurd (omega (arith, k.0))
      | inr (inl k) ↦ absurd (omega (arith, k.0))
      | inr (inr (inl k)) ↦ k.1
      | inr (inr (inr (inl k))) ↦ absurd (omega (arith, k.0))
      | inr (inr (inr (inr k))) ↦ absurd (omega (arith, k.0))
    ]

    of_word : (x : Point) → kind x ≡ 5 → In x whole → In x (map word_view ws)
    of_word x e h = elim (kinds x h) [
      | inl k ↦ absurd (omega (arith, k.0))
      | inr (inl k) ↦ absurd (omega (arith, k.0))
      | inr (inr (inl k)) ↦ absurd (omega (arith, k.0))
      | inr (inr (inr (inl k))) ↦ absurd (omega (arith, k.0))
      | inr (inr (inr (inr k))) ↦ k.1
    ]

    of_machine : (x : Point) → kind x ≡ 3 → In x whole → In x (map (machine_view xs) ps)
    of_machine x e h = elim (kinds x h) [
      | inl k ↦ absurd (omega (arith, k.0))
      | inr (inl k) ↦ absurd (omega (arith, k.0))
      | inr (inr (inl k)) ↦ absurd (omega (arith, k.0))
      | inr (inr (inr (inl k))) ↦ k.1
      | inr (inr (inr (inr k))) ↦ absurd (omega (arith, k.0))
    ]

    in_four : (x : Point) → In x (map line_view ls ++ map node_view ns ++ map toggle_view ts ++ map (machine_view xs) ps) → In x whole
    in_four x h = in_left x (map line_view ls ++ map node_view ns ++ map toggle_view ts ++ map (machine_view xs) ps) (map word_view ws) h

    in_three : (x : Point) → In x (map line_view ls ++ map node_view ns ++ map toggle_view ts) → In x whole
    in_three x h = in_four x (in_left x (map line_view ls ++ map node_view ns ++ map toggle_view ts) (map (machine_view xs) ps) h)

    in_two : (x : Point) → In x (map line_view ls ++ map node_view ns) → In x whole
    in_two x h = in_three x (in_left x (map line_view ls ++ map node_view ns) (map toggle_view ts) h)

    machine_members : (x : Point) → IsOfMachine x → kind x ≡ 3 → In x whole ↔ IsPointWith d ms x
    machine_members x o e = (λ h. (on_machines x o).0 (of_machine x e h), λ h. in_four x (in_right x (map line_view ls ++ map node_view ns ++ map toggle_view ts) (map (machine_view xs) ps) ((on_machines x o).1 h)))

    pub all_members : (x : Point) → In x whole ↔ IsPointWith d ms x
    all_members (Line p n place w) = (λ h. (on_lines p n place w).0 (of_line (Line p n place w) refl h), λ h. in_two (Line p n place w) (in_left (Line p n place w) (map line_view ls) (map node_view ns) ((on_lines p n place w).1 h)))
    all_members (Logic p n place op c) = (λ h. (on_nodes p n place op c).0 (of_node (Logic p n place op c) refl h), λ h. in_two (Logic p n place op c) (in_right (Logic p n place op c) (map line_view ls) (map node_view ns) ((on_nodes p n place op c).1 h)))
    all_members (Toggle s i rise) = (λ h. (on_toggles s i rise).0 (of_toggle (Toggle s i rise) refl h), λ h. in_three (Toggle s i rise) (in_right (Toggle s i rise) (map line_view ls ++ map node_view ns) (map toggle_view ts) ((on_toggles s i rise).1 h)))
    all_members (State i name s state x) = machine_members (State i name s state x) tt refl
    all_members (Arc i name s from to x y) = machine_members (Arc i name s from to x y) tt refl
    all_members (Word m i write) = (λ h. (on_words m i write).0 (of_word (Word m i write) refl h), λ h. in_right (Word m i write) (map line_view ls ++ map node_view ns ++ map toggle_view ts ++ map (machine_view xs) ps) (map word_view ws) ((on_words m i write).1 h))
