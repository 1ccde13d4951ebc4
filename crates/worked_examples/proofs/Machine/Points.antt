-- The verdicts of the points of one machine.
use Rattle.std.proofs.Common.{◌≡◌, ◌<◌, ◌++◌, ◌∙◌, ℕ, zero, suc, List, [], ◌∷◌, map, length, get_or, refl, sym, ap, subst, arith, lit<}
use Rattle.design_model.specs.declared.point.Point.{Point}
use Rattle.cover_points.specs.Listed.{points_of}
use Rattle.cover_points.specs.MachinePoints.{machine_view}
use Rattle.cover_points.specs.Texts.{line_view, node_view}
use Rattle.cover_points.specs.Things.{toggle_view, word_view}
use Rattle.cover_points.specs.Visits.{IsMachinePointAt}
use Rattle.cover_points.specs.declared.points.IndexPoint.{IndexPoint}
use Rattle.cover_points.specs.declared.listing.Points.{Points}
use Rattle.cover_points.specs.declared.machine_point.MachinePoint.{MachinePoint}
use Rattle.cover_points.specs.declared.machine_point.MachinePoint.TheVariants.{Arc, State}
use Rattle.cover_points.specs.design_machines.declared.machine.Machine.{Machine}
use Rattle.text_points.specs.declared.points.LinePoint.{LinePoint}
use Rattle.text_points.specs.declared.points.NodePoint.{NodePoint}
use Rattle.point_marks.specs.declared.verdict.Verdict.{Verdict}
use Rattle.signal_marks.specs.Toggled.{verdict_of}
use Rattle.machine_marks.specs.Marked.{MarksEach}
use Rattle.worked_examples.specs.Machine.Marked.{HasOneMachine, light}

-- the states and arcs, and the one with a number
abbrev pub listed : List MachinePoint
listed = State 0 0 ∷ State 0 1 ∷ Arc 0 0 1 ∷ []

abbrev pub at : ℕ → MachinePoint
at n = get_or listed n (State 0 0)

-- the points of lists
abbrev joined : List LinePoint → List NodePoint → List IndexPoint → List Machine → List MachinePoint → List Point → List Point
joined ls ns ts xs ss ws = map line_view ls ++ map node_view ns ++ map toggle_view ts ++ map (machine_view xs) ss ++ ws

module _ (ps : Points) (h : HasOneMachine ps) where
  abbrev others : List Point
  others = map word_view ps.words.items

  pub points_are : points_of ps ≡ map (machine_view (light ∷ [])) listed ++ others
  points_are =
      ap (λ ls. joined ls ps.nodes.items ps.toggles.items ps.machines.items ps.states.items others) h.lines
      ∙ (ap (λ ns. joined [] ns ps.toggles.items ps.machines.items ps.states.items others) h.nodes
      ∙ (ap (λ ts. joined [] [] ts ps.machines.items ps.states.items others) h.toggles
      ∙ (ap (λ xs. joined [] [] [] xs ps.states.items others) h.machines
      ∙ ap (λ ss. joined [] [] [] (light ∷ []) ss others) h.states)))

  -- the state or arc with a number
  here : (n : ℕ) (p : MachinePoint) → IsMachinePointAt ps n p → (n < 3) × (at n ≡ p)
  here n p (j, l, e, k) =
      let l' : j < 3 = subst (λ ss. j < length ss) h.states l in
      let e' : at j ≡ p = subst (λ ss. get_or ss j (State 0 0) ≡ p) h.states e in
      let i : j ≡ n = omega (arith, k, ap length h.lines, ap length h.nodes, ap length h.toggles) in
      subst (λ m. (m < 3) × (at m ≡ p)) i (l', e')

  pub there : (n : ℕ) → n < 3 → IsMachinePointAt ps n (at n)
  there n l =
      (n, subst (λ ss. n < length ss) (sym h.states) l, subst (λ ss. get_or ss n (State 0 0) ≡ at n) (sym h.states) refl, omega (arith, ap length h.lines, ap length h.nodes, ap length h.toggles))

  -- the three verdicts are each the one that is marked
  module _ (mark : MachinePoint → Verdict → Verdict) (a b c x y z : Verdict) (first : x ≡ mark (State 0 0) a) (second : y ≡ mark (State 0 1) b) (third : z ≡ mark (Arc 0 0 1) c) where
    of_number : (n : ℕ) (p : MachinePoint) → n < 3 → at n ≡ p → verdict_of (x ∷ y ∷ z ∷ []) n ≡ mark p (verdict_of (a ∷ b ∷ c ∷ []) n)
    of_number zero p l e = subst (λ q. x ≡ mark q a) e first
    of_number (suc zero) p l e = subst (λ q. y ≡ mark q b) e second
    of_number (suc (suc zero)) p l e = subst (λ q. z ≡ mark q c) e third
    of_number (suc (suc (suc n))) p l e = absurd (let f : ⊥ = omega (arith, l) in f)

    past : (n : ℕ) → ((p : MachinePoint) → IsMachinePointAt ps n p → ⊥) → verdict_of (x ∷ y ∷ z ∷ []) n ≡ verdict_of (a ∷ b ∷ c ∷ []) n
    past zero none = absurd (none (at 0) (there 0 (lit< tt)))
    past (suc zero) none = absurd (none (at 1) (there 1 (lit< tt)))
    past (suc (suc zero)) none = absurd (none (at 2) (there 2 (lit< tt)))
    past (suc (suc (suc n))) none = refl

    pub marks_each : MarksEach ps mark (a ∷ b ∷ c ∷ []) (x ∷ y ∷ z ∷ [])
    marks_each = record { count = refl; each = λ n p is. (let w = here n p is in of_number n p w.0 w.1); others = past }

  -- the verdict of one of them
  pub mark_at : (mark : MachinePoint → Verdict → Verdict) (before after : List Verdict) (n : ℕ) → n < 3 → MarksEach ps mark before after → verdict_of after n ≡ mark (at n) (verdict_of before n)
  mark_at mark before after n l m = m.each n (at n) (there n l)
