-- The values of an arc.
use Rattle.std.proofs.Common.{◌≡◌, ◌≢◌, ◌∙◌, ◌&&◌, ℕ, true, List, [], ◌∷◌, ⊎_elim, refl, sym, ap, ap₂, subst, arith}
use Rattle.std.proofs.lemmas.Bool.{cases_lt}
use Rattle.mark_laws.specs.cover_points.Listed.{IsPlaced, IsPointList, points_of}
use Rattle.mark_laws.specs.cover_points.MachinePoints.{IsOfMachine, machine_view}
use Rattle.mark_laws.specs.cover_points.Visits.{no_point}
use Rattle.mark_laws.specs.cover_points.design_machines.Machines.{machine_at, no_machine}
use Rattle.mark_laws.specs.cover_points.design_machines.state_machines.Same.{bits_at}
use Rattle.mark_laws.specs.cover_points.declared.listing.Points.{Points}
use Rattle.mark_laws.specs.cover_points.declared.machine_point.MachinePoint.{MachinePoint}
use Rattle.mark_laws.specs.cover_points.declared.machine_point.MachinePoint.TheVariants.{Arc, State}
use Rattle.mark_laws.proofs.cover_points.Members.{in_at}
use Rattle.mark_laws.proofs.cover_points.Places.{no_state}
use Rattle.mark_laws.specs.replay_model.design_model.Design.{Design, In}
use Rattle.mark_laws.specs.cover_points.design_machines.state_machines.Machines.{StateMachines}
use Rattle.mark_laws.specs.replay_model.design_model.declared.point.Point.{Point}
use Rattle.mark_laws.specs.replay_model.design_model.declared.point.Point.TheVariants as point
use Rattle.mark_laws.specs.replay_model.four_state.Vector.{Vector, same_bit, same_bits}
use Rattle.mark_laws.specs.replay_model.four_state.declared.bit.Bit.{Bit}
use Rattle.mark_laws.specs.replay_model.four_state.declared.bit.Bit.TheVariants as bit
use Rattle.machine_laws.specs.Followed.{ArcsLaw}
use Rattle.machine_laws.proofs.Places.{machine_point_at, place_in, view_at}

same_itself : (b : Bit) → same_bit b b ≡ true
same_itself bit.Zero = refl
same_itself bit.One = refl
same_itself bit.X = refl
same_itself bit.Z = refl

bits_same : (bs : List Bit) → same_bits bs bs ≡ true
bits_same [] = refl
bits_same (b ∷ bs) = ap₂ (λ a c. a && c) (same_itself b) (bits_same bs)

module _ (d : Design) (ms : StateMachines) (ps : Points) (list : IsPointList d ms ps) where
  -- two places of one machine have different values
  values_apart : (m i j : ℕ) → IsPlaced ps.machines.items (Arc m i j) → bits_at (machine_at ps.machines.items m).values i ≢ bits_at (machine_at ps.machines.items m).values j
  values_apart m i j placed same =
      let x = machine_at ps.machines.items m in
      let whole = list.machines.whole x (in_at ps.machines.items m no_machine placed.0) in
      let count = whole.count in
      let is : same_bits (bits_at x.values i) (bits_at x.values j) ≡ true = ap (λ bs. same_bits bs (bits_at x.values j)) same ∙ bits_same (bits_at x.values j) in
      let back : same_bits (bits_at x.values j) (bits_at x.values i) ≡ true = ap (λ bs. same_bits bs (bits_at x.values i)) (sym same) ∙ bits_same (bits_at x.values i) in
      ⊎_elim (λ l. whole.apart j (omega (arith, placed.2, count)) (i, l, is)) (λ l. ⊎_elim (λ k. whole.apart i (omega (arith, placed.1, count)) (j, k, back)) (λ k. placed.3 (omega (arith, l, k))) (cases_lt j i)) (cases_lt i j)

  arc_apart : (i : ℕ) (name : List ℕ) (s : ℕ) (from to : List ℕ) (x y : Vector) (p : MachinePoint) → IsPlaced ps.machines.items p → machine_view ps.machines.items p ≡ point.Arc i name s from to x y → x.bits ≢ y.bits
  arc_apart i name s from to x y (State m a) placed is = absurd cc
  arc_apart i name s from to x y (Arc m a b) placed is = λ same. values_apart m a b placed (ap first is ∙ same ∙ sym (ap second is))
    where
      first : Point → List Bit
      first (point.Arc i name s from to x y) = x.bits
      first _ = []

      second : Point → List Bit
      second (point.Arc i name s from to x y) = y.bits
      second _ = []

pub arcs_apart : ArcsLaw
arcs_apart d ms ps i name s from to x y list h =
    let at = place_in (points_of ps) (point.Arc i name s from to x y) no_point h in
    let p = machine_point_at ps at.0 at.1 (subst (λ (z : Point). IsOfMachine z) (sym at.2) tt) in
    let q = p.1 in
    arc_apart d ms ps list i name s from to x y p.0 (list.placed p.0 (subst (λ (z : MachinePoint). In z ps.states.items) q.2 (in_at ps.states.items q.0 no_state q.1))) (sym (view_at ps at.0 p.0 q) ∙ at.2)
