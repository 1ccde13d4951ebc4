-- The places of states and arcs in the list of points.
use Rattle.std.proofs.Common.{◌≡◌, ◌∙◌, ◌<◌, ℕ, suc, List, [], ◌∷◌, length, get_or, None, inl, inr, refl, sym, ap, subst, arith}
use Rattle.mark_laws.specs.cover_points.Listed.{points_of}
use Rattle.mark_laws.specs.cover_points.MachinePoints.{IsOfMachine, machine_view}
use Rattle.mark_laws.specs.cover_points.Visits.{IsMachinePointAt, point_at, visit_of}
use Rattle.mark_laws.specs.cover_points.design_machines.declared.machine.Machine.{Machine}
use Rattle.mark_laws.specs.cover_points.declared.listing.Points.{Points}
use Rattle.mark_laws.specs.cover_points.declared.machine_point.MachinePoint.{MachinePoint}
use Rattle.mark_laws.specs.cover_points.declared.machine_point.MachinePoint.TheVariants.{Arc, State}
use Rattle.mark_laws.proofs.cover_points.Places.{Where, in_lines, in_nodes, in_states, in_toggles, in_words, line_place, no_state, node_place, state_place, toggle_place, where_is, word_place}
use Rattle.mark_laws.specs.replay_model.design_model.Design.{In}
use Rattle.mark_laws.specs.replay_model.design_model.declared.point.Point.{Point}
use Rattle.mark_laws.specs.replay_model.design_model.declared.point.Point.TheVariants as point

-- the place of a member
pub place_in : {A : Type 0} (xs : List A) (x d : A) → In x xs → (k : ℕ) × (k < length xs) × (get_or xs k d ≡ x)
place_in [] x d h = absurd h
place_in (y ∷ xs) x d (inl e) = (0, omega arith, e)
place_in (y ∷ xs) x d (inr h) = let p = place_in xs x d h in (suc p.0, omega (arith, p.1), p.2)

-- a state or an arc has no visit
pub unvisited : (x : Point) → IsOfMachine x → visit_of x ≡ None
unvisited (point.Line p n at w) is = absurd is
unvisited (point.Logic p n at op c) is = absurd is
unvisited (point.Toggle s i r) is = absurd is
unvisited (point.State i name s state x) is = refl
unvisited (point.Arc i name s from to x y) is = refl
unvisited (point.Word m i write) is = absurd is

pub is_of_machine : (xs : List Machine) (p : MachinePoint) → IsOfMachine (machine_view xs p)
is_of_machine xs (State k s) = tt
is_of_machine xs (Arc k i j) = tt

module _ (ps : Points) where
  -- the point of a state or an arc
  pub view_at : (k : ℕ) (p : MachinePoint) → IsMachinePointAt ps k p → point_at ps k ≡ machine_view ps.machines.items p
  view_at k p (j, l, is, at) = ap (point_at ps) at ∙ state_place ps j l ∙ ap (machine_view ps.machines.items) is

  pub of_machine_at : (k : ℕ) (p : MachinePoint) → IsMachinePointAt ps k p → IsOfMachine (point_at ps k)
  of_machine_at k p at = subst (λ (x : Point). IsOfMachine x) (sym (view_at k p at)) (is_of_machine ps.machines.items p)

  -- a point that is a state or an arc is one of the machines
  pub machine_point_at : (k : ℕ) → k < length (points_of ps) → IsOfMachine (point_at ps k) → (p : MachinePoint) × IsMachinePointAt ps k p
  machine_point_at k l is = go (where_is ps k l)
    where
      not_of : (x : Point) → point_at ps k ≡ x → (IsOfMachine x → ⊥) → ⊥
      not_of x e plain = plain (subst (λ (y : Point). IsOfMachine y) e is)

      go : Where ps k → (p : MachinePoint) × IsMachinePointAt ps k p
      go (in_lines m) = absurd (not_of _ (line_place ps k m) (λ h. h))
      go (in_nodes j e m) = absurd (not_of _ (ap (point_at ps) e ∙ node_place ps j m) (λ h. h))
      go (in_toggles j e m) = absurd (not_of _ (ap (point_at ps) e ∙ toggle_place ps j m) (λ h. h))
      go (in_states j e m) = (get_or ps.states.items j no_state, (j, m, refl, e))
      go (in_words j e m) = absurd (not_of _ (ap (point_at ps) e ∙ word_place ps j m) (λ h. h))
