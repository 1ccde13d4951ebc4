-- The premises of the marks of a signal, of a design and the list of its points.
use Rattle.std.proofs.Common.{◌≡◌, ℕ, ◌+◌, ◌-◌, ◌<◌, ◌≤◌, Bool, true, false, if◌then◌else◌, nat_le, List, length, min, max, refl, sym, ap, subst, arith}
use Rattle.std.proofs.lemmas.Bool.Decides.{nat_tests}
use Rattle.std.proofs.Math.Nat.{max-eq_left, max-eq_right, min-eq_left, min-eq_right}
use Rattle.mark_laws.proofs.cover_points.Pieces.{test_at}
use Rattle.mark_laws.specs.cover_points.Listed.{IsPointList, points_of}
use Rattle.mark_laws.specs.cover_points.Visits.{no_point, visit_of}
use Rattle.mark_laws.specs.cover_points.declared.listing.Points.{Points}
use Rattle.design_model.specs.Design.{Design, no_signal, signal_at}
use Rattle.design_model.specs.declared.design.Signal.{Signal}
use Rattle.design_model.specs.declared.point.Point.TheVariants as point
use Rattle.design_model.specs.Lawful.{IsLawfulDesign, is_signal, span}
use Rattle.design_model.specs.Points.{IsWithin}
use Rattle.mark_laws.specs.cover_points.design_machines.state_machines.Machines.{StateMachines}
use Rattle.signal_marks.specs.Toggled.{index_at}
use Rattle.signal_marks.proofs.state_machines.Members.{place_of}
use Rattle.toggle_laws.specs.Turns.{IsMarkable}
use Rattle.toggle_laws.proofs.Places.{IsShaped, index_so, shaped, span_zero}

up_within : (high low i : ℕ) → low ≤ high → i < span high low → IsWithin high low (low + i)
up_within high low i l w =
    let least : min high low ≡ low = min-eq_right l in
    let most : max high low ≡ high = max-eq_left l in
    (omega (arith, least), omega (arith, least, most, w, l))

down_within : (high low i : ℕ) → high ≤ low → i < span high low → IsWithin high low (low - i)
down_within high low i l w =
    let least : min high low ≡ high = min-eq_left l in
    let most : max high low ≡ low = max-eq_right l in
    (omega (arith, least, most, w, l), omega (arith, most))

zero_within : (high low : ℕ) → high ≡ 0 → low ≡ 0 → IsWithin high low 0
zero_within high low e f =
    let least : min high low ≡ high = min-eq_left (omega (arith, e)) in
    (omega (arith, least, e), omega arith)

-- the index of each place is one of the range
module _ (x : Signal) (h : IsShaped x) (i : ℕ) (w : i < x.width) where
  in_range : (b : Bool) → x.ranged ≡ true → nat_le x.low x.high ≡ b → IsWithin x.high x.low (index_at x i)
  in_range true r e = subst (IsWithin x.high x.low) (sym (index_so x i true r e)) (up_within x.high x.low i (grind (arith, nat_tests)) (omega (arith, w, h.width)))
  in_range false r e = subst (IsWithin x.high x.low) (sym (index_so x i false r e)) (down_within x.high x.low i (grind (arith, nat_tests)) (omega (arith, w, h.width)))

  index_within : (r : Bool) → x.ranged ≡ r → IsWithin x.high x.low (index_at x i)
  index_within true e = in_range (nat_le x.low x.high) e refl
  index_within false e =
      let z = h.plain e in
      subst (IsWithin x.high x.low) (sym (ap (λ q. if q then (if nat_le x.low x.high then x.low + i else x.low - i) else 0) e)) (zero_within x.high x.low z.0 z.1)

narrow : (d : Design) (x : Signal) → is_signal d x ≡ true → x.width ≤ 128
narrow d x h = grind (arith, nat_tests)

pub markable : (d : Design) (ms : StateMachines) (ps : Points) → IsLawfulDesign d → IsPointList d ms ps → (s : ℕ) → s < length d.signals → IsMarkable ps (signal_at d s) s
markable d ms ps lawful list s l =
    let x = signal_at d s in
    let is = test_at (is_signal d) d.signals s no_signal lawful.signals l in
    let h = shaped d x is in
    record {
      width = narrow d x is;
      plain = λ e. (let z = h.plain e in omega (arith, h.width, span_zero x.high x.low z.0 z.1));
      listed = λ rise i w.
          let p = point.Toggle s (index_at x i) rise in
          let place = place_of p (points_of ps) no_point ((list.members p).1 (l, index_within x h i w x.ranged refl)) in
          (place.0, (place.1, ap visit_of place.2));
    }
