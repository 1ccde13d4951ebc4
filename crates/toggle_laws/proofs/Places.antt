-- The place of the bit that a toggle point names.
use Rattle.std.proofs.Common.{◌≡◌, ◌∙◌, ℕ, ◌+◌, ◌-◌, ◌<◌, ◌≤◌, Bool, true, false, if◌then◌else◌, nat_le, length, min, max, refl, sym, ap, arith}
use Rattle.std.proofs.lemmas.Bool.Decides.{nat_tests}
use Rattle.std.proofs.lemmas.Bool.{true≢false}
use Rattle.std.proofs.Math.Nat.{max-eq_left, max-eq_right, min-eq_left, min-eq_right}
use Rattle.design_model.specs.Design.{Design, cell, no_signal, signal_at}
use Rattle.design_model.specs.declared.design.Signal.{Signal}
use Rattle.design_model.specs.Lawful.{IsLawfulDesign, is_signal, span}
use Rattle.design_model.specs.Points.{IsWithin, toggle_cell}
use Rattle.signal_marks.specs.Toggled.{index_at}
use Rattle.mark_laws.proofs.cover_points.Pieces.{test_at}
use Rattle.signal_marks.proofs.Indexes.{cell_at}

-- the bit at this place is the one with the index
pub record IsPlaceOf (x : Signal) (i place : ℕ) : Type 0 where
  pub inside : place < x.width
  pub index : index_at x place ≡ i
  pub below : nat_le x.low x.high ≡ false → place ≤ x.low
  pub plain : x.ranged ≡ false → x.width ≤ 1

-- a signal's width, and its range where it has no range of its own
pub record IsShaped (x : Signal) : Type 0 where
  pub width : x.width ≡ span x.high x.low
  pub plain : x.ranged ≡ false → (x.high ≡ 0) × (x.low ≡ 0)

pub shaped : (d : Design) (x : Signal) → is_signal d x ≡ true → IsShaped x
shaped d x h = record { width = grind (arith, nat_tests); plain = λ e. (grind (arith, nat_tests), grind (arith, nat_tests)) }

pub span_zero : (h l : ℕ) → h ≡ 0 → l ≡ 0 → span h l ≡ 1
span_zero h l e f = ap (λ a. span a l) e ∙ ap (span 0) f

-- in a range that rises, or falls, to the left
up_in : (high low i : ℕ) → low ≤ high → IsWithin high low i → (i - low < span high low) × (low + (i - low) ≡ i)
up_in high low i l w =
    let least : min high low ≡ low = min-eq_right l in
    let most : max high low ≡ high = max-eq_left l in
    (omega (arith, least, most, w.0, w.1, l), omega (arith, least, w.0))

down_in : (high low i : ℕ) → high ≤ low → IsWithin high low i → (low - i < span high low) × (low - (low - i) ≡ i)
down_in high low i l w =
    let least : min high low ≡ high = min-eq_left l in
    let most : max high low ≡ low = max-eq_right l in
    (omega (arith, least, most, w.0, w.1, l), omega (arith, most, w.1))

only_in : (high low i : ℕ) → high ≡ 0 → low ≡ 0 → IsWithin high low i → 0 ≡ i
only_in high low i e f w =
    let most : max high low ≡ low = max-eq_right (omega (arith, e)) in
    omega (arith, most, f, w.1)

-- the index where the range is known to be there, and in which way it goes
pub index_so : (x : Signal) (p : ℕ) (b : Bool) → x.ranged ≡ true → nat_le x.low x.high ≡ b → index_at x p ≡ (if b then x.low + p else x.low - p)
index_so x p b r e = ap (λ q. if q then (if nat_le x.low x.high then x.low + p else x.low - p) else 0) r ∙ ap (λ q. if q then x.low + p else x.low - p) e

module _ (x : Signal) (h : IsShaped x) (i : ℕ) (w : IsWithin x.high x.low i) where
  flat : x.ranged ≡ false → x.width ≤ 1
  flat e = let z = h.plain e in omega (arith, h.width, span_zero x.high x.low z.0 z.1)

  in_range : (b : Bool) → x.ranged ≡ true → nat_le x.low x.high ≡ b → (p : ℕ) × IsPlaceOf x i p
  in_range true r e =
      let up = up_in x.high x.low i (grind (arith, nat_tests)) w in
      (i - x.low, record { inside = omega (arith, h.width, up.0); index = index_so x (i - x.low) true r e ∙ up.1; below = λ f. absurd (true≢false (sym e ∙ f)); plain = flat })
  in_range false r e =
      let down = down_in x.high x.low i (grind (arith, nat_tests)) w in
      (x.low - i, record { inside = omega (arith, h.width, down.0); index = index_so x (x.low - i) false r e ∙ down.1; below = λ f. omega arith; plain = flat })

  place_by : (r : Bool) → x.ranged ≡ r → (p : ℕ) × IsPlaceOf x i p
  place_by true e = in_range (nat_le x.low x.high) e refl
  place_by false e =
      let z = h.plain e in (
        0,
        record {
          inside = omega (arith, h.width, span_zero x.high x.low z.0 z.1);
          index = ap (λ q. if q then (if nat_le x.low x.high then x.low + 0 else x.low - 0) else 0) e ∙ only_in x.high x.low i z.0 z.1 w;
          below = λ f. omega arith;
          plain = flat;
        },
      )

-- each index of a signal's range is that of a place
pub place_at : (d : Design) → IsLawfulDesign d → (s i : ℕ) → s < length d.signals → IsWithin (signal_at d s).high (signal_at d s).low i → (p : ℕ) × IsPlaceOf (signal_at d s) i p
place_at d lawful s i l w =
    let x = signal_at d s in
    place_by x (shaped d x (test_at (is_signal d) d.signals s no_signal lawful.signals l)) i w x.ranged refl

-- and the index names the bit there
pub names_place : (d : Design) (s i p : ℕ) → IsPlaceOf (signal_at d s) i p → toggle_cell d s i ≡ cell s p
names_place d s i p h = ap (toggle_cell d s) (sym h.index) ∙ cell_at d s p h.inside h.below h.plain
