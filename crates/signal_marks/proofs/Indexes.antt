-- The bit that a toggle point names.
use Rattle.std.proofs.Common.{◌≡◌, ◌∙◌, ℕ, ◌+◌, ◌-◌, ◌<◌, ◌≤◌, Bool, true, false, if◌then◌else◌, nat_le, pos, ◌-ℤ◌, Some, None, refl, ap, arith}
use Rattle.std.proofs.lemmas.Bool.{lt-ltb}
use Rattle.std.proofs.lemmas.Int.{ints}
use Rattle.four_state.specs.Parts.{within}
use Rattle.design_model.specs.Design.{Design, cell, signal_at}
use Rattle.design_model.specs.Points.{indexed_cell, toggle_cell}
use Rattle.signal_marks.specs.Toggled.{HasIndex, index_at}

inside : (w i : ℕ) → i < w → within w (pos i) ≡ Some i
inside w i l = ap (λ b. if b then Some i else None) (lt-ltb i w l)

up : (low i : ℕ) → pos (low + i) -ℤ pos low ≡ pos i
up low i = omega (arith, ints)

down : (low i : ℕ) → i ≤ low → pos low -ℤ pos (low - i) ≡ pos i
down low i h = omega (arith, ints)

-- in a range that rises, or falls, to the left
at_place : (w low i : ℕ) (r : Bool) → i < w → (r ≡ false → i ≤ low)
    → within w (if r then pos (if r then low + i else low - i) -ℤ pos low else pos low -ℤ pos (if r then low + i else low - i)) ≡ Some i
at_place w low i true l h = ap (within w) (up low i) ∙ inside w i l
at_place w low i false l h = ap (within w) (down low i (h refl)) ∙ inside w i l

only : (i w : ℕ) → i < w → w ≤ 1 → 0 ≡ i
only i w l h = omega arith

-- with a range, or without one
in_range : (s w low i : ℕ) (r b : Bool) → i < w → (r ≡ false → i ≤ low) → (b ≡ false → w ≤ 1)
    → (if b then indexed_cell s (within w (if r then pos (if b then (if r then low + i else low - i) else 0) -ℤ pos low else pos low -ℤ pos (if b then (if r then low + i else low - i) else 0))) else cell s 0) ≡ cell s i
in_range s w low i r true l h k = ap (indexed_cell s) (at_place w low i r l h)
in_range s w low i r false l h k = ap (cell s) (only i w l (k refl))

-- the index of a place names the bit there
pub cell_at : (d : Design) (s i : ℕ) → i < (signal_at d s).width → (nat_le (signal_at d s).low (signal_at d s).high ≡ false → i ≤ (signal_at d s).low) → ((signal_at d s).ranged ≡ false → (signal_at d s).width ≤ 1) → toggle_cell d s (index_at (signal_at d s) i) ≡ cell s i
cell_at d s i l below plain =
    let x = signal_at d s in
    in_range s x.width x.low i (nat_le x.low x.high) x.ranged l below plain

pub index_names : (d : Design) (s i : ℕ) → i < (signal_at d s).width → HasIndex (signal_at d s) i → ((signal_at d s).ranged ≡ false → (signal_at d s).width ≤ 1) → toggle_cell d s (index_at (signal_at d s) i) ≡ cell s i
index_names d s i l h plain = cell_at d s i l h.1 plain
