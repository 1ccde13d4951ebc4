-- The verdicts of toggle points after a step, and masks of those that are marked already.
use Rattle.std.specs.Prelude.{◌≡◌, ◌≢◌, ◌<◌, ◌&&◌, ◌||◌, not, ℕ, Bool, true, false, List, Option, length, slice_index_or}
use Rattle.four_state.specs.Masks.{is_set}
use Rattle.four_state.specs.declared.bit.Bit.{Bit}
use Rattle.design_model.specs.Design.{Design, signal_at}
use Rattle.design_model.specs.declared.design.Signal.{Signal}
use Rattle.cover_marks.specs.cover_points.Visits.{IsVisitOf}
use Rattle.cover_marks.specs.cover_points.declared.listing.Points.{Points}
use Rattle.cover_marks.specs.cover_points.declared.visit.Visit.TheVariants.{Toggle}
use Rattle.point_marks.specs.declared.verdict.Verdict.{Verdict}
use Rattle.point_marks.specs.declared.verdict.Verdict.TheVariants.{Hit, Missed}
use Rattle.bit_changes.specs.Changes.{bit_at, may_fall, may_rise, surely_falls, surely_rises}
use Rattle.bit_changes.specs.declared.toggles.Toggles.{Toggles}
use Rattle.signal_marks.specs.Toggled.{index_at, toggled, verdict_of}

-- the toggle points of the signal are marked after a step over which its bits go from the old ones to the new ones, and no other points
pub record MarksChange (ps : Points) (x : Signal) (s time : ℕ) (old new : List (Option Bit)) (before after : List Verdict) : Type 0 where
  pub count : length after ≡ length before
  pub rises : (i k : ℕ) → i < x.width → IsVisitOf ps k (Toggle s (index_at x i) true)
      → verdict_of after k ≡ toggled s time (surely_rises (bit_at old i) (bit_at new i)) (may_rise (bit_at old i) (bit_at new i)) (verdict_of before k)
  pub falls : (i k : ℕ) → i < x.width → IsVisitOf ps k (Toggle s (index_at x i) false)
      → verdict_of after k ≡ toggled s time (surely_falls (bit_at old i) (bit_at new i)) (may_fall (bit_at old i) (bit_at new i)) (verdict_of before k)
  pub others : (k : ℕ) → ((rise : Bool) (i : ℕ) → i < x.width → IsVisitOf ps k (Toggle s (index_at x i) rise) → ⊥) → verdict_of after k ≡ verdict_of before k

-- no toggle
abbrev pub no_toggles : Toggles
no_toggles = record { rises = 0; falls = 0; may_rise = 0; may_fall = 0 }

-- the masks of a signal
abbrev pub masks_of : List Toggles → ℕ → Toggles
masks_of ms s = slice_index_or ms s no_toggles

-- the toggle points of a signal that the first two masks have are hit, and those that the last two have are marked
pub record IsSeen (ps : Points) (x : Signal) (s : ℕ) (m : Toggles) (vs : List Verdict) : Type 0 where
  pub rises : (i k : ℕ) → i < x.width → is_set m.rises i ≡ true → IsVisitOf ps k (Toggle s (index_at x i) true) → verdict_of vs k ≡ Hit
  pub falls : (i k : ℕ) → i < x.width → is_set m.falls i ≡ true → IsVisitOf ps k (Toggle s (index_at x i) false) → verdict_of vs k ≡ Hit
  pub may_rise : (i k : ℕ) → i < x.width → is_set m.may_rise i ≡ true → IsVisitOf ps k (Toggle s (index_at x i) true) → verdict_of vs k ≢ Missed
  pub may_fall : (i k : ℕ) → i < x.width → is_set m.may_fall i ≡ true → IsVisitOf ps k (Toggle s (index_at x i) false) → verdict_of vs k ≢ Missed

-- so it is for each signal of the design
abbrev pub AreSeen : Design → Points → List Toggles → List Verdict → Type 0
AreSeen d ps ms vs = (s : ℕ) → IsSeen ps (signal_at d s) s (masks_of ms s) vs

-- the mask has the places of the first one that the second one lacks
abbrev pub IsWithout : ℕ → ℕ → ℕ → Type 0
IsWithout a b c = (i : ℕ) → i < 128 → is_set c i ≡ (is_set a i && not (is_set b i))

-- the mask has the places of both
abbrev pub HasBoth : ℕ → ℕ → ℕ → Type 0
HasBoth a b c = (i : ℕ) → is_set c i ≡ (is_set a i || is_set b i)
