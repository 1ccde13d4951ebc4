-- The verdicts of the toggle points of a signal after some of them are marked.
use Rattle.std.specs.Prelude.{◌≡◌, ◌<◌, ◌≤◌, ◌+◌, ◌-◌, ◌^◌, if◌then◌else◌, nat_le, ℕ, Bool, true, false, List, Option, Some, None, length, slice_index_or, slice_set}
use Rattle.four_state.specs.Masks.{is_set}
use Rattle.design_model.specs.declared.design.Signal.{Signal}
use Rattle.cover_marks.specs.cover_points.Visits.{IsVisitOf}
use Rattle.cover_marks.specs.cover_points.declared.listing.Points.{Points}
use Rattle.cover_marks.specs.cover_points.declared.visit.Visit.{Visit}
use Rattle.cover_marks.specs.cover_points.declared.visit.Visit.TheVariants.{Toggle}
use Rattle.point_marks.specs.Marking.{with_doubt}
use Rattle.point_marks.specs.declared.verdict.Verdict.{Verdict}
use Rattle.point_marks.specs.declared.verdict.Verdict.TheVariants.{Hit, Missed}
use Rattle.bit_changes.specs.declared.toggles.Toggles.{Toggles}
use Rattle.signal_marks.specs.declared.places.Toggling.{Toggling}

-- the declared index of the bit at a place above the lowest bit; 0 where the signal has no range
abbrev pub index_at : Signal → ℕ → ℕ
index_at x i = if x.ranged then (if nat_le x.low x.high then x.low + i else x.low - i) else 0

-- the index of this place is a number of 32 bits
abbrev pub HasIndex : Signal → ℕ → Type 0
HasIndex x i = (nat_le x.low x.high ≡ true → x.low + i < 2 ^ 32) × (nat_le x.low x.high ≡ false → i ≤ x.low)

-- each of the signal's bits has an index of 32 bits
abbrev pub IsIndexed : Signal → Type 0
IsIndexed x = (i : ℕ) → i < x.width → HasIndex x i

-- the visit of the bit at a place that toggles so
abbrev pub visit_at : Signal → Toggling → ℕ → Visit
visit_at x t i = Toggle t.signal (index_at x i) t.rise

-- each of the signal's bits has a point
abbrev pub ListsToggles : Points → Signal → Toggling → Type 0
ListsToggles ps x t = (i : ℕ) → i < x.width → (k : ℕ) × IsVisitOf ps k (visit_at x t i)

-- a verdict once its point is marked
abbrev pub marked_by : ℕ → Option ℕ → Verdict → Verdict
marked_by s None v = Hit
marked_by s (Some time) v = with_doubt (record { thing = s; time = time }) v

-- the verdict of the point with a number
abbrev pub verdict_of : List Verdict → ℕ → Verdict
verdict_of vs k = slice_index_or vs k Missed

-- the point with this number is marked, and no other
abbrev pub MarksBit : Toggling → ℕ → List Verdict → List Verdict → Type 0
MarksBit t k before after = after ≡ slice_set before k (marked_by t.signal t.doubt (verdict_of before k))

-- the points of the bits at the places of the mask are marked, and no others
pub record MarksPlaces (ps : Points) (x : Signal) (t : Toggling) (mask : ℕ) (before after : List Verdict) : Type 0 where
  pub count : length after ≡ length before
  pub marked : (i k : ℕ) → i < x.width → is_set mask i ≡ true → IsVisitOf ps k (visit_at x t i) → verdict_of after k ≡ marked_by t.signal t.doubt (verdict_of before k)
  pub others : (k : ℕ) → ((i : ℕ) → i < x.width → is_set mask i ≡ true → IsVisitOf ps k (visit_at x t i) → ⊥) → verdict_of after k ≡ verdict_of before k

-- each of the signal's bits has a point in both directions
abbrev pub ListsBoth : Points → Signal → ℕ → Type 0
ListsBoth ps x s = (rise : Bool) (i : ℕ) → i < x.width → (k : ℕ) × IsVisitOf ps k (Toggle s (index_at x i) rise)

-- a verdict after a step over which the bit of its point surely toggles so, or may toggle so
abbrev pub toggled : ℕ → ℕ → Bool → Bool → Verdict → Verdict
toggled s time sure possible v = if sure then Hit else (if possible then with_doubt (record { thing = s; time = time }) v else v)

-- the toggle points of the signal are marked, and no others
pub record MarksToggles (ps : Points) (x : Signal) (s time : ℕ) (t : Toggles) (before after : List Verdict) : Type 0 where
  pub count : length after ≡ length before
  pub rises : (i k : ℕ) → i < x.width → IsVisitOf ps k (Toggle s (index_at x i) true) → verdict_of after k ≡ toggled s time (is_set t.rises i) (is_set t.may_rise i) (verdict_of before k)
  pub falls : (i k : ℕ) → i < x.width → IsVisitOf ps k (Toggle s (index_at x i) false) → verdict_of after k ≡ toggled s time (is_set t.falls i) (is_set t.may_fall i) (verdict_of before k)
  pub others : (k : ℕ) → ((rise : Bool) (i : ℕ) → i < x.width → IsVisitOf ps k (Toggle s (index_at x i) rise) → ⊥) → verdict_of after k ≡ verdict_of before k
