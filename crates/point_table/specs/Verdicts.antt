-- The verdicts of a table by those of the marks of its points.
use Rattle.std.specs.Prelude.{◌≡◌, ◌<◌, ℕ, true, false, List, [], length, slice_index_or, ⊤}
use Rattle.coverage_db.specs.declared.address.Subject.TheVariants.{Word}
use Rattle.coverage_db.specs.declared.db.DbPoint.{DbPoint}
use Rattle.coverage_db.specs.declared.verdict.DbVerdict.{DbVerdict}
use Rattle.coverage_db.specs.declared.verdict.DbVerdict.TheVariants as row
use Rattle.design_model.specs.Design.{Design, is_number, path_of}
use Rattle.point_marks.specs.Marking.{IsVerdict, Marking}
use Rattle.point_marks.specs.declared.verdict.Verdict.{Verdict}
use Rattle.point_marks.specs.declared.verdict.Verdict.TheVariants.{Hit, Missed, Undetermined}
use Rattle.point_table.specs.Addresses.{missed}

-- a verdict as a table has it: a doubt by the path of its signal or memory
abbrev pub row_verdict : Design → Verdict → DbVerdict
row_verdict d Hit = row.Hit
row_verdict d Missed = row.Missed
row_verdict d (Undetermined y) = row.Undetermined y.time (path_of d y.thing)

-- the thing of a doubt is a signal or a memory of the design
abbrev pub IsOfDesign : Design → Verdict → Type 0
IsOfDesign d Hit = ⊤
IsOfDesign d Missed = ⊤
IsOfDesign d (Undetermined y) = is_number d y.thing ≡ true

-- what a table gives past its end
abbrev pub no_row : DbPoint
no_row = missed (record { instance = 0; subject = Word [] 0 false })

-- the rows have these verdicts, in order
pub record AreShown (d : Design) (verdicts : List Verdict) (points : List DbPoint) : Type 0 where
  pub count : length points ≡ length verdicts
  pub each : (k : ℕ) → k < length points → (slice_index_or points k no_row).verdict ≡ row_verdict d (slice_index_or verdicts k Missed)

-- the verdict is that of the point with this number, by the markings
abbrev pub IsRowVerdict : Design → List Marking → ℕ → DbVerdict → Type 0
IsRowVerdict d markings k verdict = (v : Verdict) × IsVerdict markings k v × (verdict ≡ row_verdict d v)

-- each point has its verdict by the markings
abbrev pub HaveVerdicts : Design → List Marking → List DbPoint → Type 0
HaveVerdicts d markings points = (k : ℕ) → k < length points → IsRowVerdict d markings k (slice_index_or points k no_row).verdict
