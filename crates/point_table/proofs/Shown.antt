-- The verdicts of a table.
use Rattle.std.proofs.Common.{◌≡◌, ◌<◌, ◌+◌, ℕ, inl, inr, List, length, get_or, set, sym, subst, arith}
use Rattle.std.proofs.lemmas.Bool.{cases_lt}
use Rattle.std.proofs.lemmas.List.{get_or-set_other, get_or-set_same}
use Rattle.coverage_db.specs.declared.db.DbPoint.{DbPoint}
use Rattle.coverage_db.specs.declared.verdict.DbVerdict.{DbVerdict}
use Rattle.design_model.specs.Design.{Design}
use Rattle.point_marks.specs.Marking.{IsMarked, Marking}
use Rattle.point_marks.specs.declared.verdict.Verdict.{Verdict}
use Rattle.point_marks.specs.declared.verdict.Verdict.TheVariants.{Missed}
use Rattle.point_table.specs.Verdicts.{AreShown, HaveVerdicts}

-- a fact of all verdicts up to a place, and of the one that is put there
pub verdict_more : (P : ℕ → DbVerdict → Type 0) (points : List DbPoint) (i : ℕ) (y d : DbPoint) → i < length points → ((k : ℕ) → k < i → P k (get_or points k d).verdict) → P i y.verdict → (k : ℕ) → k < i + 1 → P k (get_or (set points i y) k d).verdict
verdict_more P points i y d l before here k n = elim (cases_lt k i) [
  | inl a ↦ let e = get_or-set_other points i k y d (λ q. absurd (omega (arith, a, q))) in subst (λ p. P k p.verdict) (sym e) (before k a)
  | inr a ↦ let e : i ≡ k = omega arith in subst (λ j. P j (get_or (set points i y) j d).verdict) e (subst (λ p. P i p.verdict) (sym (get_or-set_same points i y d l)) here)
]

-- the verdicts of marks are those by the markings that led to them
pub by_markings : (d : Design) (verdicts : List Verdict) (points : List DbPoint) (markings : List Marking) → AreShown d verdicts points → IsMarked markings verdicts → HaveVerdicts d markings points
by_markings d verdicts points markings shown marked = λ k l. (get_or verdicts k Missed, marked k (omega (arith, l, shown.count)), shown.each k l)
