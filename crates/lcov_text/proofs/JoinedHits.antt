-- Joined verdicts that are hits.
use Rattle.std.proofs.Common.{◌≡◌, ◌||◌, ℕ, Bool, true, false, cond, List, refl}
use Rattle.std.specs.Ordering.{is_gt}
use Rattle.coverage_db.specs.declared.verdict.DbVerdict.{DbVerdict}
use Rattle.coverage_db.specs.declared.verdict.DbVerdict.TheVariants.{Hit, Missed, Undetermined}
use Rattle.coverage_db.specs.Merge.{joined, doubt_cmp}
use Rattle.cov_report.specs.Report.{is_hit}

no_hit : (test : Bool) (t s : ℕ) (a b : List ℕ) → is_hit (cond test (Undetermined s b) (Undetermined t a)) ≡ false
no_hit true t s a b = refl
no_hit false t s a b = refl

pub joined_hits : (one other : DbVerdict) → is_hit (joined one other) ≡ (is_hit one || is_hit other)
joined_hits Hit v = refl
joined_hits Missed v = refl
joined_hits (Undetermined t a) Hit = refl
joined_hits (Undetermined t a) Missed = refl
joined_hits (Undetermined t a) (Undetermined s b) = no_hit (is_gt (doubt_cmp t a s b)) t s a b
