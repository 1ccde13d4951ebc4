use Rattle.std.proofs.Common.{◌≡◌, ◌<◌, ℕ, get_or, length}
use Rattle.design_model.specs.View.{design_view}
use Rattle.point_marks.specs.declared.verdict.Verdict.TheVariants.{Missed}
use Rattle.point_table.specs.Addresses.{addresses_of}
use Rattle.point_table.specs.Verdicts.{no_row, row_verdict}
use Rattle.point_table.proofs.verdicts.fill_verdicts.Given as goal

-- the points as before, and each so far with its verdict
abbrev pub invariant-loop-number : goal.invariant-loop-number
invariant-loop-number l = record {
  count : length l.points ≡ length l.initial.points;
  points : addresses_of l.points ≡ addresses_of l.initial.points;
  verdicts : (k : ℕ) → k < l.number → (get_or l.points k no_row).verdict ≡ row_verdict (design_view l.design) (get_or l.marks.verdicts k Missed);
}
