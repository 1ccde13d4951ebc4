use Rattle.std.proofs.Common.{◌≡◌, ◌++◌, drop, take, length}
use Rattle.coverage_db.specs.Merge.{merged_points}
use Rattle.coverage_db.proofs.merging.merge_points.Given as goal

-- what is left is merged as all is, and there are as many points as before
abbrev pub invariant-loop-place : goal.invariant-loop-place
invariant-loop-place l = record {
  merged : take l.place l.points.items ++ merged_points (drop l.place l.points.items) (drop l.place l.others) ≡ merged_points l.fn.points l.others;
  long : length l.points.items ≡ length l.others;
}
