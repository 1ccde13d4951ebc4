use Rattle.std.proofs.Common.{◌≡◌, ◌≤◌, refl, subst, sym, arith}
use Rattle.selfrun_design.specs.Selfrun.{selfrun}
use Rattle.selfrun_points.proofs.Lists.{few_points, found_count}
use Rattle.selfrun_points.proofs.points_law.Goals as goal

few : found_count selfrun ≤ 1048576
few = let count : found_count selfrun ≡ 98 = refl in subst (λ n. n ≤ 1048576) (sym count) (omega arith)

pub returns : goal.returns
returns c alloc lawful = few_points alloc selfrun lawful few
