use Rattle.std.proofs.Common.{◌≡◌, ◌++◌, drop, map}
use Rattle.std.specs.List.{filter}
use Rattle.lcov_text.specs.declared.traced.Traced.{Traced}
use Rattle.lcov_text.proofs.hit_lines.lines_of_hits.Given as goal

abbrev pub invariant-loop-point : goal.invariant-loop-point
invariant-loop-point l =
    l.lines.items ++ map (λ (p : Traced). p.at) (filter (λ (p : Traced). p.is_hit) (drop l.point-index l.points)) ≡ map (λ (p : Traced). p.at) (filter (λ (p : Traced). p.is_hit) l.points)
