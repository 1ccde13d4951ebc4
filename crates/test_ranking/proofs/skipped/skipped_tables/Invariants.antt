use Rattle.std.proofs.Common.{◌≡◌, not}
use Rattle.std.specs.List.{filter}
use Rattle.test_ranking.specs.Ranking.{is_used, places}
use Rattle.test_ranking.proofs.skipped.skipped_tables.Given as goal

abbrev pub invariant-loop-place : goal.invariant-loop-place
invariant-loop-place l = l.skipped ≡ filter (λ table. not (is_used l.used table)) (places l.place)
