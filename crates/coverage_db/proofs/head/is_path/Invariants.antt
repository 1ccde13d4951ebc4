use Rattle.std.proofs.Common.{◌≡◌, ◌==◌, length}
use Rattle.std.specs.List.{list_all, slice_split}
use Rattle.cov_host.specs.Identifier.{is_identifier}
use Rattle.coverage_db.specs.Table.{is_path}
use Rattle.coverage_db.proofs.head.is_path.Given as goal

abbrev pub invariant-loop-part : goal.invariant-loop-part
invariant-loop-part l = list_all is_identifier (slice_split (λ byte. byte == 46) l.rest) ≡ is_path l.text

abbrev pub decreases-loop-part : goal.decreases-loop-part
decreases-loop-part l = length l.rest
