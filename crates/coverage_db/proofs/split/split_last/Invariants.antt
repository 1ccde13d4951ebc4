use Rattle.std.proofs.Common.{◌≡◌, ℕ, List, take, drop}
use Rattle.std.specs.Prelude.{option_map}
use Rattle.coverage_db.specs.Fields.{split_last}
use Rattle.coverage_db.proofs.Splitting.{or_before}
use Rattle.coverage_db.proofs.split.split_last.Given as goal

abbrev pub invariant-loop-place : goal.invariant-loop-place
invariant-loop-place l = or_before (take l.place l.bytes) (option_map {U = List ℕ × List ℕ} (λ parts. (parts.0.now, parts.1.now)) l.parts) (split_last l.value (drop l.place l.bytes)) ≡ split_last l.value l.bytes
