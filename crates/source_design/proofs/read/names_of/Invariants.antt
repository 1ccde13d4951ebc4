use Rattle.std.proofs.Common.{◌≡◌, ◌-◌, ◌≤◌, length, map, take}
use Rattle.source_design.proofs.read.names_of.Given as goal

-- the names so far
abbrev pub invariant-each : goal.invariant-each
invariant-each l = record {
  names : l.names ≡ map (λ source. source.name) (take l.count l.sources);
  within : l.count ≤ length l.sources;
}

abbrev pub decreases-each : goal.decreases-each
decreases-each l = length l.sources - l.count
