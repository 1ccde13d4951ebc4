-- Which numbers of signals and memories what was met allows.
use Rattle.std.specs.Prelude.{◌≡◌, ◌≤◌, false}
use Rattle.elab_scope.specs.Tally.{Tally}
use Rattle.elab_instances.specs.declared.instantiation.Numbers.{Numbers}

-- where no limit is passed, there are no more signals and memories than were counted
abbrev pub AreCounted : Tally → Numbers → Type 0
AreCounted t n = t.ended ≡ false → (n.signal ≤ t.counts.signals) × (t.counts.signals ≤ 65536) × (n.memory ≤ t.counts.words) × (t.counts.words ≤ 262144)
