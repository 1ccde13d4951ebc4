use Rattle.std.proofs.Common.{◌≡◌, ℕ, List, drop, length}
use Rattle.std.specs.Prelude.{nat_eq}
use Rattle.target_counts.specs.Counts.{Replaces}
use Rattle.target_counts.proofs.counts.TargetCounts.replace.Given as goal

-- with the rest replaced, all are
abbrev pub invariant-loop-named : goal.invariant-loop-named
invariant-loop-named l =
    record {
      order : l.self.order.items ≡ l.fn.self.order.items;
      size : length l.self.counts.items ≡ length l.fn.self.counts.items;
      rest : (end : List ℕ) → Replaces (nat_eq l.count) l.other (drop l.named l.fn.self.order.items) l.self.counts.items end → Replaces (nat_eq l.count) l.other (drop l.from l.fn.self.order.items) l.fn.self.counts.items end;
    }
