use Rattle.std.proofs.Common.{◌≡◌, ℕ, List, true, drop, length}
use Rattle.target_counts.specs.Counts.{Replaces}
use Rattle.target_counts.proofs.counts.TargetCounts.reset.Given as goal

-- with the rest replaced, all are
abbrev pub invariant-loop-named : goal.invariant-loop-named
invariant-loop-named l =
    record {
      order : l.self.order.items ≡ l.fn.self.order.items;
      size : length l.self.counts.items ≡ length l.fn.self.counts.items;
      rest : (end : List ℕ) → Replaces (λ n. true) 0 (drop l.named l.fn.self.order.items) l.self.counts.items end → Replaces (λ n. true) 0 l.fn.self.order.items l.fn.self.counts.items end;
    }
