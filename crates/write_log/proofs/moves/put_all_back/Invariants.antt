use Rattle.std.proofs.Common.{◌≡◌, ◌≤◌, ◌+◌, length, vec_capacity}
use Rattle.std.specs.List.{All}
use Rattle.write_log.specs.Entries.{Fits, Moved}
use Rattle.write_log.proofs.moves.put_all_back.Given as goal

-- what has been moved so far
abbrev pub invariant-loop-from : goal.invariant-loop-from
invariant-loop-from l =
    record {
      moved : Moved l.fn.from.items l.fn.to.items l.fn.signals l.from.items l.to.items l.signals;
      enough : l.left ≤ length l.from.items;
      sum : length l.to.items + length l.from.items ≡ length l.fn.to.items + length l.fn.from.items;
      capacity : vec_capacity l.to ≡ vec_capacity l.fn.to;
      capacity_from : vec_capacity l.from ≡ vec_capacity l.fn.from;
      fit : All (Fits l.signals) l.from.items;
      fit_to : All (Fits l.signals) l.to.items;
    }

-- each turn takes one entry
abbrev pub decreases-loop-from : goal.decreases-loop-from
decreases-loop-from l = length l.from.items
