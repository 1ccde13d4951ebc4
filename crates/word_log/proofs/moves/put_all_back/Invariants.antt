use Rattle.std.proofs.Common.{◌≡◌, ◌≤◌, ◌+◌, length, vec_capacity}
use Rattle.std.specs.List.{All}
use Rattle.word_log.specs.Entries.{Fits, Moved}
use Rattle.word_log.proofs.moves.put_all_back.Given as goal

-- what has been moved so far
abbrev pub invariant-loop-from : goal.invariant-loop-from
invariant-loop-from l =
    record {
      moved : Moved l.fn.from.items l.fn.to.items l.fn.memories l.from.items l.to.items l.memories;
      enough : l.left ≤ length l.from.items;
      sum : length l.to.items + length l.from.items ≡ length l.fn.to.items + length l.fn.from.items;
      capacity : vec_capacity l.to ≡ vec_capacity l.fn.to;
      capacity_from : vec_capacity l.from ≡ vec_capacity l.fn.from;
      fit : All (Fits l.memories) l.from.items;
      fit_to : All (Fits l.memories) l.to.items;
    }

-- each turn takes one entry
abbrev pub decreases-loop-from : goal.decreases-loop-from
decreases-loop-from l = length l.from.items
