use Rattle.std.proofs.Common.{◌≡◌, take}
use Rattle.value_store.specs.Signals.{SameUnder}
use Rattle.write_log.specs.Entries.{Joined, Seen}
use Rattle.write_log.proofs.common.join_all.Given as goal

-- what the first entries leave
abbrev pub invariant-loop-entry : goal.invariant-loop-entry
invariant-loop-entry l =
    record {
      joined : Joined l.test (take l.entry-index l.entries) l.fn.seen.items l.fn.signals l.signals;
      seen : Seen (take l.entry-index l.entries) l.fn.seen.items l.seen.items;
      size : l.seen.size ≡ l.fn.seen.size;
      under : SameUnder l.fn.signals l.signals;
    }
