use Rattle.std.proofs.Common.{◌≡◌, take, None}
use Rattle.flat_design.specs.declared.entry.Thing.{Thing}
use Rattle.elab_conflicts.specs.Conflicts.{Summarizes, kept_in}
use Rattle.elab_conflicts.proofs.ConflictsFound.{first_conflict}
use Rattle.elab_conflicts.proofs.conflicts.first_conflict.Given as goal

abbrev pub invariant-loop-written : goal.invariant-loop-written
invariant-loop-written l = record {
  none : first_conflict l.conflict (take l.written-index l.written-items) ≡ None;
  kept : (t : Thing) → Summarizes (kept_in l.table t) t (take l.written-index l.written-items);
}
