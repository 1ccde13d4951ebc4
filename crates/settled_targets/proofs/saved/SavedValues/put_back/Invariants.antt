use Rattle.std.proofs.Common.{take}
use Rattle.process_targets.specs.Targets.{names, row_has}
use Rattle.settled_targets.specs.Returned.{Returns}
use Rattle.settled_targets.specs.Saved.{AreSaved}
use Rattle.settled_targets.proofs.saved.SavedValues.put_back.Given as goal

-- the signals so far have their values back
abbrev pub invariant-loop-place : goal.invariant-loop-place
invariant-loop-place l =
    Returns l.codes (names (take l.place l.targets)) (row_has (take l.place l.targets)) l.is_kept l.is_made (λ d k. AreSaved d k l.targets l.self) l.fn.store l.store l.fn.values l.values
