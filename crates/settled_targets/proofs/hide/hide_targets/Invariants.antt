use Rattle.std.proofs.Common.{◌≡◌, take}
use Rattle.design_model.specs.Design.{Design}
use Rattle.step_values.specs.body_replay.Store.{Kept}
use Rattle.process_targets.specs.Targets.{names}
use Rattle.step_values.specs.store_knowledge.Knows.{Knows}
use Rattle.settled_targets.specs.Saved.{hiding}
use Rattle.settled_targets.proofs.hide.hide_targets.Given as goal

-- the signals so far are made unknown
abbrev pub invariant-loop-bits : goal.invariant-loop-bits
invariant-loop-bits l =
    (l.store.design ≡ l.fn.store.design)
    × ((d : Design) (k : Kept) → Knows d k l.fn.store → Knows d (hiding (names (take l.bits-index l.targets)) k) l.store)
