use Rattle.std.proofs.Common.{◌≡◌, take}
use Rattle.event_machine.specs.Cell.{Values}
use Rattle.four_state.specs.declared.bit.Bit.{Bit}
use Rattle.design_model.specs.Design.{Design}
use Rattle.store_knowledge.specs.body_replay.Store.{Kept}
use Rattle.store_knowledge.specs.Knows.{Knows}
use Rattle.step_values.specs.Dumped.{AreDumped, putting}
use Rattle.step_values.proofs.dump.put_dump.Given as goal

-- the values of the signals so far are put in
abbrev pub invariant-loop-signal : goal.invariant-loop-signal
invariant-loop-signal l =
    (l.store.design ≡ l.fn.store.design)
    × ((d : Design) (new : Values Bit) (k : Kept) → AreDumped d l.codes l.values.last new → Knows d k l.fn.store → Knows d (putting d (take l.signal-index l.changed) new k) l.store)
