use Rattle.value_store.proofs.Slots.{Made}
use Rattle.value_store.proofs.signals.Signals.new.Given as goal

abbrev pub invariant-loop-place : goal.invariant-loop-place
invariant-loop-place l = Made l.place l.signals l.slots.items
