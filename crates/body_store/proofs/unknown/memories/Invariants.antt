use Rattle.body_store.proofs.Blank.{Filled}
use Rattle.body_store.proofs.unknown.memories.Given as goal

abbrev pub invariant-loop-place : goal.invariant-loop-place
invariant-loop-place l = Filled l.first l.place l.memories l.made.items
