use Rattle.body_store.proofs.Blank.{Blank}
use Rattle.body_store.proofs.veils.Veils.new.Given as goal

abbrev pub invariant-loop-place : goal.invariant-loop-place
invariant-loop-place l = Blank l.first l.place l.memories l.under.items
