-- the store stays idle
use Rattle.design_model.specs.View.{design_view}
use Rattle.bench.specs.Idle.{IsIdle}
use Rattle.bench.proofs.body_stores.put_inputs.Given as goal

abbrev pub invariant-loop-number : goal.invariant-loop-number
invariant-loop-number l = IsIdle (design_view l.design) l.store
