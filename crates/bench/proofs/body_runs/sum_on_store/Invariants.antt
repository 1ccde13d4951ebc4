-- the store stays idle
use Rattle.design_model.specs.View.{design_view}
use Rattle.bench.specs.Idle.{IsIdle}
use Rattle.bench.proofs.body_runs.sum_on_store.Given as goal

abbrev pub invariant-loop : goal.invariant-loop
invariant-loop g l = IsIdle (design_view l.design) l.store
