-- the store stays ready
use Rattle.body_trials.specs.Ready.{IsReady}
use Rattle.body_trials.proofs.stores.keep_all.Given as goal

abbrev pub invariant-loop-one : goal.invariant-loop-one
invariant-loop-one l = IsReady l.design l.store
