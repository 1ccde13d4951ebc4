-- The parts of the code within the first step, beside its definition.
use Rattle.std.specs.Prelude.{◌≡◌, ◌<◌, ℕ, Bool, true, length}
use Rattle.design_model.specs.Design.{Design}
use Rattle.body_store.specs.declared.store.Store.{Store}
use Rattle.step_parts.specs.replay_model.Start.{Starting}
use Rattle.step_parts.specs.replay_model.Step.{known_bits}
use Rattle.settled_runs.specs.store_knowledge.Knows.{Knows}
use Rattle.settled_targets.specs.step_values.Vectors.{FitsSignals, StepVectors, vector_at}

-- the store knows what is kept, and of the bound signals the vectors are what Assigns have made
pub record AtFirst (d : Design) (bound : ℕ → Bool) (w : Starting) (x : Store) (v : StepVectors) : Type 0 where
  pub knows : Knows d w.kept x
  pub fits : FitsSignals d v
  pub made : (s : ℕ) → s < length d.signals → bound s ≡ true → (vector_at v.made s).bits ≡ known_bits d w.made s
