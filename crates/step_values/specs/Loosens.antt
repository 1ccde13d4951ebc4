-- What may be written in a step is made unknown.
use Rattle.std.specs.Prelude.{◌≡◌, ◌<◌, ℕ, Bool, true, List, length, map, Option}
use Rattle.event_machine.specs.Cell.{Cell}
use Rattle.design_model.specs.Design.{Design, signal_cells}
use Rattle.store_knowledge.specs.body_replay.Store.{Kept}
use Rattle.store_knowledge.specs.body_store.declared.store.Store.{Store}
use Rattle.store_knowledge.specs.Knows.{Knows}
use Rattle.step_values.specs.Loose.{forgetting, has_code, uncoded}
use Rattle.step_values.specs.Vectors.{FitsSignals, StepVectors, vector_at}

-- the cells that pass a test are made unknown: of what the store knows those that the dump does not have, and of what was made those
-- that it has
pub record Loosens (codes : List (Option ℕ)) (test : Cell → Bool) (x y : Store) (v w : StepVectors) : Type 0 where
  pub design : y.design ≡ x.design
  pub before : w.before ≡ v.before
  pub fits : (d : Design) → FitsSignals d v → FitsSignals d w
  pub knows : (d : Design) (k : Kept) → Knows d k x → Knows d (forgetting (uncoded codes test) k) y
  pub made : (d : Design) (m : Kept) (s : ℕ) → FitsSignals d v → s < length d.signals → has_code codes s ≡ true → (vector_at v.made s).bits ≡ map m (signal_cells d s) → (vector_at w.made s).bits ≡ map (forgetting test m) (signal_cells d s)
