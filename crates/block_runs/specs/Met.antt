-- The run of a block on a store, as the definition of a run has it.
use Rattle.design_model.specs.Design.{body}
use Rattle.design_model.specs.Tree.{Process}
use Rattle.body_replay.specs.Contract.{Outcome, outcome}
use Rattle.body_replay.specs.Runs.{StoreView, own_store}
use Rattle.term_replay.specs.Stands.{Scene}
use Rattle.body_calls.specs.Under.{Under, kept_with}
use Rattle.block_runs.specs.Notes.{way_of}
use Rattle.block_runs.specs.declared.certainty.Certainty.{Certainty}

-- a store as the definition meets it: what is kept, what is shown or veiled, and what bodies read
abbrev pub met : Under → Scene → StoreView
met u v = record { kept = (kept_with u v).kept; hidden = u.hidden; shown = v.kept }

-- the outcome of the run of a process on it
abbrev pub outcome_on : Under → Scene → Process → Certainty → Outcome
outcome_on u v p how = outcome v.design (body p) (own_store (met u v)) (way_of how)
