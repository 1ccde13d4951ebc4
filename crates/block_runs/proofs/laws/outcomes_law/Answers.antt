use Rattle.std.proofs.Common.{ap}
use Rattle.design_model.specs.Design.{body_at}
use Rattle.body_replay.specs.Contract.{outcome}
use Rattle.body_replay.specs.Runs.{own_store, runs_of}
use Rattle.block_runs.specs.Met.{met}
use Rattle.block_runs.specs.Notes.{way_of}
use Rattle.block_runs.proofs.laws.outcomes_law.Goals as goal

pub returns : goal.returns
returns c = λ d lawful. (runs_of d, c.runs_lawful.ensures d lawful, λ p u v how e. ap (λ z. outcome z (body_at d p) (own_store (met u v)) (way_of how)) e)
