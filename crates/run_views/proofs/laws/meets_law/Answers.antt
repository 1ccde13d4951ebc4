use Rattle.run_views.proofs.Running.{kept_law, run_law}
use Rattle.run_views.proofs.laws.meets_law.Goals as goal

pub returns : goal.returns
returns c = record { run = run_law; kept = kept_law }
