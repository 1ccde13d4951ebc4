use Rattle.wake_laws.proofs.EarlyLaw.{early_law}
use Rattle.wake_laws.proofs.MovesLaw.{moves_law}
use Rattle.wake_laws.proofs.RoundsLaw.{rounds_law}
use Rattle.wake_laws.proofs.WakesLaw.{wakes_law}
use Rattle.wake_laws.proofs.laws.wakes_law.Goals as goal

pub returns : goal.returns
returns c = record { rounds = rounds_law; moves = moves_law; wakes = wakes_law; early = early_law }
