use Rattle.wake_bits.proofs.Cells.{each_wake_law, some_wake_law}
use Rattle.wake_bits.proofs.laws.wake_law.Goals as goal

pub returns : goal.returns
returns c = record { some = some_wake_law; each = each_wake_law }
