use Rattle.std.proofs.Common.{◌↔◌, ℕ, List, subst, sym}
use Rattle.std.specs.List.{Contains}
use Rattle.machine_index.specs.Index.{HasSignal}
use Rattle.machine_index.proofs.index.MachineIndex.of_signal.Goals as goal

pub returns : goal.returns
returns c = λ machines signals k h l. subst (λ (ys : List ℕ). Contains ys k ↔ HasSignal machines k c.args.signal) (sym c.row.ensures) (h.has c.args.signal k l)
