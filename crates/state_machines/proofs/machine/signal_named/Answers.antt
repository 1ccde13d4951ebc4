use Rattle.std.proofs.Common.{ℕ}
use Rattle.design_model.specs.Points.{IsNameOf}
use Rattle.design_model.specs.View.{design_view}
use Rattle.state_machines.specs.Lookups.{IsAliasAt}
use Rattle.state_machines.proofs.Found.{none_weaker, unnamed}
use Rattle.state_machines.proofs.machine.signal_named.Goals as goal

pub returns-in-None-clause-none : goal.returns-in-None-clause-none
returns-in-None-clause-none c =
    let d = design_view c.args.design.now in
    let i = c.args.instance in
    let name = c.args.name.now in
    none_weaker ((k : ℕ) → IsAliasAt d.aliases i name k → ⊥) ((s : ℕ) → IsNameOf d i name s → ⊥) (unnamed d c.as_slice.result.now c.as_slice.ensures i name c.in-None.ensures.none) c.aliased_signal.result c.aliased_signal.ensures.none
