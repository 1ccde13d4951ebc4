use Rattle.std.proofs.Common.{◌∙◌, ap, arith, sym}
use Rattle.four_state.specs.declared.edge.Edge.TheVariants.{Pos}
use Rattle.early_sets.specs.WakeState.{can_wake_by, first_signal, state_of}
use Rattle.early_sets.proofs.EventRows.{first_here, first_later, first_nowhere, signal_below}
use Rattle.early_sets.proofs.wakes.Wakes.find_waker.Goals as goal

pub loop-edge-init : goal.loop-edge-init
loop-edge-init g c = (ap (first_signal (can_wake_by (state_of c.args.self.now))) c.row-edge-items.ensures, omega arith, omega arith)

pub can_wake_by-requires : goal.can_wake_by-requires
can_wake_by-requires g c = signal_below c.args.self.now.tables c.args.process c.loop-edge.edge-index c.row-edge-items.result.now (Pos, 0) c.row-edge-items.ensures c.loop-edge-test.true

pub returns-then-can_wake_by-clause-value : goal.returns-then-can_wake_by-clause-value
returns-then-can_wake_by-clause-value g c =
    sym (first_here (can_wake_by (state_of c.args.self.now)) c.row-edge-items.result.now c.loop-edge.edge-index (Pos, 0) c.loop-edge-test.true (sym c.can_wake_by.ensures ∙ c.if-can_wake_by.true))
    ∙ c.loop-edge.invariant.0

pub returns-then-can_wake_by-clause-below : goal.returns-then-can_wake_by-clause-below
returns-then-can_wake_by-clause-below g c = signal_below c.args.self.now.tables c.args.process c.loop-edge.edge-index c.row-edge-items.result.now (Pos, 0) c.row-edge-items.ensures c.loop-edge-test.true

pub loop-edge-preserved : goal.loop-edge-preserved
loop-edge-preserved g c = (
  first_later (can_wake_by (state_of c.args.self.now)) c.row-edge-items.result.now c.loop-edge.edge-index (Pos, 0) c.loop-edge-test.true (sym c.can_wake_by.ensures ∙ c.if-can_wake_by.false) ∙ c.loop-edge.invariant.0,
  omega arith,
  omega (arith, c.count.ensures, c.loop-edge.invariant.2),
)

pub returns-clause-value : goal.returns-clause-value
returns-clause-value g c = sym (first_nowhere (can_wake_by (state_of c.args.self.now)) c.row-edge-items.result.now c.loop-edge.edge-index (Pos, 0) (omega arith)) ∙ c.loop-edge.invariant.0
