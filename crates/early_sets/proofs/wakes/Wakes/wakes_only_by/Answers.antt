use Rattle.std.proofs.Common.{◌==◌, ◌∙◌, ◌&&◌, ℕ, Bool, ap, arith, not, sym}
use Rattle.std.specs.List.{list_all}
use Rattle.four_state.specs.declared.edge.Edge.{Edge}
use Rattle.four_state.specs.declared.edge.Edge.TheVariants.{Pos}
use Rattle.early_sets.specs.WakeState.{WakeState, can_wake_by, state_of}
use Rattle.early_sets.proofs.EventRows.{all_later, all_of_none, not_all, signal_below}
use Rattle.early_sets.proofs.wakes.Wakes.wakes_only_by.Goals as goal

-- the edge wakes by no other signal
abbrev passes : WakeState → ℕ → (Edge × ℕ) → Bool
passes w signal = λ e. not (not (e.1 == signal) && can_wake_by w e)

pub loop-edge-init : goal.loop-edge-init
loop-edge-init g c = (ap (list_all (passes (state_of c.args.self.now) c.args.signal)) c.row-edge-items.ensures, omega arith, omega arith)

pub wakes_beside-requires : goal.wakes_beside-requires
wakes_beside-requires g c = signal_below c.args.self.now.tables c.args.process c.loop-edge.edge-index c.row-edge-items.result.now (Pos, 0) c.row-edge-items.ensures c.loop-edge-test.true

pub returns-then-wakes_beside-clause-value : goal.returns-then-wakes_beside-clause-value
returns-then-wakes_beside-clause-value g c =
    sym (not_all (passes (state_of c.args.self.now) c.args.signal) c.row-edge-items.result.now c.loop-edge.edge-index (Pos, 0) c.loop-edge-test.true (ap not (sym c.wakes_beside.ensures ∙ c.if-wakes_beside.true)))
    ∙ c.loop-edge.invariant.0

pub loop-edge-preserved : goal.loop-edge-preserved
loop-edge-preserved g c = (
  all_later (passes (state_of c.args.self.now) c.args.signal) c.row-edge-items.result.now c.loop-edge.edge-index (Pos, 0) c.loop-edge-test.true (ap not (sym c.wakes_beside.ensures ∙ c.if-wakes_beside.false)) ∙ c.loop-edge.invariant.0,
  omega arith,
  omega (arith, c.count.ensures, c.loop-edge.invariant.2),
)

pub returns-clause-value : goal.returns-clause-value
returns-clause-value g c = sym (all_of_none (passes (state_of c.args.self.now) c.args.signal) c.row-edge-items.result.now c.loop-edge.edge-index (Pos, 0) (omega arith)) ∙ c.loop-edge.invariant.0
