use Rattle.std.proofs.Common.{◌<◌, List, length, ap, subst, sym, arith}
use Rattle.cover_points.specs.design_machines.declared.machine.Machine.{Machine}
use Rattle.design_model.specs.Design.{Design}
use Rattle.design_model.specs.View.{design_view}
use Rattle.machine_marks.specs.Marked.{MarksStates}
use Rattle.step_parts.specs.replay_model.Step.{known_bits}
use Rattle.step_machines.proofs.Fits.{found_at, found_few, found_signal, found_wide, known_width}
use Rattle.step_machines.proofs.Marked.{all_machines, next_machine}
use Rattle.step_machines.proofs.machines.mark_all_states.Goals as goal

pub known_signal-now-requires : goal.known_signal-now-requires
known_signal-now-requires c =
    let list = c.requires.listed in
    let x = c.machine-item.result in
    let inside = found_signal (design_view c.args.design.now) list.0 c.args.points.now list.1 c.loop-number.number x c.deref-machine-items.result.now c.deref-machine-items.ensures.value c.loop-number-test.true c.machine-item.is in
    subst (λ (e : Design). x.signal < length e.signals) (sym c.requires.known.1.design) inside

pub mark_states-requires-clause-widths : goal.mark_states-requires-clause-widths
mark_states-requires-clause-widths c =
    let d = design_view c.args.design.now in
    let list = c.requires.listed in
    let x = c.machine-item.result in
    let now = c.known_signal-now.result.bits in
    found_wide d list.0 c.args.points.now list.1 c.loop-number.number x c.deref-machine-items.result.now c.deref-machine-items.ensures.value c.loop-number-test.true c.machine-item.is (length now) (known_width d c.requires.known.0 x.signal now (c.known_signal-now.ensures d c.requires.known.0 c.requires.known.1))

pub mark_states-requires-clause-few : goal.mark_states-requires-clause-few
mark_states-requires-clause-few c =
    let list = c.requires.listed in
    found_few (design_view c.args.design.now) list.0 c.args.points.now list.1 c.loop-number.number c.machine-item.result c.deref-machine-items.result.now c.deref-machine-items.ensures.value c.loop-number-test.true c.machine-item.is

pub loop-number-preserved : goal.loop-number-preserved
loop-number-preserved c = (
  c.mark_states.ensures.points,
  λ k knows.
      let d = design_view c.args.design.now in
      let list = c.requires.listed in
      let ps = c.args.points.now in
      let i = c.loop-number.number in
      let x = c.machine-item.result in
      let middle = c.loop-number.marks.verdicts in
      let after = c.mark_states.new.marks.verdicts in
      let at = found_at d list.0 ps list.1 i x c.deref-machine-items.result.now c.deref-machine-items.ensures.value c.loop-number-test.true c.machine-item.is in
      next_machine d list.0 ps list.1 k c.args.time i c.args.marks.now.verdicts middle after (c.loop-number.invariant.1 k knows)
      (subst (λ (y : Machine). MarksStates ps i y c.args.time (known_bits d k y.signal) middle after) at
      (subst (λ bs. MarksStates ps i x c.args.time bs middle after) (c.known_signal-now.ensures d k knows) c.mark_states.ensures.states)),
)

pub returns-clause-states : goal.returns-clause-states
returns-clause-states c = λ k knows.
    let list = c.requires.listed in
    let size = ap (λ (xs : List Machine). length xs) c.deref-machine-items.ensures.value in
    all_machines (design_view c.args.design.now) list.0 c.args.points.now list.1 k c.args.time c.loop-number.number c.args.marks.now.verdicts c.loop-number.marks.verdicts (omega (arith, c.loop-number-test.false, size)) (c.loop-number.invariant.1 k knows)
