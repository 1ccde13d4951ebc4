use Rattle.std.proofs.Common.{◌≡◌, ◌∙◌, ◌+◌, ap, ap₂, refl, subst, sym, arith}
use Rattle.std.proofs.lemmas.Bool.{false≢true}
use Rattle.cover_points.specs.declared.machine_point.MachinePoint.{MachinePoint}
use Rattle.cover_points.specs.declared.machine_point.MachinePoint.TheVariants.{State}
use Rattle.mark_laws.specs.replay_model.Step.{are_surely, may_be}
use Rattle.machine_marks.specs.Marked.{Chances, chances_of, is_point, is_possible, is_state_of, is_sure}
use Rattle.machine_marks.proofs.Chances.{bits_read}
use Rattle.machine_marks.proofs.Marked.{both_marked, unmarked}
use Rattle.machine_marks.proofs.Tests.{is_same, next_states, no_states, state_apart}
use Rattle.machine_marks.proofs.states.mark_values.Goals as goal

pub loop-state-init : goal.loop-state-init
loop-state-init c =
    let now = c.args.now.now.bits in (
      c.requires.marks,
      unmarked c.args.points.now c.args.reason.signal c.args.reason.time (is_state_of c.args.number 0) (chances_of c.args.values.now now now) c.args.marks.now.verdicts (λ q e. absurd (false≢true (sym (no_states c.args.number q) ∙ e))),
    )

pub loop-state-preserved : goal.loop-state-preserved
loop-state-preserved c =
    let k = c.args.number in
    let i = c.loop-state.state in
    let vs = c.args.values.now in
    let now = c.args.now.now.bits in
    let chance = c.of-chance.result in
    let at = bits_read vs i c.index-values-state.result (omega (arith, c.loop-state-test.true)) c.index-values-state.is in
    let d : Chances = record { sure = is_sure chance; possible = is_possible chance } in
    let is : d ≡ chances_of vs now now (State k i) = ap₂ (λ a b. record { sure = a; possible = b }) (c.of-chance.ensures.sure ∙ ap (λ bs. are_surely now bs) at) (c.of-chance.ensures.possible ∙ ap (λ bs. may_be now bs) at) in (
      c.mark_point.ensures.points,
      both_marked c.args.points.now c.args.reason.signal c.args.reason.time (is_state_of k i) (is_point (State k i)) (is_state_of k (i + 1)) (chances_of vs now now) (λ q. d) (chances_of vs now now) c.args.marks.now.verdicts c.loop-state.marks.verdicts c.mark_point.new.marks.verdicts
          c.loop-state.invariant.1 c.mark_point.ensures.verdicts (state_apart k i) (next_states k i) (λ q e. refl) (λ q e. subst (λ (r : MachinePoint). d ≡ chances_of vs now now r) (is_same (State k i) q e) is),
    )
