use Rattle.std.proofs.Common.{Bool, length, subst, sym}
use Rattle.machine_marks.specs.Marked.{MarksThose, chances_in, chances_of, is_state_of}
use Rattle.machine_marks.proofs.Marked.{same_marks}
use Rattle.machine_marks.proofs.Tests.{state_chances}
use Rattle.machine_marks.proofs.states.mark_in_step.Goals as goal

pub returns-then-listed-clause-states : goal.returns-then-listed-clause-states
returns-then-listed-clause-states c =
    let k = c.args.number in
    let vs = c.args.values.now in
    let old = c.args.before.now.bits in
    let now = c.args.after.now.bits in
    subst (λ (b : Bool). MarksThose c.args.points.now c.args.reason.signal c.args.reason.time (is_state_of k (length vs)) (chances_in b vs old now) c.args.marks.now.verdicts c.mark_values.new.marks.verdicts) (sym c.if-listed.true)
    (same_marks c.args.points.now c.args.reason.signal c.args.reason.time (is_state_of k (length vs)) (chances_of vs now now) (chances_of vs old now) c.args.marks.now.verdicts c.mark_values.new.marks.verdicts (state_chances k (length vs) vs old now) c.mark_values.ensures.states)

pub returns-clause-states : goal.returns-clause-states
returns-clause-states c =
    let k = c.args.number in
    let vs = c.args.values.now in
    let old = c.args.before.now.bits in
    let now = c.args.after.now.bits in
    subst (λ (b : Bool). MarksThose c.args.points.now c.args.reason.signal c.args.reason.time (is_state_of k (length vs)) (chances_in b vs old now) c.args.marks.now.verdicts c.mark_comers.new.marks.verdicts) (sym c.if-listed.false)
    c.mark_comers.ensures.states
