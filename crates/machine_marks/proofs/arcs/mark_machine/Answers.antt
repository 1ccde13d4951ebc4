use Rattle.std.proofs.Common.{length, refl, subst}
use Rattle.machine_marks.specs.Marked.{MarksThose, chances_in, chances_of, is_arc_of, is_of_machine, is_state_of}
use Rattle.machine_marks.proofs.Marked.{both_marked}
use Rattle.machine_marks.proofs.Tests.{arc_chances, kinds_apart, of_both}
use Rattle.machine_marks.proofs.arcs.mark_machine.Goals as goal

pub returns-clause-machine : goal.returns-clause-machine
returns-clause-machine c =
    let ps = c.args.points.now in
    let s = c.args.machine.now.signal in
    let t = c.args.time in
    let k = c.args.number in
    let vs = c.as_slice-values.result.now in
    let n = length vs in
    let old = c.args.before.now.bits in
    let now = c.args.after.now.bits in
    let before = c.args.marks.now.verdicts in
    let after = c.mark_arcs.new.marks.verdicts in
    let b = c.args.listed in
    subst (λ ws. MarksThose ps s t (is_of_machine k (length ws)) (chances_in b ws old now) before after) c.as_slice-values.ensures
    (both_marked ps s t (is_state_of k n) (is_arc_of k n) (is_of_machine k n) (chances_in b vs old now) (chances_of vs old now) (chances_in b vs old now) before c.mark_in_step.new.marks.verdicts after c.mark_in_step.ensures.states c.mark_arcs.ensures.arcs
    (kinds_apart k n) (of_both k n) (λ q e. refl) (arc_chances b k n vs old now))
