use Rattle.std.proofs.Common.{◌∙◌, ◌+◌, length, ap, refl, sym, arith}
use Rattle.std.proofs.lemmas.Bool.{false≢true}
use Rattle.mark_laws.specs.replay_model.Step.{are_surely, may_be}
use Rattle.machine_marks.specs.Marked.{chances_from, chances_of, is_arc_below, is_arc_from, is_possible, is_sure}
use Rattle.machine_marks.proofs.Chances.{bits_read}
use Rattle.machine_marks.proofs.Marked.{both_marked, unmarked}
use Rattle.machine_marks.proofs.Tests.{from_chances, left_apart, next_left, no_arcs}
use Rattle.machine_marks.proofs.arcs.mark_arcs.Goals as goal

pub loop-from-init : goal.loop-from-init
loop-from-init c =
    let chances = chances_of c.args.values.now c.args.before.now.bits c.args.after.now.bits in (
      c.requires.marks,
      unmarked c.args.points.now c.args.reason.signal c.args.reason.time (is_arc_below c.args.number (length c.args.values.now) 0) chances c.args.marks.now.verdicts (λ q e. absurd (false≢true (sym (no_arcs c.args.number (length c.args.values.now) q) ∙ e))),
    )

pub loop-from-preserved : goal.loop-from-preserved
loop-from-preserved c =
    let k = c.args.number in
    let i = c.loop-from.from in
    let vs = c.args.values.now in
    let n = length vs in
    let old = c.args.before.now.bits in
    let now = c.args.after.now.bits in
    let left = c.of-left.result in
    let at = bits_read vs i c.index-values-from.result (omega (arith, c.loop-from-test.true)) c.index-values-from.is in (
      c.mark_arcs_from.ensures.points,
      both_marked c.args.points.now c.args.reason.signal c.args.reason.time (is_arc_below k n i) (is_arc_from k n i) (is_arc_below k n (i + 1)) (chances_of vs old now) (chances_from (is_sure left) (is_possible left) vs now) (chances_of vs old now) c.args.marks.now.verdicts c.loop-from.marks.verdicts
          c.mark_arcs_from.new.marks.verdicts c.loop-from.invariant.1 c.mark_arcs_from.ensures.arcs (left_apart k n i) (next_left k n i) (λ q e. refl) (from_chances k n i vs old now (is_sure left) (is_possible left) (c.of-left.ensures.sure ∙ ap (λ bs. are_surely old bs) at) (c.of-left.ensures.possible ∙ ap (λ bs. may_be old bs) at)),
    )
