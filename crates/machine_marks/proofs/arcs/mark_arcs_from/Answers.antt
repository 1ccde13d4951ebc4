use Rattle.std.proofs.Common.{◌≡◌, ◌∙◌, ◌+◌, ◌&&◌, ap, ap₂, refl, subst, sym, arith}
use Rattle.std.proofs.lemmas.Bool.{false≢true}
use Rattle.cover_points.specs.declared.machine_point.MachinePoint.{MachinePoint}
use Rattle.cover_points.specs.declared.machine_point.MachinePoint.TheVariants.{Arc}
use Rattle.mark_laws.specs.replay_model.Step.{are_surely, may_be}
use Rattle.machine_marks.specs.Marked.{Chances, chances_from, is_arc_from, is_point, is_possible, is_sure}
use Rattle.machine_marks.proofs.Chances.{bits_read}
use Rattle.machine_marks.proofs.Marked.{both_marked, unmarked}
use Rattle.machine_marks.proofs.Tests.{arc_apart, is_same, next_arcs, no_arcs_from}
use Rattle.machine_marks.proofs.arcs.mark_arcs_from.Goals as goal

pub loop-to-init : goal.loop-to-init
loop-to-init c =
    let chances = chances_from (is_sure c.args.left) (is_possible c.args.left) c.args.values.now c.args.after.now.bits in (
      c.requires.marks,
      unmarked c.args.points.now c.args.reason.signal c.args.reason.time (is_arc_from c.args.number 0 c.args.from) chances c.args.marks.now.verdicts (λ q e. absurd (false≢true (sym (no_arcs_from c.args.number c.args.from q) ∙ e))),
    )

pub loop-to-preserved : goal.loop-to-preserved
loop-to-preserved c =
    let k = c.args.number in
    let from = c.args.from in
    let i = c.loop-to.to in
    let vs = c.args.values.now in
    let now = c.args.after.now.bits in
    let left = c.args.left in
    let chances = chances_from (is_sure left) (is_possible left) vs now in
    let chance = c.and-chance.result in
    let at = bits_read vs i c.index-values-to.result (omega (arith, c.loop-to-test.true)) c.index-values-to.is in
    let d : Chances = record { sure = is_sure chance; possible = is_possible chance } in
    let is : d ≡ chances (Arc k from i) =
    ap₂ (λ a b. record { sure = a; possible = b }) (c.and-chance.ensures.sure ∙ ap (λ b. is_sure left && b) (c.of.ensures.sure ∙ ap (λ bs. are_surely now bs) at)) (c.and-chance.ensures.possible ∙ ap (λ b. is_possible left && b) (c.of.ensures.possible ∙ ap (λ bs. may_be now bs) at)) in (
      c.mark_point.ensures.points,
      both_marked c.args.points.now c.args.reason.signal c.args.reason.time (is_arc_from k i from) (is_point (Arc k from i)) (is_arc_from k (i + 1) from) chances (λ q. d) chances c.args.marks.now.verdicts c.loop-to.marks.verdicts c.mark_point.new.marks.verdicts
          c.loop-to.invariant.1 c.mark_point.ensures.verdicts (arc_apart k i from) (next_arcs k i from) (λ q e. refl) (λ q e. subst (λ (r : MachinePoint). d ≡ chances r) (is_same (Arc k from i) q e) is),
    )
