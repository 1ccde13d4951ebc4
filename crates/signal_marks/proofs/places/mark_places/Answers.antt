use Rattle.std.proofs.Common.{arith, subst, sym}
use Rattle.signal_marks.specs.Toggled.{MarksPlaces}
use Rattle.signal_marks.proofs.Marked.{empty_marked, lacks_at, one_marked, passed, set_at}
use Rattle.signal_marks.proofs.places.mark_places.Goals as goal
use Rattle.signal_marks.proofs.places.mark_places.Goals.{then-mask-place-eq1, else-mask-place-eq1}

pub returns-then-mask-eq0-clause-verdicts : goal.returns-then-mask-eq0-clause-verdicts
returns-then-mask-eq0-clause-verdicts c =
    λ ps of lists. let vs = c.args.marks.now.verdicts in
    subst (λ m. MarksPlaces ps c.args.shape.now c.args.toggling m vs vs) (sym c.if-mask-eq0.true) (empty_marked ps c.args.shape.now c.args.toggling vs)

pub mark_bit-requires : goal.mark_bit-requires
mark_bit-requires c =
    let l = c.requires.listed in
    let at = l.2 c.loop-place.place c.loop-place-test.true in
    rw c.index_at.ensures (l.0, at.0, c.loop-place.invariant.0 l.0 l.1, at.1)

pub loop-place-preserved : goal.loop-place-preserved
loop-place-preserved c =
    elim c.if-mask-place-eq1.branch [
      | then-mask-place-eq1 w ↦ rw w.marks-is (
        λ ps of. w.mark_bit.ensures.points ps (c.loop-place.invariant.0 ps of),
        λ ps of lists. let at = lists c.loop-place.place c.loop-place-test.true in
            let now = c.loop-place.invariant.0 ps of in
            one_marked ps c.args.shape.now c.args.toggling c.args.mask c.loop-place.place at.0 c.args.marks.now.verdicts c.loop-place.marks.verdicts w.mark_bit.new.marks.verdicts (set_at c.args.mask c.loop-place.place w.if-mask-place-eq1.true) at.1 (λ k visit. omega (arith, visit.0, now.count)) (λ k visit. w.mark_bit.ensures.verdicts ps k now (rw w.index_at.ensures visit)) (c.loop-place.invariant.1 ps of lists),
      )
      | else-mask-place-eq1 w ↦ rw w.marks-is (
        c.loop-place.invariant.0,
        λ ps of lists. passed ps c.args.shape.now c.args.toggling c.args.mask c.loop-place.place c.args.marks.now.verdicts c.loop-place.marks.verdicts (lacks_at c.args.mask c.loop-place.place w.if-mask-place-eq1.false) (c.loop-place.invariant.1 ps of lists),
      )
    ]
