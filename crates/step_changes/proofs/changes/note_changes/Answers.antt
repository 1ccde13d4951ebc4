use Rattle.std.proofs.Common.{◌∙◌, ◌<◌, ◌++◌, [], ◌∷◌, length, map, take, ap, arith}
use Rattle.std.proofs.lemmas.List.{length-map, length-take, take_all}
use Rattle.step_changes.specs.Changes.{change_by}
use Rattle.step_changes.proofs.Found.{one_more}
use Rattle.step_changes.proofs.changes.note_changes.Goals as goal

pub push-requires : goal.push-requires
push-requires c =
    let size = ap length c.loop-place.invariant.1 ∙ length-map (take c.loop-place.place c.args.changed.now.items) (change_by c.args.codes.now c.args.values.now) in
    let front = length-take c.loop-place.place c.args.changed.now.items in
    let room = c.loop-place.invariant.0 in
    omega (arith, size, front, room, c.loop-place-test.true, c.len-place-end.ensures.value, c.len-place-end.ensures.within, c.requires.room)

pub loop-place-preserved : goal.loop-place-preserved
loop-place-preserved c =
    let xs = c.args.changed.now.items in
    let l : c.loop-place.place < length xs = omega (arith, c.loop-place-test.true, c.len-place-end.ensures.value) in (
      ap (λ q. q.room) c.push.ensures ∙ c.loop-place.invariant.0,
      ap (λ q. q.items) c.push.ensures
          ∙ ap (λ x. c.loop-place.changes.items ++ x ∷ []) (c.change_of.ensures ∙ ap (change_by c.args.codes.now c.args.values.now) c.get-signal.ensures.value)
          ∙ one_more c.args.codes.now c.args.values.now xs c.loop-place.place c.loop-place.changes.items l c.loop-place.invariant.1,
    )

pub returns-clause-changes : goal.returns-clause-changes
returns-clause-changes c = c.loop-place.invariant.1 ∙ ap (map (change_by c.args.codes.now c.args.values.now)) (take_all c.loop-place.place c.args.changed.now.items (omega (arith, c.loop-place-test.false, c.len-place-end.ensures.value)))
