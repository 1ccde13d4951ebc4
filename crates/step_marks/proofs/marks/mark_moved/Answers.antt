use Rattle.std.proofs.Common.{◌∙◌, get_or, refl, subst}
use Rattle.std.proofs.lemmas.List.{get_or_default, take_all}
use Rattle.toggle_laws.specs.Turns.{MarksInTurn}
use Rattle.step_marks.proofs.Turns.{more_marked, one_over}
use Rattle.step_marks.proofs.marks.mark_moved.Goals as goal

pub loop-thing-init : goal.loop-thing-init
loop-thing-init c = (refl, λ ps m. m, λ st ps over. (refl, record { marks = over.marks; seen = over.seen }))

pub mark_thing-requires-clause-listed : goal.mark_thing-requires-clause-listed
mark_thing-requires-clause-listed c = (c.requires.listed.0, c.requires.listed.1, c.requires.listed.2, c.loop-thing.invariant.1 c.requires.listed.1 c.requires.listed.3)

pub loop-thing-preserved : goal.loop-thing-preserved
loop-thing-preserved c =
    let i = c.loop-thing.thing-index in
    let moves = c.args.moves.now in
    let thing = get_or moves i 0 in
    let l = c.loop-thing-test.true in
    let e = get_or_default moves i 0 thing l in (
      c.mark_thing.ensures.count ∙ c.loop-thing.invariant.0,
      λ ps m. c.mark_thing.ensures.points ps (c.loop-thing.invariant.1 ps m),
      λ st ps over.
          let before = c.loop-thing.invariant.2 st ps over in
          let one = one_over st ps moves c.args.time i thing c.args.on_list c.args.store.now c.args.values.now c.args.seen.now c.loop-thing.seen c.args.marks.now c.loop-thing.marks l e over before.1 in
          (more_marked st ps moves i thing c.args.marks.now.verdicts c.loop-thing.marks.verdicts c.mark_thing.new.marks.verdicts l e before.0 (c.mark_thing.ensures.toggles st ps one), c.mark_thing.ensures.seen st ps one),
    )

pub returns-clause-toggles : goal.returns-clause-toggles
returns-clause-toggles c = λ st ps over. subst (λ ss. MarksInTurn st ps ss c.args.marks.now.verdicts c.loop-thing.marks.verdicts) (take_all c.loop-thing.thing-index c.args.moves.now c.loop-thing-test.false) (c.loop-thing.invariant.2 st ps over).0

pub returns-clause-seen : goal.returns-clause-seen
returns-clause-seen c = λ st ps over. (c.loop-thing.invariant.2 st ps over).1
