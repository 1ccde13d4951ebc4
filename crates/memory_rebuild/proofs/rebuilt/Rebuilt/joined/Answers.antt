use Rattle.std.proofs.Common.{◌+◌, ◌<◌, ◌≤◌, subst, sym, ◌∙◌}
use Rattle.memory_rebuild.proofs.Reading.{SoFar, so_far_after, so_far_ended, so_far_first, so_far_joined, so_far_unknown}
use Rattle.memory_rebuild.proofs.rebuilt.Rebuilt.joined.Goals as goal
use Rattle.memory_rebuild.proofs.rebuilt.Rebuilt.joined.Goals.{After-join-joined}

-- one word more
joined : (c : After-join-joined) → SoFar c.args.self.now c.args.index.now c.join-joined.result (c.loop-place.place + 1)
joined c =
    so_far_joined c.args.self.now c.args.index.now c.loop-place.joined c.word.result c.join-joined.result c.loop-place.place c.blame.result c.shape-shape.result c.shape-shape.ensures.value c.loop-place.invariant
    (subst (λ n. c.loop-place.place < n) c.count.ensures.value c.loop-place-test.true) (sym c.may_name.ensures ∙ c.if-may_name.true) c.word.ensures.value c.word.ensures.width c.blame.ensures.value c.join-joined.ensures.value

pub loop-place-init : goal.loop-place-init
loop-place-init c = so_far_first c.args.self.now c.args.index.now c.strange-joined.result c.shape-shape.result c.shape-shape.ensures.value c.strange-joined.ensures

pub returns-then-sure-eq0 : goal.returns-then-sure-eq0
returns-then-sure-eq0 c =
    so_far_unknown c.args.self.now c.args.index.now c.join-joined.result (c.loop-place.place + 1) c.shape-shape.ensures.widths c.requires (joined ((goal.at.returns-then-sure-eq0 c).After-join-joined)) (sym c.sure.ensures ∙ c.if-sure-eq0.true)

pub loop-place-preserved-then-may_name : goal.loop-place-preserved-then-may_name
loop-place-preserved-then-may_name c = joined ((goal.at.loop-place-preserved-then-may_name c).After-join-joined)

pub loop-place-preserved : goal.loop-place-preserved
loop-place-preserved c =
    so_far_after c.args.self.now c.args.index.now c.loop-place.joined c.loop-place.place c.place_after-place.result c.shape-shape.result c.shape-shape.ensures.value c.loop-place.invariant c.place_after-place.ensures.later c.place_after-place.ensures.within c.place_after-place.ensures.none

pub returns : goal.returns
returns c =
    so_far_ended c.args.self.now c.args.index.now c.loop-place.joined c.loop-place.place c.shape-shape.result c.shape-shape.ensures.value c.requires c.loop-place.invariant (subst (λ n. n ≤ c.loop-place.place) c.count.ensures.value c.loop-place-test.false)
