use Rattle.std.proofs.Common.{◌<◌, false, length, arith}
use Rattle.std.specs.Prelude.{slice_index_or}
use Rattle.std.proofs.lemmas.List.{get_or_default}
use Rattle.step_words.proofs.Made.{unknown_pushed}
use Rattle.step_words.proofs.words.unknown_words.Goals as goal

pub loop-place-preserved : goal.loop-place-preserved
loop-place-preserved c =
    let l : c.loop-place.place < length c.args.memories.now = omega arith in
    unknown_pushed c.args.memories.now c.args.followed.now c.loop-place.place c.loop-place.words.items c.push.new.self.items c.in_ok-new.field-0 c.index-memories-place.result (slice_index_or c.args.followed.now c.loop-place.place false) l c.requires.count
    c.loop-place.invariant c.index-memories-place.is (get_or_default c.args.followed.now c.loop-place.place false _ (let many = c.requires.count in omega (arith, l, many))) c.in_ok-new.ensures c.in_ok-push.ensures.items
