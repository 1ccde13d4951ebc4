use Rattle.std.proofs.Common.{◌<◌, length, arith, length-set, ◌∙◌}
use Rattle.word_log.proofs.SeenSets.{cleared_more, same_sizes}
use Rattle.written_words.proofs.words.clear_all.Goals as goal

pub loop-place-preserved : goal.loop-place-preserved
loop-place-preserved c =
    let l = c.loop-place in
    let m = c.get.result in
    let new = c.clear.new.self in
    let old = c.index_mut.result.now in
    let below : l.place < length c.args.numbers.now.items = omega arith in
    let inside : m < length l.sets.items = omega arith in
    record {
      count = length-set l.sets.items m new ∙ l.invariant.count;
      sizes = same_sizes l.sets.items m old new inside c.index_mut.ensures.value c.clear.ensures.size ∙ l.invariant.sizes;
      cleared = cleared_more c.args.sets.now.items l.sets.items c.args.numbers.now.items l.place m new below c.get.ensures.value inside c.clear.ensures.items l.invariant.cleared;
    }
