use Rattle.std.proofs.Common.{◌<◌, ◌^◌, ap, ◌∙◌, arith}
use Rattle.std.proofs.lemmas.List.{length-replicate}
use Rattle.std.specs.Prelude.{false}
use Rattle.test_ranking.specs.PointSet.{no_points}
use Rattle.test_ranking.specs.Words.{marks_of}
use Rattle.test_ranking.proofs.Packing.{marks_of_words, word_count, words_packed, zero_words}
use Rattle.test_ranking.proofs.hit_set.HitSet.none.Goals as goal

pub invariant_of-result : goal.invariant_of-result
invariant_of-result c =
    let points = c.args.points in
    let count = c.div_ceil-count.result in
    let few : points < 2 ^ 32 = omega arith in
    let enough = word_count points count c.div_ceil-count.ensures in
    words_packed count points (no_points points) c.in_ok-vec.field-0.items (c.in_ok-vec.ensures.items_if_clones_equal (λ y is. is) ∙ zero_words count points) (length-replicate points false) few enough.0 enough.1

pub returns : goal.returns
returns c =
    let points = c.args.points in
    let count = c.div_ceil-count.result in
    ap (marks_of points) (c.in_ok-vec.ensures.items_if_clones_equal (λ y is. is) ∙ zero_words count points) ∙ marks_of_words count points (no_points points) (length-replicate points false) (word_count points count c.div_ceil-count.ensures).0
