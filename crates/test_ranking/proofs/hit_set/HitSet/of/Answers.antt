use Rattle.std.proofs.Common.{◌<◌, ◌^◌, ap, length, subst, sym, ◌∙◌}
use Rattle.std.proofs.lemmas.List.{length-map}
use Rattle.test_ranking.specs.Hits.{hits_among, is_hit}
use Rattle.test_ranking.specs.Words.{marks_of}
use Rattle.test_ranking.proofs.Packing.{marks_of_words, word_count, words_packed}
use Rattle.test_ranking.proofs.hit_set.HitSet.of.Goals as goal

pub invariant_of-result : goal.invariant_of-result
invariant_of-result c =
    let points = c.as_slice-points.result.now in
    let count = c.div_ceil-count.result in
    let few : length points < 2 ^ 32 = subst (λ ps. length ps < 2 ^ 32) (sym c.as_slice-points.ensures) c.requires in
    let enough = word_count (length points) count c.div_ceil-count.ensures in
    words_packed count (length points) (hits_among points) c.in_ok-words_of.field-0.items c.in_ok-words_of.ensures (length-map points (λ p. is_hit p.verdict)) few enough.0 enough.1

pub returns : goal.returns
returns c =
    let points = c.as_slice-points.result.now in
    let count = c.div_ceil-count.result in
    let enough = word_count (length points) count c.div_ceil-count.ensures in
    ap (marks_of (length points)) c.in_ok-words_of.ensures ∙ marks_of_words count (length points) (hits_among points) (length-map points (λ p. is_hit p.verdict)) enough.0
    ∙ ap hits_among c.as_slice-points.ensures
