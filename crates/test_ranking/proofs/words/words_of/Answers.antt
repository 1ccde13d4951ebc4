use Rattle.std.proofs.Common.{◌≡◌, ◌-◌, ◌+◌, ℕ, suc, ap, arith, drop, length, min, sym, take, ◌∙◌}
use Rattle.std.proofs.lemmas.List.{drop-map, drop_min, take-map, take_min}
use Rattle.test_ranking.specs.Hits.{hits_among, is_hit}
use Rattle.test_ranking.proofs.Packing.{words_end, words_pushed}
use Rattle.test_ranking.proofs.words.words_of.Goals as goal

pub loop-place-preserved : goal.loop-place-preserved
loop-place-preserved c =
    let left = c.loop-place.left.now in
    let fewer : c.min.result ≡ min 64 (length left) = omega (arith, c.min.ensures) in
    let front : c.split_at.result.0.now ≡ take 64 left = c.split_at.ensures.front ∙ ap (λ (count : ℕ). take count left) fewer ∙ take_min 64 left in
    let back : c.split_at.result.1.now ≡ drop 64 left = c.split_at.ensures.back ∙ ap (λ (count : ℕ). drop count left) fewer ∙ drop_min 64 left in
    let more : c.args.count - c.loop-place._place ≡ suc (c.args.count - (c.loop-place._place + 1)) = omega arith in
    record {
      words = words_pushed c.loop-place.words.items c.push.new.self.items c.word_of.result (c.args.count - (c.loop-place._place + 1)) (c.args.count - c.loop-place._place) (hits_among left) (hits_among c.split_at.result.0.now) (hits_among c.split_at.result.1.now) _
          c.in_ok-push.ensures.items c.word_of.ensures (ap hits_among front ∙ sym (take-map (λ p. is_hit p.verdict) 64 left)) (ap hits_among back ∙ sym (drop-map (λ p. is_hit p.verdict) 64 left)) more c.loop-place.invariant.words;
      room = omega (arith, c.split_at.ensures.back_len, fewer, c.loop-place.invariant.room);
    }

pub returns : goal.returns
returns c =
    let none : c.args.count - c.loop-place._place ≡ 0 = omega arith in
    words_end c.loop-place.words.items _ (c.args.count - c.loop-place._place) (hits_among c.loop-place.left.now) none c.loop-place.invariant.words
