use Rattle.std.proofs.Common.{◌≡◌, ◌≤◌, ◌<◌, ◌-◌, ◌+◌, ◌*◌, ℕ, Bool, true, false, ap, arith, cond, get_or, length, refl, sym, ◌∙◌}
use Rattle.std.proofs.lemmas.List.{get_or-map, length-map}
use Rattle.test_ranking.specs.Hits.{hits_among, is_hit}
use Rattle.test_ranking.proofs.Packing.{word_more, word_room}
use Rattle.test_ranking.proofs.words.word_of.Goals as goal
use mir.Val.{bool_byte}

byte_is : (mark : Bool) → bool_byte mark ≡ cond mark 1 0
byte_is true = refl
byte_is false = refl

byte-le : (mark : Bool) → bool_byte mark ≤ 1
byte-le true = omega arith
byte-le false = omega arith

pub overflow_mul-word : goal.overflow_mul-word
overflow_mul-word c =
    let points = c.args.points.now in
    let long : length (hits_among points) ≡ length points = length-map points (λ p. is_hit p.verdict) in
    let room = word_room (hits_among points) c.loop-place.place (omega arith) c.loop-place-test.true (omega arith) in
    omega (arith, room, c.loop-place.invariant.word)

pub overflow_add-word : goal.overflow_add-word
overflow_add-word c =
    let points = c.args.points.now in
    let long : length (hits_among points) ≡ length points = length-map points (λ p. is_hit p.verdict) in
    let room = word_room (hits_among points) c.loop-place.place (omega arith) c.loop-place-test.true (omega arith) in
    omega (arith, room, c.loop-place.invariant.word, c.from.ensures, byte-le c.is_hit.result)

pub loop-place-preserved : goal.loop-place-preserved
loop-place-preserved c =
    let points = c.args.points.now in
    let place = c.loop-place.place - 1 in
    let long : length (hits_among points) ≡ length points = length-map points (λ p. is_hit p.verdict) in
    let inside : place < length points = omega arith in
    let after : c.loop-place.place ≡ place + 1 = omega arith in
    let mark = c.is_hit.ensures ∙ sym (get_or-map (λ p. is_hit p.verdict) points place _ false inside) in
    let bit : c.from.result ≡ cond (get_or (hits_among points) place false) 1 0 = c.from.ensures ∙ byte_is c.is_hit.result ∙ ap (λ (b : Bool). cond b 1 0) mark in
    record {
      word = ap (λ (n : ℕ). n * 2 + c.from.result) c.loop-place.invariant.word ∙ word_more (hits_among points) place c.loop-place.place c.from.result (omega arith) after bit;
      inside = omega arith;
    }
