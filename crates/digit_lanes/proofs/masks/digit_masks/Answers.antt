use Rattle.std.proofs.Common.{◌≡◌, ℕ, ◌+◌, ◌-◌, ◌*◌, ◌/◌, ◌%◌, ◌^◌, Bool, List, map, drop, sym, ap, ap₂, ◌∙◌, arith}
use lib.Lanes.{chunk, mask_l}
use Rattle.digit_lanes.specs.Bytes.{writes_one_or_z, writes_strange}
use Rattle.digit_lanes.proofs.MaskLemmas.{inside, first_lanes, lanes_more, mask_by}
use Rattle.digit_lanes.proofs.masks.digit_masks.Goals as goal

pub loop-start-init : goal.loop-start-init
loop-start-init c =
    let start = c.args.count % 16 in
    let masked = λ (p : ℕ → Bool). ap (λ (l : List ℕ). mask_l (map p l)) c.reversed-lanes.ensures in
    record {
      within = omega arith;
      whole = omega arith;
      ones = c.from-all_ones.ensures ∙ ap (λ (m : ℕ). m / 2 ^ (16 - start)) (c.ones.ensures ∙ masked writes_one_or_z) ∙ first_lanes writes_one_or_z c.args.bytes.now start (omega arith) (omega arith);
      strange = c.from-all_strange.ensures ∙ ap (λ (m : ℕ). m / 2 ^ (16 - start)) (c.strange.ensures ∙ masked writes_strange) ∙ first_lanes writes_strange c.args.bytes.now start (omega arith) (omega arith);
    }

pub overflow_mul-all_ones : goal.overflow_mul-all_ones
overflow_mul-all_ones c = let few = inside writes_one_or_z c.loop-start.start 112 c.args.bytes.now (omega (arith, c.loop-start.invariant.whole)) in omega (arith, few, c.loop-start.invariant.ones)

pub overflow_add-all_ones : goal.overflow_add-all_ones
overflow_add-all_ones c =
    let few = inside writes_one_or_z c.loop-start.start 112 c.args.bytes.now (omega (arith, c.loop-start.invariant.whole)) in
    let more = inside writes_one_or_z 16 16 (drop c.loop-start.start c.args.bytes.now) (omega arith) in
    let is : c.from.result ≡ mask_by writes_one_or_z (chunk c.loop-start.start 16 c.args.bytes.now) =
    c.from.ensures ∙ c.ones-in-loop-start.ensures ∙ ap (λ (l : List ℕ). mask_l (map writes_one_or_z l)) c.reversed-lanes-in-loop-start.ensures in
    omega (arith, few, more, is, c.loop-start.invariant.ones)

pub overflow_mul-all_strange : goal.overflow_mul-all_strange
overflow_mul-all_strange c = let few = inside writes_strange c.loop-start.start 112 c.args.bytes.now (omega (arith, c.loop-start.invariant.whole)) in omega (arith, few, c.loop-start.invariant.strange)

pub overflow_add-all_strange : goal.overflow_add-all_strange
overflow_add-all_strange c =
    let few = inside writes_strange c.loop-start.start 112 c.args.bytes.now (omega (arith, c.loop-start.invariant.whole)) in
    let more = inside writes_strange 16 16 (drop c.loop-start.start c.args.bytes.now) (omega arith) in
    let is : c.from-in-loop-start.result ≡ mask_by writes_strange (chunk c.loop-start.start 16 c.args.bytes.now) =
    c.from-in-loop-start.ensures ∙ c.strange-in-loop-start.ensures ∙ ap (λ (l : List ℕ). mask_l (map writes_strange l)) c.reversed-lanes-in-loop-start.ensures in
    omega (arith, few, more, is, c.loop-start.invariant.strange)

pub loop-start-preserved : goal.loop-start-preserved
loop-start-preserved c =
    let start = c.loop-start.start in
    let bytes = c.args.bytes.now in
    let masked = λ (p : ℕ → Bool). ap (λ (l : List ℕ). mask_l (map p l)) c.reversed-lanes-in-loop-start.ensures in
    record {
      within = omega (arith, c.loop-start.invariant.whole);
      whole = omega (arith, c.loop-start.invariant.whole);
      ones = ap₂ (λ (m k : ℕ). m * 65536 + k) c.loop-start.invariant.ones (c.from.ensures ∙ c.ones-in-loop-start.ensures ∙ masked writes_one_or_z)
          ∙ sym (lanes_more writes_one_or_z bytes start (omega (arith, c.loop-start.invariant.whole)));
      strange = ap₂ (λ (m k : ℕ). m * 65536 + k) c.loop-start.invariant.strange (c.from-in-loop-start.ensures ∙ c.strange-in-loop-start.ensures ∙ masked writes_strange)
          ∙ sym (lanes_more writes_strange bytes start (omega (arith, c.loop-start.invariant.whole)));
    }
