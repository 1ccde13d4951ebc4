use Rattle.std.proofs.Common.{◌≡◌, ◌≤◌, true, Some, None, length, ap, arith, refl, sym, if◌then◌else◌, ◌∙◌, ℤ, neg_ℤ, rules, w64, to_z, of_z, SFits}
use Rattle.std.proofs.lemmas.Int.{ints}
use Rattle.four_state.specs.Parts.{index}
use Rattle.body_replay.specs.known_state.Partly.{is_whole}
use Rattle.design_model.specs.Value.{offset_option}
use Rattle.value_store.specs.Parts.{bits_over, placed_bits, whole_offset}
use Rattle.value_store.proofs.Placed.{placed_is, written_placed}
use Rattle.value_store.proofs.part.with_part.Goals as goal
use Rattle.value_store.proofs.part.with_part.Goals.{then-is_whole, else-is_whole}

pub returns-in-Some : goal.returns-in-Some
returns-in-Some c =
    let q = c.args.old.now in
    let p = c.args.part.now in
    let i = c.args.index.now in
    let r = c.args.range in
    let a : length q.bits ≤ 128 = omega arith in
    let b : length p.bits ≤ 128 = omega arith in
    let whole : is_whole i ≡ true = sym c.is_whole.ensures ∙ c.if-not-is_whole.false in
    let same : placed_bits q.bits p.bits (Some c.in-Some.low) ≡ placed_bits q.bits p.bits (whole_offset r i) = ap (placed_bits q.bits p.bits) (sym c.in-Some.is) ∙ c.part_offset.ensures q.bits p.bits a b ∙ ap (λ v. placed_bits q.bits p.bits (offset_option r (index v.signed v.bits))) c.value.ensures.value in
    let fits : SFits w64 c.in-Some.low = search rules in
    let low : ℤ = to_z w64 (of_z w64 c.in-Some.low) in
    let same_low : low ≡ c.in-Some.low = omega (arith, ints) in
    let placed = placed_is q p c.place.result low c.place.ensures.sound c.place.ensures.tight in
    let blame : c.if-is_whole.blame ≡ (if is_whole p then q.blame else p.blame) = elim c.if-is_whole.branch [
      | then-is_whole w ↦ w.blame-is ∙ w.blame-blame.ensures.value ∙ ap (λ t. if t then q.blame else p.blame) (sym (sym c.is_whole-2.ensures ∙ w.if-is_whole.true))
      | else-is_whole w ↦ w.blame-is ∙ w.blame-blame-else-is_whole.ensures.value ∙ ap (λ t. if t then q.blame else p.blame) (sym (sym c.is_whole-2.ensures ∙ w.if-is_whole.false))
    ] in
    c.blamed.ensures ∙ written_placed r i p q whole (Some c.in-Some.low) same c.place.result c.if-is_whole.blame (placed.0 ∙ ap (λ z. bits_over q.bits p.bits (neg_ℤ z)) same_low) placed.1 blame

pub returns-in-None : goal.returns-in-None
returns-in-None c =
    let q = c.args.old.now in
    let p = c.args.part.now in
    let i = c.args.index.now in
    let r = c.args.range in
    let a : length q.bits ≤ 128 = omega arith in
    let b : length p.bits ≤ 128 = omega arith in
    let whole : is_whole i ≡ true = sym c.is_whole.ensures ∙ c.if-not-is_whole.false in
    let same : placed_bits q.bits p.bits None ≡ placed_bits q.bits p.bits (whole_offset r i) = ap (placed_bits q.bits p.bits) (sym c.in-None.is) ∙ c.part_offset.ensures q.bits p.bits a b ∙ ap (λ v. placed_bits q.bits p.bits (offset_option r (index v.signed v.bits))) c.value.ensures.value in
    let blame : c.if-is_whole.blame ≡ (if is_whole p then q.blame else p.blame) = elim c.if-is_whole.branch [
      | then-is_whole w ↦ w.blame-is ∙ w.blame-blame.ensures.value ∙ ap (λ t. if t then q.blame else p.blame) (sym (sym c.is_whole-2.ensures ∙ w.if-is_whole.true))
      | else-is_whole w ↦ w.blame-is ∙ w.blame-blame-else-is_whole.ensures.value ∙ ap (λ t. if t then q.blame else p.blame) (sym (sym c.is_whole-2.ensures ∙ w.if-is_whole.false))
    ] in
    c.blamed-in-None.ensures ∙ written_placed r i p q whole None same q c.if-is_whole.blame refl refl blame
