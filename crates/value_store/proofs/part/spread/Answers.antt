use Rattle.std.proofs.Common.{◌≡◌, true, false, Some, None, length, map, replicate, ap, sym, ◌∙◌}
use Rattle.four_state.specs.declared.operator.CaseKind.TheVariants.{Exact}
use Rattle.four_state.specs.Operators.{matches}
use Rattle.four_state.specs.Vector.{fill}
use Rattle.value_store.specs.Parts.{common_bits}
use Rattle.value_store.proofs.Spread.{all_equal, not_equal, unsure_bits}
use Rattle.value_store.proofs.part.spread.Goals as goal
use Rattle.value_store.proofs.part.spread.Goals.{else-is_whole-via-then-is_whole+else-all_equal, else-is_whole-via-else-is_whole}

pub returns-then-all_equal : goal.returns-then-all_equal
returns-then-all_equal c =
    let ps = c.args.part.now.bits in
    let bs = c.value-value.result.bits in
    let whole = c.value-value.ensures.whole (sym c.is_whole.ensures ∙ c.if-is_whole.true) in
    let bits_are : ps ≡ map Some bs = ap (λ q. q.bits) whole in
    let same : matches Exact bs (fill (length ps) c.bit-first.result) ≡ true = ap (λ n. matches Exact bs (fill n c.bit-first.result)) (sym c.width.ensures.value) ∙ ap (λ v. matches Exact bs v.bits) (sym c.fill.ensures) ∙ sym c.label-all_equal.ensures ∙ c.if-all_equal.true in
    ap (λ q. q.bits) c.whole.ensures ∙ ap (λ v. map Some v.bits) c.fill-then-all_equal.ensures ∙ all_equal ps bs c.bit-first.result c.args.width bits_are c.bit-first.ensures same

pub returns-else-is_whole : goal.returns-else-is_whole
returns-else-is_whole c = ap (λ q. q.bits) c.unknown.ensures ∙ ap (replicate c.args.width) (sym none)
  where
    none : common_bits c.args.part.now.bits ≡ None
    none = elim c.else-is_whole.branch [
      | else-is_whole-via-then-is_whole+else-all_equal w ↦
          (let ps = c.args.part.now.bits in
          let bs = c.value-value.result.bits in
          let whole = c.value-value.ensures.whole (sym c.is_whole.ensures ∙ w.if-is_whole.true) in
          let bits_are : ps ≡ map Some bs = ap (λ q. q.bits) whole in
          let other : matches Exact bs (fill (length ps) c.bit-first.result) ≡ false = ap (λ n. matches Exact bs (fill n c.bit-first.result)) (sym c.width.ensures.value) ∙ ap (λ v. matches Exact bs v.bits) (sym c.fill.ensures) ∙ sym c.label-all_equal.ensures ∙ w.if-all_equal.false in
          not_equal ps bs c.bit-first.result bits_are c.bit-first.ensures other)
      | else-is_whole-via-else-is_whole w ↦ unsure_bits c.args.part.now.bits (sym c.is_whole.ensures ∙ w.if-is_whole.false)
    ]
