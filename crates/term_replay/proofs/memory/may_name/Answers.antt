use Rattle.std.proofs.Common.{◌≡◌, ◌∙◌, ap, ap₂, length, not, sym}
use Rattle.four_state.specs.Arithmetic.{low_bits}
use Rattle.four_state.specs.Parts.{index, index_of}
use Rattle.known_state.specs.Partly.{allows_bits}
use Rattle.term_replay.specs.Words.{is_index_at}
use Rattle.term_replay.proofs.Indexes.{agrees, differs, numbered}
use Rattle.term_replay.proofs.memory.may_name.Goals as goal

pub returns-then-differs : goal.returns-then-differs
returns-then-differs c = λ m low high.
    let ps = c.args.index.now.bits in
    let bits : c.make-bits.result.bits ≡ low_bits (length ps) c.args.word = numbered (length ps) c.args.word c.width-2.result c.width.result c.from-number.result c.low_mask-mask.result c.make-bits.result.bits c.width-2.ensures.value c.width.ensures.value c.from-number.ensures c.low_mask-mask.ensures (ap (λ v. v.bits) c.make-bits.ensures.value) in
    differs m c.args.index.now.signed ps c.args.word (ap (λ bs. not (allows_bits ps bs)) (sym bits) ∙ sym c.differs.ensures ∙ c.if-differs.true)

pub returns : goal.returns
returns c = λ m low high.
    let ps = c.args.index.now.bits in
    let bits : c.make-bits.result.bits ≡ low_bits (length ps) c.args.word = numbered (length ps) c.args.word c.width-2.result c.width.result c.from-number.result c.low_mask-mask.result c.make-bits.result.bits c.width-2.ensures.value c.width.ensures.value c.from-number.ensures c.low_mask-mask.ensures (ap (λ v. v.bits) c.make-bits.ensures.value) in
    agrees m c.args.index.now.signed ps c.args.word c.is_number.result (ap (λ bs. not (allows_bits ps bs)) (sym bits) ∙ sym c.differs.ensures ∙ c.if-differs.false) low high
    (c.is_number.ensures ∙ ap₂ is_index_at (c.index.ensures ∙ ap₂ (λ g bs. index_of (index g bs)) (ap (λ v. v.signed) c.make-bits.ensures.value ∙ c.is_signed.ensures) bits) c.from-number.ensures)
