use Rattle.std.proofs.Common.{◌∙◌, ap, arith, sym}
use Rattle.four_state.specs.Parts.{index}
use Rattle.design_model.specs.Value.{offset_option}
use Rattle.body_replay.specs.KnownBits.{select_option, unknown}
use Rattle.term_replay.proofs.Offsets.{near_bit}
use Rattle.term_replay.proofs.Selecting.{whole_bit, unsure_bit}
use Rattle.term_replay.proofs.select.bit.Goals as goal

pub returns-then-is_whole : goal.returns-then-is_whole
returns-then-is_whole c = λ v first x i er si sx.
    let n = c.value.result in
    let ps = c.args.of.now.bits in
    whole_bit v first c.args.head x i n c.args.index.now c.args.of.now c.selected.result c.fitted.result si (c.value.ensures.whole (sym c.is_whole.ensures ∙ c.if-is_whole.true)) sx
    (c.selected.ensures.bits ∙ ap (λ o. select_option ps o 1) c.bit_offset-offset.ensures.value ∙ near_bit ps c.args.range (index n.signed n.bits) 1 c.bit_offset-offset.ensures.low c.selected.ensures.long (omega arith) ∙ ap (λ z. select_option ps (offset_option z (index n.signed n.bits)) 1) (sym er))
    c.selected.ensures.blame c.fitted.ensures

pub returns : goal.returns
returns c = λ v first x i er si sx.
    unsure_bit v first c.args.head x i c.args.index.now c.unknown.result si (sym c.is_whole.ensures ∙ c.if-is_whole.false) (c.unknown.ensures ∙ ap (λ b. record { bits = unknown c.args.head.width; signed = c.args.head.signed; blame = b }) c.blame.ensures.value)
