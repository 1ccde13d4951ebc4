use Rattle.std.proofs.Common.{◌∙◌, ap, sym}
use Rattle.four_state.specs.Parts.{index}
use Rattle.design_model.specs.Value.{offset_option, part_width}
use Rattle.body_replay.specs.KnownBits.{select_option}
use Rattle.term_replay.proofs.Offsets.{near_bit}
use Rattle.term_replay.proofs.Selecting.{whole_part}
use Rattle.term_replay.proofs.select.part.Goals as goal

pub returns : goal.returns
returns c = λ v first x i j er sh sl sx.
    let m = c.value-top.result in
    let n = c.value-end.result in
    let ps = c.args.of.now.bits in
    whole_part v first c.args.head x i j m n c.args.high.now c.args.low.now c.args.of.now c.selected.result c.fitted.result sh (c.value-top.ensures.whole c.requires.high) sl (c.value-end.ensures.whole c.requires.low) sx
    (c.selected.ensures.bits ∙ ap (λ o. select_option ps o c.bits_between-count.result) c.bit_offset-offset.ensures.value ∙ near_bit ps c.args.range (index n.signed n.bits) c.bits_between-count.result c.bit_offset-offset.ensures.low c.selected.ensures.long c.bits_between-count.ensures.most ∙ ap (λ w. select_option ps (offset_option c.args.range (index n.signed n.bits)) w) c.bits_between-count.ensures.value ∙ ap (λ z. select_option ps (offset_option z (index n.signed n.bits)) (part_width m.bits n.bits)) (sym er))
    c.selected.ensures.blame c.fitted.ensures
