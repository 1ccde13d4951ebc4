use Rattle.std.proofs.Common.{◌∙◌, ap, sym, refl}
use Rattle.four_state.specs.Arithmetic.{natural}
use Rattle.four_state.specs.Parts.{index}
use Rattle.design_model.specs.Value.{slide_offset}
use Rattle.body_replay.specs.KnownBits.{select_option, unknown}
use Rattle.term_replay.specs.Stands.{slid}
use Rattle.term_replay.proofs.Selecting.{whole_slide, unsure_base}
use Rattle.term_replay.proofs.select.slide.Goals as goal

pub returns-then-is_whole : goal.returns-then-is_whole
returns-then-is_whole c = λ v first x b w er sb sw sx.
    let m = c.value.result in
    let n = c.value-then-is_whole.result in
    whole_slide v first c.args.head x b w c.args.up m n c.args.base.now c.args.count.now c.args.of.now (slid c.args.range c.args.up m n c.args.of.now) c.whole_slide.result sb (c.value.ensures.whole (sym c.is_whole.ensures ∙ c.if-is_whole.true)) sw (c.value-then-is_whole.ensures.whole c.requires.whole) sx
    (ap (λ z. select_option c.args.of.now.bits (slide_offset z c.args.up (natural n.bits) (index m.signed m.bits)) (natural n.bits)) (sym er))
    (λ u. refl) c.whole_slide.ensures

pub returns : goal.returns
returns c = λ v first x b w er sb sw sx.
    unsure_base v first c.args.head x b w c.args.up c.args.base.now c.unknown.result sb (sym c.is_whole.ensures ∙ c.if-is_whole.false) (c.unknown.ensures ∙ ap (λ y. record { bits = unknown c.args.head.width; signed = c.args.head.signed; blame = y }) c.blame.ensures.value)
