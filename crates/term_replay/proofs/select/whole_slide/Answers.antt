use Rattle.std.proofs.Common.{◌∙◌, ap, arith, sym}
use Rattle.four_state.specs.Arithmetic.{natural}
use Rattle.four_state.specs.Parts.{index}
use Rattle.design_model.specs.Value.{slide_offset}
use Rattle.body_replay.specs.KnownBits.{select_option}
use Rattle.term_replay.specs.Stands.{slid}
use Rattle.term_replay.proofs.Joining.{blank_fits, fits_same}
use Rattle.term_replay.proofs.Offsets.{near_slide}
use Rattle.term_replay.proofs.Selecting.{no_selected}
use Rattle.term_replay.proofs.select.whole_slide.Goals as goal

pub returns-then-count-eq0 : goal.returns-then-count-eq0
returns-then-count-eq0 c =
    blank_fits c.args.head (slid c.args.range c.args.up c.args.base.now c.args.count.now c.args.of.now) c.blank.result (no_selected c.args.of.now.bits (slide_offset c.args.range c.args.up (natural c.args.count.now.bits) (index c.args.base.now.signed c.args.base.now.bits)) (natural c.args.count.now.bits) (sym c.known_ones-count.ensures.number ∙ c.if-count-eq0.true)) c.blank.ensures

pub returns : goal.returns
returns c =
    let ps = c.args.of.now.bits in
    let i = index c.args.base.now.signed c.args.base.now.bits in
    let w = c.known_ones-count.result in
    fits_same c.args.head c.selected.result (slid c.args.range c.args.up c.args.base.now c.args.count.now c.args.of.now) c.fitted.result
    (c.selected.ensures.bits ∙ ap (λ o. select_option ps o w) c.slide_offset-offset.ensures.value ∙ near_slide ps c.args.range c.args.up w i c.slide_offset-offset.ensures.low c.selected.ensures.long (omega (arith, c.known_ones-count.ensures.number, c.requires.count)) ∙ ap (λ n. select_option ps (slide_offset c.args.range c.args.up n i) n) c.known_ones-count.ensures.number)
    c.selected.ensures.blame c.fitted.ensures
