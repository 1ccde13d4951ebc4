use Rattle.std.proofs.Common.{◌∙◌, ap, sym, map, Some}
use Rattle.four_state.specs.Vector.{fill}
use Rattle.four_state.specs.declared.bit.Bit.TheVariants.{X}
use Rattle.design_model.specs.View.{design_view}
use Rattle.fsm_extract.proofs.AllX.{word_read}
use Rattle.fsm_extract.proofs.strange.StrangeReads.word.Goals as goal

pub returns : goal.returns
returns c =
    ap (λ v. v.bits) c.all_x.ensures
    ∙ ap (λ m. map Some (fill m.width X)) c.memory.ensures
    ∙ sym (word_read (design_view c.args.self.now.design.now) c.args.memory c.args._index.now.signed c.args._index.now.bits)
