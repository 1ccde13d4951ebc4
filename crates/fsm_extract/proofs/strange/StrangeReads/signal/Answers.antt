use Rattle.std.proofs.Common.{◌∙◌, ◌<◌, Some, ap, arith, get_or, length, map, sym}
use Rattle.std.proofs.lemmas.List.{get_or_default}
use Rattle.four_state.specs.Vector.{fill}
use Rattle.four_state.specs.declared.bit.Bit.TheVariants.{X}
use Rattle.design_model.specs.Design.{no_signal}
use Rattle.design_model.specs.View.{design_view}
use Rattle.design_model.specs.declared.design.Signal.{Signal}
use Rattle.fsm_extract.proofs.AllX.{signal_read}
use Rattle.fsm_extract.proofs.strange.StrangeReads.signal.Goals as goal

pub returns-clause-bits : goal.returns-clause-bits
returns-clause-bits c =
    let xs = c.as_slice.result.now in
    let l : c.args.signal < length xs = omega (arith, c.requires, ap length c.as_slice.ensures) in
    let same = get_or_default xs c.args.signal c.index-as_slice-signal.result no_signal l ∙ ap (λ ys. get_or ys c.args.signal no_signal) c.as_slice.ensures in
    ap (λ v. v.bits) c.all_x.ensures ∙ ap (λ (s : Signal). map Some (fill s.width X)) same ∙ sym (signal_read (design_view c.args.self.now.design.now) c.args.signal)
