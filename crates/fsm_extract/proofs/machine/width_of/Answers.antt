use Rattle.std.proofs.Common.{◌∙◌, ◌<◌, ap, arith, get_or, length}
use Rattle.std.proofs.lemmas.List.{get_or_default}
use Rattle.design_model.specs.Design.{no_signal}
use Rattle.design_model.specs.declared.design.Signal.{Signal}
use Rattle.fsm_extract.proofs.machine.width_of.Goals as goal

pub returns : goal.returns
returns c =
    let xs = c.as_slice.result.now in
    let l : c.args.signal < length xs = omega (arith, c.requires, ap length c.as_slice.ensures) in
    ap (λ (s : Signal). s.width) (get_or_default xs c.args.signal c.index-as_slice-signal.result no_signal l ∙ ap (λ ys. get_or ys c.args.signal no_signal) c.as_slice.ensures)
