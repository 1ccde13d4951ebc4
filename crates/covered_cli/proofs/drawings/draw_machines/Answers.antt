use Rattle.std.proofs.Common.{◌∙◌, refl}
use Rattle.std.proofs.lemmas.Result.{err_from_is_err_and}
use Rattle.command_line.specs.DrawingWords.{drawing_values}
use Rattle.command_line.specs.OptionValues.{drawings_of}
use Rattle.design_model.specs.View.{design_view}
use Rattle.covered_cli.proofs.DrawnMachines.{all_drawn, all_placed, drawn_next, drawn_start, next_fault}
use Rattle.covered_cli.proofs.drawings.draw_machines.Goals as goal

pub drawings-init : goal.drawings-init
drawings-init c = record {
  named = refl;
  drawn = drawn_start (design_view c.args.design.now) (drawings_of c.args.given) c.args.states.now.drawn;
}

pub drawings-preserved : goal.drawings-preserved
drawings-preserved c = record {
  named = c.draw_machine.ensures.named ∙ c.drawings.invariant.named;
  drawn = drawn_next (design_view c.args.design.now) _ _ _ _ _ _ (drawing_values c.in-Some.drawing) c.drawings.invariant.drawn c.in-Some.ensures.drawing c.in_ok-draw_machine.ensures.drawn c.in_ok-draw_machine.ensures.placed;
}

pub returns-in_err-draw_machine-clause-fault : goal.returns-in_err-draw_machine-clause-fault
returns-in_err-draw_machine-clause-fault c =
    let fault = err_from_is_err_and c.from_residual.result c.from_residual.ensures.1 in
    rw (fault.1, fault.2) (next_fault (design_view c.args.design.now) _ _ _ _ _ (drawing_values c.in-Some.drawing) _ c.drawings.invariant.drawn c.in-Some.ensures.drawing c.in_err-draw_machine.ensures.fault)

pub returns-clause-drawn : goal.returns-clause-drawn
returns-clause-drawn c = all_drawn (design_view c.args.design.now) _ _ _ _ c.drawings.invariant.drawn c.in_default.ensures.end.0

pub returns-clause-placed : goal.returns-clause-placed
returns-clause-placed c = all_placed (design_view c.args.design.now) _ _ _ _ c.drawings.invariant.drawn c.in_default.ensures.end.0
