use Rattle.std.proofs.Common.{◌≡◌, length}
use Rattle.command_line.specs.OptionValues.{drawings_of}
use Rattle.design_model.specs.View.{design_view}
use Rattle.covered_cli.proofs.DrawnMachines.{HasDrawn}
use Rattle.covered_cli.proofs.drawings.draw_machines.Given as goal

-- the machines so far are drawn, and no names were added
abbrev pub invariant-drawings : goal.invariant-drawings
invariant-drawings l = record {
  named : l.states.named ≡ l.initial.states.named;
  drawn : HasDrawn (design_view l.design) (drawings_of l.fn.given) (drawings_of l.left) l.initial.states.drawn l.states.drawn;
}

abbrev pub decreases-drawings : goal.decreases-drawings
decreases-drawings l = length (drawings_of l.left)
