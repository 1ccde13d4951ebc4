use Rattle.std.proofs.Common.{◌≡◌, ◌++◌, take}
use Rattle.design_model.specs.View.{design_view}
use Rattle.drawn_machines.specs.Drawing.{states_drawn}
use Rattle.drawn_machines.proofs.drawing.draw_states.Given as goal

-- the states so far are drawn
abbrev pub invariant-loop-number : goal.invariant-loop-number
invariant-loop-number l = record {
  named : l.states.named ≡ l.initial.states.named;
  drawn : l.states.drawn ≡ l.initial.states.drawn ++ states_drawn (design_view l.design) l.instance l.name l.signal (take l.number-index l.numbers);
}
