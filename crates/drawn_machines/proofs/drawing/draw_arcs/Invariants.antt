use Rattle.std.proofs.Common.{◌≡◌, ◌++◌, take}
use Rattle.design_model.specs.View.{design_view}
use Rattle.drawn_machines.specs.Drawing.{arcs_drawn}
use Rattle.drawn_machines.proofs.drawing.draw_arcs.Given as goal

-- the arcs so far are drawn
abbrev pub invariant-loop-pair : goal.invariant-loop-pair
invariant-loop-pair l = record {
  named : l.states.named ≡ l.initial.states.named;
  drawn : l.states.drawn ≡ l.initial.states.drawn ++ arcs_drawn (design_view l.design) l.instance l.name l.signal (take l.pair-index l.pairs);
}
