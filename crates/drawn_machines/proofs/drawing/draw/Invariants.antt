use Rattle.std.proofs.Common.{◌≡◌, ◌++◌, ◌↔◌, ◌<◌, ℕ, List, true}
use Rattle.design_model.specs.Design.{In}
use Rattle.design_model.specs.Points.{IsInstanceOf}
use Rattle.design_model.specs.View.{design_view}
use Rattle.state_machines.specs.declared.drawn.Drawn.{Drawn}
use Rattle.drawn_machines.specs.Drawing.{HasMachine}
use Rattle.drawn_machines.proofs.Drawings.{IsDrawnBelow, IsSomeBelow}
use Rattle.drawn_machines.proofs.drawing.draw.Given as goal

-- what the instances so far draw is drawn, and each of the module has a machine
abbrev pub invariant-loop-number : goal.invariant-loop-number
invariant-loop-number l = record {
  named : l.states.named ≡ l.initial.states.named;
  drawn : (es : List Drawn) × (l.states.drawn ≡ l.initial.states.drawn ++ es) × ((e : Drawn) → In e es ↔ IsDrawnBelow (design_view l.design) l.of_module l.current l.next l.number e);
  each : (i : ℕ) → i < l.number → IsInstanceOf (design_view l.design) i l.of_module → HasMachine (design_view l.design) l.of_module l.current l.next i;
  some : (l.has_instance ≡ true) ↔ IsSomeBelow (design_view l.design) l.of_module l.number;
}
