-- Where nothing is drawn, all that is drawn is of the design.
use Rattle.std.proofs.Common.{◌≡◌, List, [], subst}
use Rattle.design_model.specs.Design.{Design, In}
use Rattle.state_machines.specs.Drawn.{AreDrawable}
use Rattle.state_machines.specs.Machines.{StateMachines}
use Rattle.state_machines.specs.declared.drawn.Drawn.{Drawn}

none_in : (es : List Drawn) (e : Drawn) → es ≡ [] → In e es → ⊥
none_in es e none h = subst (λ (xs : List Drawn). In e xs) none h

pub none_drawable : (d : Design) (ms : StateMachines) → ms.drawn ≡ [] → AreDrawable d ms
none_drawable d ms none = record { of_design = λ e h. absurd (none_in ms.drawn e none h); apart = λ m name e a b h. absurd (none_in ms.drawn e none h) }
