-- Faults of the list of points.
use Rattle.std.proofs.Common.{◌≡◌, ◌⊎◌, ◌≤◌, ◌<◌, ◌∙◌, ℕ, inl, inr, List, Result, Err, length, get_or, sym}
use Rattle.design_machines.specs.Faults.{IsStateFault}
use Rattle.design_machines.specs.Drawn.{AreAllMachines}
use Rattle.design_machines.specs.declared.fault.StateFault.{StateFault}
use Rattle.design_machines.specs.declared.fault.StateFault.TheVariants.{NoMemory, NoState, SameState, TooManyStates}
use Rattle.design_machines.specs.declared.machine.Machine.{Machine}
use Rattle.design_model.specs.Design.{Design}
use Rattle.design_machines.specs.state_machines.Machines.{StateMachines}
use Rattle.cover_points.specs.Faults.{IsPointFault, point_fault}
use Rattle.cover_points.specs.declared.fault.PointFault.{PointFault}
use Rattle.cover_points.proofs.Members.{in_at}

-- a fault of machines is one of points
pub of_machines : (d : Design) (ms : StateMachines) (f : StateFault) → (f ≡ NoMemory) ⊎ IsStateFault d ms.named f → IsPointFault d ms (point_fault f)
of_machines d ms NoMemory h = tt
of_machines d ms (NoState name) (inl e) = absurd (cc)
of_machines d ms (NoState name) (inr h) = h
of_machines d ms (SameState name) (inl e) = absurd (cc)
of_machines d ms (SameState name) (inr h) = h
of_machines d ms (TooManyStates name) (inl e) = absurd (cc)
of_machines d ms (TooManyStates name) (inr h) = h

-- a fault that a call hands on
pub handed_on : {T : Type 0} (r : Result T PointFault) (x y f : PointFault) → r ≡ Err y → y ≡ x → r ≡ Err f → x ≡ f
handed_on r x y f a b e =
    let both : Err y ≡ Err f = sym a ∙ e in
    let same : y ≡ f = cc in
    sym b ∙ same

-- each machine has at most 64 states
pub counted : (d : Design) (ms : StateMachines) (xs : List Machine) → AreAllMachines d ms xs → (k : ℕ) (y : Machine) → k < length xs → length (get_or xs k y).names ≤ 64
counted d ms xs h k y l =
    (h.whole (get_or xs k y) (in_at xs k y l)).most
