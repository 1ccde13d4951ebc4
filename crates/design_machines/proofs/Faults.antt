-- Faults of a machine.
use Rattle.std.proofs.Common.{◌≡◌, ◌⊎◌, ◌∙◌, ℕ, inl, inr, List, Result, Err, sym}
use Rattle.state_machines.specs.design_model.Design.{Design}
use Rattle.state_machines.specs.design_model.Points.{IsInstanceOf, StateNames}
use Rattle.design_machines.specs.Faults.{IsFaultIn, IsFaultOf}
use Rattle.design_machines.specs.Machines.{AreMachinesBelow, IsCounted}
use Rattle.design_machines.specs.declared.fault.StateFault.{StateFault}
use Rattle.design_machines.specs.declared.fault.StateFault.TheVariants.{NoMemory, NoState, SameState, TooManyStates}
use Rattle.design_machines.specs.declared.machine.Machine.{Machine}

-- the fault in an instance, with the machines of those before it
pub in_instance : (d : Design) (m : StateNames) (i : ℕ) (f : StateFault) (xs : List Machine) → IsCounted m → IsInstanceOf d i m.of_module → AreMachinesBelow d m i xs → (f ≡ NoMemory) ⊎ IsFaultIn d m i f → (f ≡ NoMemory) ⊎ IsFaultOf d m f
in_instance d m i f xs counted at before (inl e) = inl e
in_instance d m i (NoState name) xs counted at before (inr h) = inr (counted, inr (i, at, h, xs, before))
in_instance d m i (SameState name) xs counted at before (inr h) = inr (counted, (i, at, h, xs, before))
in_instance d m i NoMemory xs counted at before (inr h) = absurd h
in_instance d m i (TooManyStates name) xs counted at before (inr h) = absurd h

-- a fault, or want of memory, seen otherwise
pub or_later : (P Q : Type 0) (f : StateFault) → (P → Q) → (f ≡ NoMemory) ⊎ P → (f ≡ NoMemory) ⊎ Q
or_later P Q f g (inl e) = inl e
or_later P Q f g (inr p) = inr (g p)

-- a fault that a call hands on
pub handed_on : {T : Type 0} (r : Result T StateFault) (x y f : StateFault) → r ≡ Err y → y ≡ x → r ≡ Err f → x ≡ f
handed_on r x y f a b e =
    let both : Err y ≡ Err f = sym a ∙ e in
    let same : y ≡ f = cc in
    sym b ∙ same
