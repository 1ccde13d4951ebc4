-- Where the points of a design are listed, nothing is wrong with its machines.
use Rattle.std.proofs.Common.{◌≡◌, ℕ, zero, suc, ◌<◌, List, [], ◌∷◌, length, get_or, inl, inr, refl, sym, subst, arith}
use Rattle.std.specs.List.{AllZip}
use Rattle.cover_points.specs.Faults.{IsPointFault}
use Rattle.cover_points.specs.Listed.{IsPointList}
use Rattle.cover_points.specs.declared.fault.PointFault.{PointFault}
use Rattle.cover_points.specs.declared.fault.PointFault.TheVariants as fault
use Rattle.cover_points.specs.declared.listing.Points.{Points}
use Rattle.cover_points.proofs.Members.{in_at}
use Rattle.cover_points.proofs.NamedOnce.{one_signal, one_value}
use Rattle.cover_points.specs.design_machines.Faults.{IsFaultIn, IsFaultOf, IsSameIn, IsStateFault, IsUnknownIn}
use Rattle.cover_points.specs.design_machines.Machines.{AreMachines}
use Rattle.cover_points.specs.design_machines.declared.fault.StateFault.{StateFault}
use Rattle.cover_points.specs.design_machines.declared.fault.StateFault.TheVariants.{NoMemory, NoState, SameState, TooManyStates}
use Rattle.cover_points.specs.design_machines.state_machines.Drawn.{AreAlike}
use Rattle.cover_points.specs.design_machines.state_machines.Machines.{StateMachines, no_machine}
use Rattle.cover_points.specs.design_machines.state_machines.Same.{HasBefore}
use Rattle.cover_points.specs.design_machines.state_machines.Values.{IsNamedSignal}
use Rattle.design_model.specs.Design.{Design, In}
use Rattle.design_model.specs.Lawful.{IsLawfulDesign}
use Rattle.design_model.specs.Points.{IsInstanceOf, IsStateValue, StateNames}
use Rattle.design_model.specs.four_state.Vector.{Vector}
use Rattle.design_points.specs.Counted.{HasFewPoints}
use Rattle.design_points.proofs.Counts.{few_or_many}

-- what items at one place of two lists are
zip_at : {A B : Type 0} (R : A → B → Type 0) (xs : List A) (ys : List B) (k : ℕ) (a : A) → AllZip R xs ys → k < length xs → (y : B) × R (get_or xs k a) y
zip_at R [] ys k a h l = absurd (omega arith)
zip_at R (x ∷ xs) [] k a h l = absurd h
zip_at R (x ∷ xs) (y ∷ ys) zero a h l = (y, h.0)
zip_at R (x ∷ xs) (y ∷ ys) (suc k) a h l = zip_at R xs ys k a h.1 (omega (arith, l))

-- lists that are both beside a third are one, where each item is beside one alone
one_zip : {A B : Type 0} (R : A → B → Type 0) → ((x : A) (y z : B) → R x y → R x z → y ≡ z) → (xs : List A) (ys zs : List B) → AllZip R xs ys → AllZip R xs zs → ys ≡ zs
one_zip R one [] [] [] a b = refl
one_zip R one [] [] (z ∷ zs) a b = absurd b
one_zip R one [] (y ∷ ys) zs a b = absurd a
one_zip R one (x ∷ xs) [] zs a b = absurd a
one_zip R one (x ∷ xs) (y ∷ ys) [] a b = absurd b
one_zip R one (x ∷ xs) (y ∷ ys) (z ∷ zs) a b = let e = one x y z a.0 b.0 in let f = one_zip R one xs ys zs a.1 b.1 in cc

module _ (d : Design) (lawful : IsLawfulDesign d) (ms : StateMachines) (ps : Points) (listed : IsPointList d ms ps) where
  are : AreMachines d ms.named listed.machines.named
  are = listed.machines.are_named

  module _ (m : StateNames) (at : In m ms.named) (i : ℕ) (is : IsInstanceOf d i m.of_module) where
    -- the machine has a signal in the instance
    signal_is : (s : ℕ) × IsNamedSignal d i m.variable s
    signal_is = let x = are.all m i at is in (x.0.signal, subst (λ j. IsNamedSignal d j m.variable x.0.signal) x.3 x.2.signal)

    -- and values of its names, which differ
    values_are : (vs : List Vector) × AllZip (IsStateValue d i signal_is.0) m.names vs × ((k : ℕ) → k < length vs → HasBefore vs k → ⊥)
    unfolding signal_is are
    values_are = let x = are.all m i at is in (x.0.values, subst (λ j. AllZip (IsStateValue d j x.0.signal) m.names x.0.values) x.3 x.2.values, x.2.apart)

    known : (name : List ℕ) → IsUnknownIn d m i name → ⊥
    known name (inl (none, e)) = none signal_is.0 signal_is.1.1
    known name (inr (variable, k, first, e)) =
        let v = zip_at (IsStateValue d i signal_is.0) m.names values_are.0 k [] values_are.1 first.0 in
        first.1 v.1.0 v.1.1 v.1.2 v.1.3

    apart : (name : List ℕ) → IsSameIn d m i name → ⊥
    apart name (s, named, vs, zipped, k, first, e) =
        let same_signal : s ≡ signal_is.0 = one_signal d lawful i s signal_is.0 m.variable named.1 signal_is.1.1 in
        let moved = subst (λ t. AllZip (IsStateValue d i t) m.names vs) same_signal zipped in
        let same : vs ≡ values_are.0 = one_zip (IsStateValue d i signal_is.0) (λ n x y a b. one_value d lawful i signal_is.0 n x y a b) m.names vs values_are.0 moved values_are.1 in
        values_are.2 k (subst (λ xs. k < length xs) same first.0) (subst (λ xs. HasBefore xs k) same first.1)

    no_fault_in : (f : StateFault) → IsFaultIn d m i f → ⊥
    no_fault_in NoMemory h = h
    no_fault_in (NoState name) h = known name h
    no_fault_in (SameState name) h = apart name h
    no_fault_in (TooManyStates name) h = h

  no_fault_of : (m : StateNames) → In m ms.named → (f : StateFault) → IsFaultOf d m f → ⊥
  no_fault_of m at NoMemory (counted, (i, is, fault, xs, below)) = no_fault_in m at i is NoMemory fault
  no_fault_of m at (NoState name) (counted, inl (none, e)) = let p = are.placed m at in none p.0 p.1
  no_fault_of m at (NoState name) (counted, inr (i, is, fault, xs, below)) = no_fault_in m at i is (NoState name) fault
  no_fault_of m at (SameState name) (counted, (i, is, fault, xs, below)) = no_fault_in m at i is (SameState name) fault
  no_fault_of m at (TooManyStates name) (not_counted, e) = not_counted (are.counted m at)

  pub no_state_fault : (f : StateFault) → IsStateFault d ms.named f → ⊥
  no_state_fault f (k, l, fault, xs, before) = no_fault_of (get_or ms.named k no_machine) (in_at ms.named k no_machine l) f fault

-- where the points are listed and not too many, their fault is want of memory
pub no_points_fault : (d : Design) (ms ns : StateMachines) (f : PointFault) → IsLawfulDesign d → AreAlike ms ns → HasFewPoints d ms → IsPointFault d ns f → f ≡ fault.NoMemory
no_points_fault d ms ns fault.NoMemory lawful alike few is = refl
no_points_fault d ms ns (fault.NoState name) lawful alike few is = absurd (no_state_fault d lawful ms few.0 few.1 (NoState name) (subst (λ named. IsStateFault d named (NoState name)) (sym alike.named) is))
no_points_fault d ms ns (fault.SameState name) lawful alike few is = absurd (no_state_fault d lawful ms few.0 few.1 (SameState name) (subst (λ named. IsStateFault d named (SameState name)) (sym alike.named) is))
no_points_fault d ms ns (fault.TooManyStates name) lawful alike few is = absurd (no_state_fault d lawful ms few.0 few.1 (TooManyStates name) (subst (λ named. IsStateFault d named (TooManyStates name)) (sym alike.named) is))
no_points_fault d ms ns fault.TooManyPoints lawful alike few is = absurd (few_or_many d ms ns alike few is)
