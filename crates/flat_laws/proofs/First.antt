-- The fault that is answered is among the faults of the modules; a design is answered only where they have no fault.
use Rattle.std.proofs.Common.{◌≡◌, refl, inl, inr, ℕ, Bool, true, false, cond, List, [], ◌∷◌, Result, Ok, Err, ap, sym, subst}
use Rattle.std.proofs.lemmas.Bool.{false≢true}
use Rattle.design_model.specs.Design.{Design, In}
use Rattle.verilog_tree.specs.Tree.{Module}
use Rattle.flat_design.specs.Fault.{Fault, goes_before, first_of_faults, first_fault, IsFirst}
use Rattle.flat_laws.proofs.Order.{first_least}
use Rattle.flat_design.specs.Flat.{elaborated}
use Rattle.flat_design.specs.Faults.{faults_of, Stands, answer, design_or}

-- the fault that is kept is one of the two, or of the rest
kept_in : (b : Bool) (f g : Fault) (gs : List Fault) → In (first_of_faults g gs) (g ∷ gs) → In (first_of_faults f gs) (f ∷ gs) → In (first_of_faults (cond b g f) gs) (f ∷ g ∷ gs)
kept_in true f g gs of_g of_f = inr of_g
kept_in false f g gs of_g (inl e) = inl e
kept_in false f g gs of_g (inr h) = inr (inr h)

pub first_in : (f : Fault) (gs : List Fault) → In (first_of_faults f gs) (f ∷ gs)
first_in f [] = inl refl
first_in f (g ∷ gs) = kept_in (goes_before g f) f g gs (first_in g gs) (first_in f gs)

fault_or : Fault → Result Design Fault → Fault
fault_or x (Ok d) = x
fault_or x (Err f) = f

has_fault : Result Design Fault → Bool
has_fault (Ok d) = false
has_fault (Err f) = true

answered_in : (d : Design) (fs : List Fault) (f : Fault) → design_or d (first_fault fs) ≡ Err f → In f fs
unfolding fault_or has_fault
answered_in d [] f e = absurd (false≢true (ap has_fault e))
answered_in d (g ∷ gs) f e = subst (λ x. In x (g ∷ gs)) (ap (fault_or f) e) (first_in g gs)

none_answered : (d x : Design) (fs : List Fault) → design_or d (first_fault fs) ≡ Ok x → fs ≡ []
unfolding has_fault
none_answered d x [] e = refl
none_answered d x (g ∷ gs) e = absurd (false≢true (sym (ap has_fault e)))

first_answered : (d : Design) (fs : List Fault) (f : Fault) → design_or d (first_fault fs) ≡ Err f → IsFirst f fs
unfolding fault_or has_fault
first_answered d [] f e = absurd (false≢true (ap has_fault e))
first_answered d (g ∷ gs) f e = subst (λ x. IsFirst x (g ∷ gs)) (ap (fault_or f) e) (first_least g gs)

pub fault_first : (ms : List Module) (top : List ℕ) (f : Fault) → answer ms top ≡ Err f → IsFirst f (faults_of ms top)
fault_first ms top f e = first_answered (elaborated ms top).design (faults_of ms top) f e

pub fault_stands : (ms : List Module) (top : List ℕ) (f : Fault) → answer ms top ≡ Err f → Stands ms top f
fault_stands ms top f e = answered_in (elaborated ms top).design (faults_of ms top) f e

pub none_stands : (ms : List Module) (top : List ℕ) (d : Design) → answer ms top ≡ Ok d → faults_of ms top ≡ []
none_stands ms top d e = none_answered (elaborated ms top).design d (faults_of ms top) e

-- so there is no fault
pub no_fault_stands : (ms : List Module) (top : List ℕ) (d : Design) → answer ms top ≡ Ok d → (f : Fault) → Stands ms top f → ⊥
no_fault_stands ms top d e f h = subst (λ fs. In f fs) (none_stands ms top d e) h
