-- Faults with their places and names, and which of them is the first in the text.
use Rattle.std.specs.Prelude.{◌≡◌, ℕ, ◌+◌, Bool, true, false, not, ◌&&◌, if◌then◌else◌, List, [], ◌∷◌, Option, Some, None, Result, Err}
use Rattle.cov_host.specs.declared.place.Place.{Place}
use Rattle.design_model.specs.Design.{In}
use Rattle.verilog_tree.specs.declared.item.Named.{Named}
use Rattle.elab_const.specs.Scope.{below_or}
use Rattle.elab_const.specs.declared.fault.ConstKind.{ConstKind}
use Rattle.elab_const.specs.declared.fault.ConstFault.{ConstFault}
use Rattle.elab_const.specs.declared.fault.ConstFault.TheVariants as const_fault
use Rattle.flat_design.specs.declared.fault.DesignLimit.{DesignLimit}
use Rattle.flat_design.specs.declared.fault.DesignLimit.TheVariants.{Signals, Processes, MemoryWords, Words, Instances, Path, Statements, Text}
use Rattle.flat_design.specs.declared.fault.ElabFault.{ElabFault}
use Rattle.flat_design.specs.declared.fault.ElabFault.TheVariants as elab_fault
pub use Rattle.flat_design.specs.declared.fault.ElabKind.{ElabKind}
pub use Rattle.flat_design.specs.declared.fault.ElabKind.TheVariants.{NoModule, TwoModules, Recursion, Undeclared, TwiceDeclared, PortMismatch, TwoDrivers, MixedAssign, Incomplete, EventNotBit, SelfAssign, Limit, WrongTarget, WrongUse}

-- a fault: of a constant, width or loop, or of modules with the place and the name that it is reported with
pub data Fault : Type 0 where
  of_constant : ConstKind → Place → Fault
  of_modules : ElabKind → Option Place → List ℕ → Fault

-- a fault of this kind, reported with this name and its place
abbrev pub fault_at : ElabKind → Named → Fault
fault_at k x = of_modules k (Some x.place) x.name

-- the number of a limit
abbrev pub limit_number : DesignLimit → ℕ
limit_number Signals = 1
limit_number Processes = 2
limit_number MemoryWords = 3
limit_number Words = 4
limit_number Instances = 5
limit_number Path = 6
limit_number Statements = 7
limit_number Text = 8

-- a limit that is passed with the item or statement at this place; the name is its number as a digit
abbrev pub limit_fault : DesignLimit → Place → Fault
limit_fault l p = of_modules Limit (Some p) ((48 + limit_number l) ∷ [])

-- for the top a missing module has no place
abbrev pub missing_top : List ℕ → Fault
missing_top top = of_modules NoModule None top

-- a fault of a constant, as elaboration reports it
abbrev pub told_constant : ConstFault → ElabFault
told_constant const_fault.NoMemory = elab_fault.NoMemory
told_constant fault = elab_fault.Const fault

-- a fault, as callers see it
abbrev pub told : Fault → ElabFault
told (of_constant k p) = elab_fault.Const (const_fault.At k p)
told (of_modules k p x) = elab_fault.At k p x

-- the fault, where the test holds
abbrev pub fault_if : Bool → Fault → List Fault
fault_if test f = if test then f ∷ [] else []

-- the fault of an answer on constants, if it has one
abbrev pub answer_faults : {A : Type 0} → Result A ConstFault → List Fault
answer_faults (Err (const_fault.At k p)) = of_constant k p ∷ []
answer_faults _ = []

-- the list is empty
abbrev pub none : {A : Type 0} → List A → Bool
none [] = true
none (x ∷ xs) = false

-- the place of a fault
abbrev pub place_of : Fault → Option Place
place_of (of_constant k p) = Some p
place_of (of_modules k p x) = p

-- p is before q in the text, or is the same place and the test holds
abbrev pub before_or : Bool → Place → Place → Bool
before_or same p q = below_or p.source q.source (below_or p.line q.line (below_or p.column q.column same))

-- the fault of a name without declaration
abbrev pub is_undeclared : Fault → Bool
is_undeclared (of_modules Undeclared p x) = true
is_undeclared _ = false

-- the fault of a limit that is passed
abbrev pub is_limit : Fault → Bool
is_limit (of_modules Limit p x) = true
is_limit _ = false

-- the first place goes before the second; a fault without place goes last
abbrev pub option_before : Bool → Option Place → Option Place → Bool
option_before same None _ = false
option_before same (Some p) None = true
option_before same (Some p) (Some q) = before_or same p q

-- f is reported rather than g: it comes before g in the text, or at one place f alone is an undeclared name
abbrev pub goes_before : Fault → Fault → Bool
goes_before f g = option_before (is_undeclared f && not (is_undeclared g)) (place_of f) (place_of g)

-- the first fault: of those that none goes before, the one met first
abbrev pub first_of_faults : Fault → List Fault → Fault
first_of_faults f [] = f
first_of_faults f (g ∷ gs) = first_of_faults (if goes_before g f then g else f) gs

-- the first fault of the list, if there is one
abbrev pub first_fault : List Fault → Option Fault
first_fault [] = None
first_fault (f ∷ fs) = Some (first_of_faults f fs)

-- no fault of the list goes before f
abbrev pub IsFirst : Fault → List Fault → Type 0
IsFirst f fs = (h : Fault) → In h fs → goes_before h f ≡ false
