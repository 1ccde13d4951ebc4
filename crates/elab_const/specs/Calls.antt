-- What the public calls answer, with the faults as they report them.
use Rattle.std.specs.Prelude.{◌≡◌, Result, Ok, Err}
use Rattle.elab_const.specs.Scope.{Fault, fault_at}
use Rattle.elab_const.specs.declared.fault.ConstFault.{ConstFault}
use Rattle.elab_const.specs.declared.fault.ConstFault.TheVariants.{NoMemory, At}

-- an answer, with its fault as callers see it
abbrev pub told : {A : Type 0} → Result A Fault → Result A ConstFault
told (Ok x) = Ok x
told (Err f) = Err (At f.kind f.place)

-- what was returned is the answer, unless memory ran out
abbrev pub Gives : {A : Type 0} → Result A ConstFault → Result A Fault → Type 0
Gives (Ok x) answer = answer ≡ Ok x
Gives (Err NoMemory) answer = Unit {0}
Gives (Err (At kind place)) answer = answer ≡ Err (fault_at kind place)
