-- The faults of elaboration in messages.
use Rattle.std.specs.Prelude.{ℕ, List, codes}
use Rattle.flat_design.specs.declared.fault.ElabKind.{ElabKind}
use Rattle.flat_design.specs.declared.fault.ElabKind.TheVariants.{NoModule, TwoModules, Recursion, Undeclared, TwiceDeclared, PortMismatch, TwoDrivers, MixedAssign, Incomplete, EventNotBit, SelfAssign, Limit, WrongTarget, WrongUse}

-- the stage, the number and the name of a fault
abbrev pub elab_text : ElabKind → List ℕ
elab_text NoModule = codes "elab 1 NoModule"
elab_text TwoModules = codes "elab 2 TwoModules"
elab_text Recursion = codes "elab 3 Recursion"
elab_text Undeclared = codes "elab 4 Undeclared"
elab_text TwiceDeclared = codes "elab 5 TwiceDeclared"
elab_text PortMismatch = codes "elab 6 PortMismatch"
elab_text TwoDrivers = codes "elab 7 TwoDrivers"
elab_text MixedAssign = codes "elab 8 MixedAssign"
elab_text Incomplete = codes "elab 9 Incomplete"
elab_text EventNotBit = codes "elab 10 EventNotBit"
elab_text SelfAssign = codes "elab 11 SelfAssign"
elab_text Limit = codes "elab 12 Limit"
elab_text WrongTarget = codes "elab 13 WrongTarget"
elab_text WrongUse = codes "elab 14 WrongUse"
