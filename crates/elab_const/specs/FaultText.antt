-- The faults of constants, widths and loops in messages.
use Rattle.std.specs.Prelude.{ℕ, List, codes}
use Rattle.elab_const.specs.declared.fault.ConstKind.{ConstKind}
use Rattle.elab_const.specs.declared.fault.ConstKind.TheVariants.{NotConstant, TooWide, LoopNotConstant, LoopTooLong, BadRange}

-- the stage, the number and the name of a fault
abbrev pub const_text : ConstKind → List ℕ
const_text NotConstant = codes "const 1 NotConstant"
const_text TooWide = codes "const 2 TooWide"
const_text LoopNotConstant = codes "const 3 LoopNotConstant"
const_text LoopTooLong = codes "const 4 LoopTooLong"
const_text BadRange = codes "const 5 BadRange"
