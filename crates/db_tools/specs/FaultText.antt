-- The refusals of a point in messages.
use Rattle.std.specs.Prelude.{ℕ, List, codes}
use Rattle.db_tools.specs.declared.fault.ToolFault.{ToolFault}
use Rattle.db_tools.specs.declared.fault.ToolFault.TheVariants.{NoPoint, AlreadyOut, NotOut}

-- the number and the name of a refusal
abbrev pub refusal_text : ToolFault → List ℕ
refusal_text NoPoint = codes "6 NoPoint"
refusal_text AlreadyOut = codes "7 AlreadyOut"
refusal_text NotOut = codes "8 NotOut"
