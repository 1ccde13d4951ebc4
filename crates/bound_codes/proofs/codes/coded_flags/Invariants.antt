use Rattle.std.proofs.Common.{take}
use Rattle.bound_codes.specs.Codes.{AreWanted}
use Rattle.bound_codes.proofs.codes.coded_flags.Given as goal

abbrev pub invariant-loop-code : goal.invariant-loop-code
invariant-loop-code l = AreWanted (take l.code-index l.codes) l.flags.items
