use Rattle.std.proofs.Common.{take}
use Rattle.signal_binding.specs.Table.{AreCodesAmong}
use Rattle.signal_binding.proofs.binding.add_aliases.Given as goal

abbrev pub invariant-loop-alias : goal.invariant-loop-alias
invariant-loop-alias l = AreCodesAmong l.table l.design (take l.alias-index l.design.aliases) l.codes
