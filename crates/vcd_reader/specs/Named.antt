-- Faults of a text.
use Rattle.vcd_reader.specs.declared.fault.DumpFault.{DumpFault}
use Rattle.vcd_reader.specs.declared.fault.DumpFault.TheVariants.{NoMemory, At}

-- the fault has a kind and a byte: it is not want of memory
abbrev pub IsNamed : DumpFault → Type 0
IsNamed NoMemory = ⊥
IsNamed (At kind byte) = Unit {0}
