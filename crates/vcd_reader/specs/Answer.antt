-- What reading answers: a value, or the fault that is first.
use Rattle.std.specs.Prelude.{◌≡◌, ℕ, Bool, if◌then◌else◌, Option, Some, None, Result, Ok, Err}
use Rattle.vcd_reader.specs.declared.fault.DumpKind.{DumpKind}
use Rattle.vcd_reader.specs.declared.fault.DumpFault.{DumpFault}
use Rattle.vcd_reader.specs.declared.fault.DumpFault.TheVariants as dump_fault

abbrev pub Answer : Type 0 → Type 0
Answer A = Result A DumpFault

-- a fault of this kind at this byte, if the test holds
abbrev pub fault_if : Bool → DumpKind → ℕ → Option DumpFault
fault_if test kind byte = if test then Some (dump_fault.At kind byte) else None

-- the value, if there is no fault
abbrev pub unless : {A : Type 0} → Option DumpFault → A → Answer A
unless None value = Ok value
unless (Some fault) value = Err fault

-- the fault is the one that the definition gives, if it is not want of memory
abbrev pub IsFault : {A : Type 0} → Answer A → DumpFault → Type 0
IsFault given dump_fault.NoMemory = Unit {0}
IsFault given (dump_fault.At kind byte) = given ≡ Err (dump_fault.At kind byte)
