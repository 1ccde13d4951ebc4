-- What the registers p and q and the memory of the design contain.
use Rattle.std.specs.Prelude.{if◌then◌else◌, slice_index, slice_set, replicate}
use Rattle.selfrun_files.specs.declared.inputs.Inputs.{Inputs}
use Rattle.selfrun_files.specs.declared.registers.Registers.{Registers}

-- all are 0
abbrev pub no_values : Registers
no_values = record { p = 0; q = 0; words = replicate 16 0 }

-- after a rising edge of the clock: p is d, and the word a is what p was, or q is the word a
abbrev pub clocked : Inputs → Registers → Registers
clocked inputs r = record {
  p = inputs.d;
  q = if inputs.we then r.q else slice_index r.words inputs.a;
  words = if inputs.we then slice_set r.words inputs.a r.p else r.words;
}
