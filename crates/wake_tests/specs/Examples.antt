-- A row of bits, worked out.
use Rattle.std.specs.Prelude.{List, [], ◌∷◌}
use Rattle.process_targets.specs.declared.bits.Bits.{Bits}

-- bits 0 and 2 of signal 2, and no bits of signal 4
abbrev pub two_signals : List Bits
two_signals = record { signal = 2; mask = 5 } ∷ record { signal = 4; mask = 0 } ∷ []
