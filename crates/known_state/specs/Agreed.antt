-- What an answer has in common for a few values of the bits that are not sure.
use Rattle.std.specs.Prelude.{List, map, Option, Some}
use Rattle.four_state.specs.declared.bit.Bit.{Bit}
use Rattle.four_state.specs.declared.bit.Bit.TheVariants.{Zero, One, X}
use Rattle.known_state.specs.Partly.{filled, filled_from}
use Rattle.known_state.specs.Join.{joined}

-- all bits sure
abbrev pub sure : List Bit → List (Option Bit)
sure bs = map Some bs

-- for all 0 and all 1
abbrev pub moved : (List Bit → List Bit) → List (Option Bit) → List (Option Bit)
moved f ps = joined (sure (f (filled Zero ps))) (sure (f (filled One ps)))

-- for all 0, all 1 and all x
abbrev pub agreed : (List Bit → List Bit) → List (Option Bit) → List (Option Bit)
agreed f ps = joined (moved f ps) (sure (f (filled X ps)))

-- the same of two operands
abbrev pub both_moved : (List Bit → List Bit → List Bit) → List (Option Bit) → List (Option Bit) → List (Option Bit)
both_moved f ps qs = joined (sure (f (filled Zero ps) (filled Zero qs))) (sure (f (filled One ps) (filled One qs)))

-- for all 0, all 1, 0 against 1, all x, and each operand with the bits of the other
abbrev pub both_agreed : (List Bit → List Bit → List Bit) → List (Option Bit) → List (Option Bit) → List (Option Bit)
both_agreed f ps qs =
    joined (joined (joined (both_moved f ps qs) (sure (f (filled Zero ps) (filled One qs)))) (sure (f (filled X ps) (filled X qs)))) (sure (f (filled_from ps (filled Zero qs)) (filled_from qs (filled Zero ps))))
