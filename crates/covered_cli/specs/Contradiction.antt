-- What is warned of a dump that no run of the design shows.
use Rattle.std.specs.Prelude.{ℕ, List, ◌++◌, codes, decimal, map, Some}
use Rattle.known_digits.specs.Digits.{digits_of}
use Rattle.covered_cli.specs.declared.contradiction.Contradiction.{Contradiction}

-- the line that is warned: the signal, the time, what the dump says of the signal then, and what the design makes of it
abbrev pub contradiction_line : Contradiction → List ℕ
contradiction_line x =
    codes "covered: contradiction: " ++ x.path ++ codes " at " ++ decimal x.time ++ codes ": dumped " ++ digits_of (map Some x.dumped.bits) ++ codes ", computed " ++ digits_of x.computed.bits ++ codes "\n"
