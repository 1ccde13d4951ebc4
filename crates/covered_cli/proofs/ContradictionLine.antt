-- The line of a contradiction, from its parts.
use Rattle.std.proofs.Common.{◌≡◌, ℕ, List, ◌∷◌, ◌++◌, append_assoc, rules}
use Rattle.std.specs.Prelude.{codes, decimal}
use Rattle.known_digits.specs.Digits.{digits_of}
use Rattle.known_state.specs.Partly.{Partly, whole_of}
use Rattle.covered_cli.specs.Contradiction.{contradiction_line}
use Rattle.covered_cli.specs.declared.contradiction.Contradiction.{Contradiction}

pub parts_line : (x : Contradiction) (path path_name instance name time dumped computed : List ℕ) (whole : Partly)
    → instance ≡ path → name ≡ path_name → time ≡ decimal x.time → dumped ≡ digits_of whole.bits → whole ≡ whole_of x.dumped → computed ≡ digits_of x.computed.bits
    → codes "covered: contradiction: " ++ instance ++ codes "." ++ name ++ codes " at " ++ time ++ codes ": dumped " ++ dumped ++ codes ", computed " ++ computed ++ codes "\n"
    ≡ contradiction_line (record x { path = path ++ 46 ∷ path_name })
parts_line x path path_name instance name time dumped computed whole is_instance is_name is_time is_dumped is_whole is_computed =
    search (rules, append_assoc, is_instance, is_name, is_time, is_dumped, is_whole, is_computed)
