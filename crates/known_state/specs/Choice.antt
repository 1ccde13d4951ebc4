-- `c ? a : b` on partly known vectors, where the condition is whole.
use Rattle.four_state.specs.declared.truth.Truth.{Truth}
use Rattle.four_state.specs.declared.truth.Truth.TheVariants.{True, False, Strange}
use Rattle.four_state.specs.Operators.{merge_bit, zip_bits}
use Rattle.known_state.specs.Partly.{Partly, with_blame}
use Rattle.known_state.specs.Agreed.{both_moved}
use Rattle.known_state.specs.Join.{first_blame}

-- one of the sides, or what their merge has in common for all 0 and all 1
abbrev pub chosen_of : Truth → Partly → Partly → Partly
chosen_of True a b = a
chosen_of False a b = b
chosen_of Strange a b = with_blame (both_moved (zip_bits merge_bit) a.bits b.bits) a.signed (first_blame a b)
