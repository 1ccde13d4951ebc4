-- The addresses of points among words.
use Rattle.std.specs.Prelude.{ℕ, if◌then◌else◌, List, [], ◌∷◌, Option, Some, None}
use Rattle.command_line.specs.declared.database_option.DatabaseOption.{DatabaseOption}
use Rattle.command_line.specs.declared.database_option.DatabaseOption.TheVariants.{Point}
use Rattle.command_line.specs.declared.point_addresses.PointAddresses.{PointAddresses}
use Rattle.command_line.specs.DatabaseOption.{option_named, takes_value}
use Rattle.command_line.specs.WordsLeft.{left_words}

-- the word after `-point` is an address; a database is left out, and any other option, with its value if it takes one
abbrev pub address_or_other : Option DatabaseOption → List ℕ → List (List ℕ) → List (List ℕ) → List (List ℕ)
address_or_other None next others behind = others
address_or_other (Some Point) next others behind = next ∷ behind
address_or_other (Some option) next others behind = if takes_value option then behind else others

-- the values of `-point` among the words of a command
abbrev pub addresses_among : List (List ℕ) → List (List ℕ)
addresses_among [] = []
addresses_among (word ∷ []) = []
addresses_among (word ∷ next ∷ words) = address_or_other (option_named word) next (addresses_among (next ∷ words)) (addresses_among words)

-- the addresses among the words that are left
abbrev pub addresses_of : PointAddresses → List (List ℕ)
addresses_of addresses = addresses_among (left_words addresses.words)
