-- Places in the lists of a design by instance and name.
use Rattle.std.specs.Prelude.{◌≡◌, ◌<◌, ℕ, List, [], length, slice_index_or, false}
use Rattle.design_model.specs.Design.{no_signal}
use Rattle.design_model.specs.declared.design.Alias.{Alias}
use Rattle.design_model.specs.declared.design.Constant.{Constant}
use Rattle.design_model.specs.declared.design.Signal.{Signal}

-- what is past the ends of the lists
abbrev pub no_alias : Alias
no_alias = record { instance = 0; name = []; signal = 0 }

abbrev pub no_constant : Constant
no_constant = record { instance = 0; name = []; value = record { bits = []; signed = false } }

-- the signal at this place has the name in the instance
abbrev pub IsSignalAt : List Signal → ℕ → List ℕ → ℕ → Type 0
IsSignalAt ss i name k = (k < length ss) × ((slice_index_or ss k no_signal).instance ≡ i) × ((slice_index_or ss k no_signal).name ≡ name)

-- so has the alias
abbrev pub IsAliasAt : List Alias → ℕ → List ℕ → ℕ → Type 0
IsAliasAt xs i name k = (k < length xs) × ((slice_index_or xs k no_alias).instance ≡ i) × ((slice_index_or xs k no_alias).name ≡ name)

-- so has the parameter
abbrev pub IsConstantAt : List Constant → ℕ → List ℕ → ℕ → Type 0
IsConstantAt cs i name k = (k < length cs) × ((slice_index_or cs k no_constant).instance ≡ i) × ((slice_index_or cs k no_constant).name ≡ name)
