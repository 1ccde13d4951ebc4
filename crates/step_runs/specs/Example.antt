-- Examples of the order of processes and of what they assign.
use Rattle.std.specs.Prelude.{◌≡◌, ◌∷◌, ℕ, true, false, List, [], Option, Some, None}
use Rattle.design_model.specs.Design.{process_at}
use Rattle.design_model.specs.FlipFlop.{flip_flop}
use Rattle.step_runs.specs.Rows.{written_names}
use Rattle.step_runs.specs.Runs.{is_ordered}

-- processes 2, 3 and 0 are in this order, and 1 is not
abbrev pub three_places : List (Option ℕ)
three_places = Some 2 ∷ None ∷ Some 0 ∷ Some 1 ∷ []

-- where the first two of them are ordered
pub record IsOrderExample : Type 0 where
  pub first : is_ordered three_places 2 2 ≡ true
  pub second : is_ordered three_places 2 3 ≡ true
  pub last : is_ordered three_places 2 0 ≡ false
  pub not_listed : is_ordered three_places 2 1 ≡ false
  pub past : is_ordered three_places 2 4 ≡ false

-- both branches of the register assign signal 2
abbrev pub IsWrittenExample : Type 0
IsWrittenExample = written_names (process_at flip_flop 0) ≡ 2 ∷ 2 ∷ []
