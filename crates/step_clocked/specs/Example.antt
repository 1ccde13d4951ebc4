-- An example of the order in which clean processes run.
use Rattle.std.specs.Prelude.{◌≡◌, ◌==◌, ◌∷◌, ℕ, if◌then◌else◌, []}
use Rattle.replay_sets.specs.replay_model.Step.{in_rounds}

-- the trigger of process 1 became single in round 2 and that of 3 in round 1; those of the others are inputs
abbrev pub round_example : ℕ → ℕ
round_example p = if p == 1 then 2 else (if p == 3 then 1 else 0)

-- those of an earlier round run first, whatever their numbers, and those of one round in their order
abbrev pub IsOrderExample : Type 0
IsOrderExample = in_rounds round_example (1 ∷ 2 ∷ 3 ∷ 4 ∷ []) ≡ 2 ∷ 4 ∷ 3 ∷ 1 ∷ []
