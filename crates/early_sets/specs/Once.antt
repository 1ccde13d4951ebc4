-- Lists without repetition.
use Rattle.std.specs.Prelude.{◌≡◌, ◌<◌, ℕ, List, length, slice_index}
use Rattle.index_sets.specs.Members.{Members}

-- no number is at two places of the list
abbrev pub IsOnce : List ℕ → Type 0
IsOnce xs = (j k : ℕ) → j < k → k < length xs → slice_index xs j ≡ slice_index xs k → ⊥

-- each set of a step has its members once
pub record AreOnce (noted moves woken early : Members) : Type 0 where
  pub noted_once : IsOnce noted.items
  pub moves_once : IsOnce moves.items
  pub woken_once : IsOnce woken.items
  pub early_once : IsOnce early.items
