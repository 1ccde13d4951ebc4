-- The rounds of a step: which things are single in each, and what may then move.
use Rattle.std.specs.Prelude.{◌≡◌, ◌⊎◌, ◌↔◌, ◌+◌, ◌||◌, ◌&&◌, if◌then◌else◌, ℕ, Bool, true, false, not, List, [], ◌∷◌, Option, Some, None, is_none, is_some, length, slice_index_or}
use Rattle.std.specs.List.{Contains}
use Rattle.early_sets.specs.Has.{is_in}
use Rattle.early_sets.specs.Reached.{IsWoken, Reached}
use Rattle.early_sets.specs.WakeState.{WakeState, edges_at, is_single, is_told, nothing_left, trigger_of, waker_of}

-- the block that writes thing x, where x may become single
abbrev pub writer_at : WakeState → ℕ → Option ℕ
writer_at w x = slice_index_or w.writers x None

-- the process cannot wake or is clean, so that it is evaluated at most once
abbrev pub runs_at_most_once : WakeState → ℕ → Bool
runs_at_most_once w p = is_none (waker_of w p) || is_some (trigger_of w p)

-- the thing is written by a block that is evaluated at most once
abbrev pub is_written_by : WakeState → Option ℕ → Bool
is_written_by w None = false
is_written_by w (Some p) = runs_at_most_once w p

-- the thing may move, and becomes single in the next round
abbrev pub becomes_single : WakeState → ℕ → Bool
becomes_single w x = is_in w.moves x && (not (is_single w x) && is_written_by w (writer_at w x))

-- the number of the round in which the thing became single
abbrev pub round_at : WakeState → ℕ → ℕ
round_at w x = if is_told w x then 0 else slice_index_or w.rounds x 0

-- what may move and which processes that may wake are found
pub record HasMoves (w : WakeState) : Type 0 where
  pub moves : (x : ℕ) → Contains w.moves x ↔ Reached w.tables (edges_at w) nothing_left (Contains w.noted) x
  pub woken : (p : ℕ) → Contains w.woken p ↔ IsWoken w.tables (edges_at w) nothing_left (Contains w.noted) p

-- b is the round after round n, a: what becomes single is so, at least one thing does, and nothing else changes
pub record IsNextRound (n : ℕ) (a b : WakeState) : Type 0 where
  pub rest : b ≡ record a { derived = b.derived; rounds = b.rounds; moves = b.moves; woken = b.woken }
  pub derived : (x : ℕ) → Contains b.derived x ↔ (Contains a.derived x ⊎ (becomes_single a x ≡ true))
  pub now : (x : ℕ) → becomes_single a x ≡ true → slice_index_or b.rounds x 0 ≡ n + 1
  pub before : (x : ℕ) → becomes_single a x ≡ false → slice_index_or b.rounds x 0 ≡ slice_index_or a.rounds x 0
  pub some : (x : ℕ) × (becomes_single a x ≡ true)
  pub moves : HasMoves b

-- the states of the rounds, the last one first; in round 0 the inputs whose changes are reported are single
abbrev pub AreRounds : List WakeState → Type 0
AreRounds [] = ⊥
AreRounds (a ∷ []) = (a.derived ≡ []) × HasMoves a
AreRounds (b ∷ a ∷ earlier) = IsNextRound (length earlier) a b × AreRounds (a ∷ earlier)
