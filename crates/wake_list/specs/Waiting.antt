-- The processes that are to run, each with its rank, in the order in which they are taken.
use Rattle.std.specs.Prelude.{◌+◌, ◌++◌, if◌then◌else◌, ℕ, Bool, List, [], ◌∷◌, map, nat_le}
use Rattle.wake_list.specs.Members.{IsOnce, has}

-- a number that all processes and ranks are below, and the processes with their ranks
pub record Waiting : Type 0 where
  pub count : ℕ
  pub pairs : List (ℕ × ℕ)

-- the process is on the list
abbrev pub is_waiting : ℕ → List (ℕ × ℕ) → Bool
is_waiting p pairs = has p (map (λ x. x.0) pairs)

-- no process is on the list twice
abbrev pub AreOnce : List (ℕ × ℕ) → Type 0
AreOnce pairs = IsOnce (map (λ x. x.0) pairs)

-- a process is put after all those whose rank is not greater
abbrev pub with_process : ℕ → ℕ → List (ℕ × ℕ) → List (ℕ × ℕ)
with_process p rank [] = (p, rank) ∷ []
with_process p rank (x ∷ xs) = if nat_le x.1 rank then x ∷ with_process p rank xs else (p, rank) ∷ x ∷ xs

-- the processes of lists of equal rank, where the first list has this rank
abbrev pub pairs_from : ℕ → List (List ℕ) → List (ℕ × ℕ)
pairs_from rank [] = []
pairs_from rank (ps ∷ lists) = map (λ p. (p, rank)) ps ++ pairs_from (rank + 1) lists
