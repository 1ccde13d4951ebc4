-- What a sink of names takes.
use Rattle.std.specs.Prelude.{ℕ, List, ◌++◌}

-- whatever numbers the sink took since any start, it has then taken these too
pub record TakesNames {T S : Type 0} (named : T → List ℕ → S → Type 0) (before : S) (names : List ℕ) (after : S) : Type 0 where
  pub taken : (start : T) (earlier : List ℕ) → named start earlier before → named start (earlier ++ names) after
