-- What is put into a set that keeps the order in which its members were put in.
use Rattle.std.specs.Prelude.{◌≡◌, ◌⊎◌, ◌++◌, ℕ, List}
use Rattle.std.specs.List.{Contains}
use Rattle.early_sets.specs.Once.{IsOnce}

-- the members that were there stay at their places
pub record Extends (before after : List ℕ) : Type 0 where
  pub more : List ℕ
  pub is : after ≡ before ++ more

-- exactly the numbers with P are put in, each once
pub record Adds (P : ℕ → Type 0) (before after : List ℕ) : Type 0 where
  pub extends : Extends before after
  pub only : (x : ℕ) → Contains after x → Contains before x ⊎ P x
  pub all : (x : ℕ) → P x → Contains after x
  pub once : IsOnce before → IsOnce after
