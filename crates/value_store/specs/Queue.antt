-- Items in order with room for so many.
use Rattle.std.specs.Prelude.{ℕ, List}

-- the items in order, and how many there is room for
pub record Queue (A : Type 0) : Type 0 where
  pub items : List A
  pub room : ℕ
