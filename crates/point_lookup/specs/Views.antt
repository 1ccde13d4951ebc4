-- What contracts see of the types of the code.
use Rattle.std.specs.Prelude.{◌≡◌, ℕ, List, Option, Some, None}

-- what a function took, seen by view, and the fields that it left are what reading gives
abbrev pub Took : {X Y : Type 0} → (X → Y) → Option X → List (List ℕ) → Option (Y × List (List ℕ)) → Type 0
Took view None left read = read ≡ None
Took view (Some x) left read = read ≡ Some (view x, left)
