-- Names that are bound, and others after them.
use Rattle.std.specs.Prelude.{ℕ, List, Option}
use Rattle.std.specs.Option.{option_or}
use Rattle.elab_scope.specs.NameMap.{bound_to}

-- what each name is bound to; what was bound before goes first
abbrev pub or_bound : {V : Type 0} → (List ℕ → Option V) → List (List ℕ × V) → List ℕ → Option V
or_bound g bs x = option_or (g x) (bound_to bs x)
