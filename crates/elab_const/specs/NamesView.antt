-- The names that the code looks up.
use Rattle.std.specs.Prelude.{ℕ, List, ◌∷◌, Option, Some, None}
use Rattle.elab_const.specs.Scope.{Entry}
use Rattle.elab_const.specs.declared.names.LoopTurn.{LoopTurn}

-- those of a scope, and a loop variable, which goes before them
abbrev pub bindings_of : Option LoopTurn → List (List ℕ × Entry) → List (List ℕ × Entry)
bindings_of None bindings = bindings
bindings_of (Some turn) bindings = (turn.variable.now, turn.entry.now) ∷ bindings
