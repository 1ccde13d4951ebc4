-- Which integers of a module are signals.
use Rattle.std.specs.Prelude.{ℕ, Bool, not, ◌&&◌, List}
use Rattle.elab_scope.specs.NameSet.{has}
use Rattle.elab_instances.specs.declared.used.Uses.{Uses}

-- an integer that is used, and over which no loop goes
abbrev pub named_by : Uses → List ℕ → Bool
named_by u x = has u.used x && not (has u.loops x)
