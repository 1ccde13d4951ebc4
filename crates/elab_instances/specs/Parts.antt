-- What a declared name adds to the lists of the design.
use Rattle.std.specs.Prelude.{ℕ, Bool, if◌then◌else◌, List, [], ◌∷◌}
use Rattle.design_model.specs.declared.design.Memory.{Memory}
use Rattle.design_model.specs.declared.design.Signal.{Signal}
use Rattle.flat_design.specs.Declarations.{Declaration}
use Rattle.flat_design.specs.Instances.{memory_of, signal_of}
use Rattle.elab_instances.specs.Linked.{Linked}
use Rattle.elab_instances.specs.Roles.{is_memory_role, is_own_role, role_of}

-- the signal of a name, if it is one of the instance's own
abbrev pub own_signals : ℕ → Bool → Linked → Declaration → List Signal
own_signals i is_top l d = if is_own_role (role_of l d) then signal_of i is_top d ∷ [] else []

-- the memory of a name, if it is one
abbrev pub own_memories : ℕ → Linked → Declaration → List Memory
own_memories i l d = if is_memory_role (role_of l d) then memory_of i d ∷ [] else []
