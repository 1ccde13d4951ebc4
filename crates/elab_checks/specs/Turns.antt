-- The faults of the header of a loop in parts, and the scope after its turns.
use Rattle.std.specs.Prelude.{ℕ, Bool, not, ◌&&◌, ◌||◌, List, ◌++◌, Option, Some, None}
use Rattle.verilog_tree.specs.Tree.{Header}
use Rattle.flat_design.specs.Fault.{Fault, none}
use Rattle.flat_design.specs.Loops.{over_faults, named_faults, in_some_turn}
use Rattle.flat_design.specs.Scope.{Scope, names_faulty, with_entry}
use Rattle.flat_design.specs.declared.entry.Entry.{Entry}
use Rattle.elab_scope.specs.Entries.{without_entry}

-- the faults of the names of a header outside its turns
abbrev pub outer_faults : Scope → Header → List Fault
outer_faults g h = over_faults g h ++ named_faults g h.place h.first

-- the faults of its names in the scope of a turn
abbrev pub inner_faults : Scope → Header → List Fault
inner_faults g h = named_faults g h.place h.test ++ named_faults g h.place h.step

-- outside its turns it names something whose declaration has a fault
abbrev pub outer_names_faulty : Scope → Header → Bool
outer_names_faulty g h = names_faulty g h.name || names_faulty g h.first

-- in a turn it does
abbrev pub inner_names_faulty : Scope → Header → Bool
inner_names_faulty g h = names_faulty g h.test || names_faulty g h.step

-- a header without a fault of names, which names nothing that has one
abbrev pub is_sound : Scope → Header → Bool
is_sound g h = (none (outer_faults g h) && not (outer_names_faulty g h)) && (none (inner_faults (in_some_turn h g) h) && not (inner_names_faulty (in_some_turn h g) h))

-- the scope where x has the meaning that it had before, if it had one
abbrev pub restored : List ℕ → Option Entry → Scope → Scope
restored x None g = without_entry x g
restored x (Some e) g = with_entry x e g
