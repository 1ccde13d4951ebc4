-- The nets that are assigned the values that they are declared with.
use Rattle.std.specs.Prelude.{not, ◌&&◌, ◌||◌, if◌then◌else◌, List, [], ◌∷◌, Option, Some, None}
use Rattle.verilog_tree.specs.Tree.{Expr}
use Rattle.flat_design.specs.Expressions.{faults}
use Rattle.flat_design.specs.Fault.{Fault, none}
use Rattle.flat_design.specs.Processes.{self_reads}
use Rattle.flat_design.specs.Scope.{Scope, names_faulty}
use Rattle.flat_design.specs.Targets.{Writing}
use Rattle.flat_design.specs.declared.entry.Entry.{Entry}
use Rattle.flat_design.specs.declared.entry.Entry.TheVariants.{Signal}
use Rattle.flat_design.specs.declared.entry.SignalEntry.{SignalEntry}

-- the net that a continuous assignment to a name drives
abbrev pub driven_net : Option Entry → Option SignalEntry
driven_net (Some (Signal s)) = if s.input || not s.net then None else Some s
driven_net _ = None

-- the reads in a value without a fault of bits that w drives
abbrev pub value_reads : Scope → Writing → Expr → List Fault
value_reads g w v = if none (faults g v) && not (names_faulty g v) then self_reads g (w ∷ []) v else []
