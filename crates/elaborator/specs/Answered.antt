-- The top and all below it, and what is answered in place of a design.
use Rattle.std.specs.Prelude.{◌≡◌, ◌⊎◌, ℕ, List, [], ◌∷◌, Option, Some, None, Err}
use Rattle.verilog_tree.specs.Tree.{Module}
use Rattle.flat_design.specs.Bodies.{met_fault}
use Rattle.flat_design.specs.Fault.{Fault, missing_top, told}
use Rattle.flat_design.specs.Faults.{answer}
use Rattle.flat_design.specs.Flat.{instance, top_instance}
use Rattle.flat_design.specs.Instances.{Sofar, meet}
use Rattle.flat_design.specs.declared.fault.ElabFault.{ElabFault}
use Rattle.flat_design.specs.declared.fault.ElabFault.TheVariants.{NoMemory}

-- the top and all below it, or the fault of a missing top, after what was found before
abbrev pub walked_top : ℕ → List Module → List ℕ → Option Module → Sofar → Sofar
walked_top base ms top None st = meet (met_fault (missing_top top) ∷ []) st
walked_top base ms top (Some m) st = instance base ms 64 (top_instance top m) st

-- want of memory, or the first fault of the modules with this top
abbrev pub IsAnsweredFault : List Module → List ℕ → ElabFault → Type 0
IsAnsweredFault ms top fault = (fault ≡ NoMemory) ⊎ ((f : Fault) × (answer ms top ≡ Err f) × (fault ≡ told f))
