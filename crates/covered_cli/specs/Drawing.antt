-- The first machine of the words that cannot be drawn, and its name at fault.
use Rattle.std.specs.Prelude.{◌≡◌, ◌<◌, ℕ, List, [], length, slice_index_or}
use Rattle.command_line.specs.DrawingWords.{DrawingNames}
use Rattle.design_model.specs.Design.{Design}
use Rattle.drawn_machines.specs.Drawing.{IsNoMachine}
use Rattle.drawn_machines.specs.fsm_extract.declared.names.MachinePart.{MachinePart}
use Rattle.covered_cli.specs.ScoreMachines.{IsPlacedFor, part_name}

-- what a list gives past its end
abbrev pub no_drawing : DrawingNames
no_drawing = record { of_module = []; current = []; next = [] }

-- the value at a place
abbrev pub drawing_at : List DrawingNames → ℕ → DrawingNames
drawing_at xs k = slice_index_or xs k no_drawing

-- the name is that of one value at fault
abbrev pub IsNoMachineFor : Design → DrawingNames → List ℕ → Type 0
IsNoMachineFor d m name = (part : MachinePart) × IsNoMachine d m.of_module m.current m.next part × (name ≡ part_name m part)

-- it is that of the first value with a name at fault
abbrev pub IsNoMachineOf : Design → List DrawingNames → List ℕ → Type 0
IsNoMachineOf d xs name = (k : ℕ) × (k < length xs) × IsNoMachineFor d (drawing_at xs k) name × ((j : ℕ) → j < k → IsPlacedFor d (drawing_at xs j))
