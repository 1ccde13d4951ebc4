-- Which runs of a design of inputs show what a dump says of it.
use Rattle.std.specs.Prelude.{ℕ, List, map}
use Rattle.design_model.specs.Design.{Design as Tree}
use Rattle.design_model.specs.Run.{Run}
use Rattle.design_model.specs.Shows.{AreStretches, BoundDump, IsContradicted}
use Rattle.design_model.specs.View.{design_view}
use Rattle.design_model.specs.declared.design.Design.{Design}
use Rattle.event_machine.specs.Habit.{Free}
use Rattle.shown_dumps.specs.Shown.{bound_dump}
use Rattle.vcd_reader.specs.Dump.{Dump, times_of}
use Rattle.verdict_laws.specs.Sound.{IsShownBy}
use Rattle.input_laws.specs.Inputs.{HasInputsAlone}

-- some run of the design, whose inputs move freely, shows the dump
abbrev pub SomeRunShows : Tree → BoundDump → Type 0
SomeRunShows d dump = (r : Run) × IsShownBy d Free dump r

-- Shown law: whatever a dump with stretches in order says of a design of inputs, some run of the design shows it.
abbrev pub ShownLaw : Type 0
ShownLaw = (design : Design) (dump : Dump) (instance : List ℕ) → HasInputsAlone (design_view design) → AreStretches (map times_of dump.stretches) → SomeRunShows (design_view design) (bound_dump design dump instance)

-- No-contradiction law: so at no time is a dump contradicted by a design of inputs.
abbrev pub NoContradictionLaw : Type 0
NoContradictionLaw =
    (design : Design) (dump : Dump) (instance : List ℕ) (t : ℕ) → HasInputsAlone (design_view design) → AreStretches (map times_of dump.stretches) → IsContradicted (design_view design) Free (bound_dump design dump instance) t → ⊥
