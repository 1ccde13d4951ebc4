-- The faults of modules: those found up to the first limit that is passed, and which of them is the first.
use Rattle.std.specs.Prelude.{ℕ, ◌+◌, ◌==◌, nat_lt, if◌then◌else◌, List, [], ◌∷◌, ◌++◌, Option, Some, None, Result, Ok, Err}
use Rattle.design_model.specs.Design.{Design, In}
use Rattle.verilog_tree.specs.declared.item.Named.{Named}
use Rattle.verilog_tree.specs.Tree.{Module}
pub use Rattle.flat_design.specs.declared.counts.Counts.{Counts}
use Rattle.flat_design.specs.declared.fault.DesignLimit.TheVariants.{Signals, Processes, Words, Instances, Statements, Text}
use Rattle.flat_design.specs.Bodies.{Met, met_fault, met_signal, met_words, met_process, met_instance, met_statement, met_text, met_writing}
use Rattle.flat_design.specs.Fault.{Fault, fault_at, limit_fault, fault_if, is_limit, first_fault, TwoModules}
use Rattle.flat_design.specs.Flat.{elaborated}
use Rattle.flat_design.specs.Identifiers.{is_among}
use Rattle.flat_design.specs.Processes.{writings, driver_faults}

-- nothing counted yet
abbrev pub nothing : Counts
nothing = record { signals = 0; processes = 0; words = 0; instances = 0; statements = 0; text = 0 }

-- the faults found in order, up to the first limit that is passed; the rest follows where no limit is passed
abbrev pub told : Counts → List Fault → List Met → List Fault
told c rest [] = rest
told c rest (met_fault f ∷ ms) = f ∷ (if is_limit f then [] else told c rest ms)
told c rest (met_signal p ∷ ms) = if c.signals == 65536 then limit_fault Signals p ∷ [] else told (record c { signals = c.signals + 1 }) rest ms
told c rest (met_process p ∷ ms) = if c.processes == 65536 then limit_fault Processes p ∷ [] else told (record c { processes = c.processes + 1 }) rest ms
told c rest (met_words p n ∷ ms) = if nat_lt 262144 (c.words + n) then limit_fault Words p ∷ [] else told (record c { words = c.words + n }) rest ms
told c rest (met_instance p ∷ ms) = if c.instances == 65536 then limit_fault Instances p ∷ [] else told (record c { instances = c.instances + 1 }) rest ms
told c rest (met_statement p ∷ ms) = if c.statements == 1048576 then limit_fault Statements p ∷ [] else told (record c { statements = c.statements + 1 }) rest ms
told c rest (met_text p n ∷ ms) = if nat_lt 134217728 (c.text + n) then limit_fault Text p ∷ [] else told (record c { text = c.text + n }) rest ms
told c rest (met_writing w ∷ ms) = told c rest ms

-- two modules of one name
abbrev pub two_modules : List Named → List Module → List Fault
two_modules sofar [] = []
two_modules sofar (m ∷ ms) = fault_if (is_among sofar m.name.name) (fault_at TwoModules m.name) ++ two_modules (m.name ∷ sofar) ms

-- the faults of modules with this top, as elaboration meets them; drivers are compared at the end
abbrev pub faults_of : List Module → List ℕ → List Fault
faults_of ms top = two_modules [] ms ++ told nothing (driver_faults (writings (elaborated ms top).met)) (elaborated ms top).met

-- the modules have the fault
abbrev pub Stands : List Module → List ℕ → Fault → Type 0
Stands ms top f = In f (faults_of ms top)

-- the design, or the fault if there is one
abbrev pub design_or : Design → Option Fault → Result Design Fault
design_or d None = Ok d
design_or d (Some f) = Err f

-- what elaboration answers: the flat design, or the first fault
abbrev pub answer : List Module → List ℕ → Result Design Fault
answer ms top = design_or (elaborated ms top).design (first_fault (faults_of ms top))

-- the flat design, where there is no fault
abbrev pub some_design : Result Design Fault → Option Design
some_design (Ok d) = Some d
some_design (Err f) = None

-- the flat design of modules and a top
abbrev pub flat : List Module → List ℕ → Option Design
flat ms top = some_design (answer ms top)
