-- What elaboration has found so far: the first fault, what the limits count, and what is written.
use Rattle.std.specs.Prelude.{◌+◌, ◌==◌, nat_lt, Bool, if◌then◌else◌, List, [], ◌∷◌, ◌++◌, Option, Some, None, true, false}
use Rattle.flat_design.specs.Bodies.{Met, met_fault, met_signal, met_words, met_process, met_instance, met_statement, met_text, met_writing, met_faults}
use Rattle.flat_design.specs.Fault.{Fault, goes_before, is_limit, limit_fault}
use Rattle.flat_design.specs.Faults.{nothing}
use Rattle.flat_design.specs.declared.counts.Counts.{Counts}
use Rattle.flat_design.specs.Targets.{Writing}
use Rattle.flat_design.specs.declared.fault.DesignLimit.TheVariants.{Signals, Processes, Words, Instances, Statements, Text}

-- what was met up to the first limit that is passed
pub record Tally : Type 0 where
  pub first : Option Fault
  pub counts : Counts
  pub ended : Bool  -- a limit is passed
  pub writings : List Writing

-- nothing is met yet
abbrev pub nothing_found : Tally
nothing_found = record { first = None; counts = nothing; ended = false; writings = [] }

-- the fault is reported and not the one found so far
abbrev pub tells : Option Fault → Fault → Bool
tells None f = true
tells (Some g) f = goes_before f g

-- of a fault, if there is one, and of one that is found after it, the one that is reported
abbrev pub sooner : Option Fault → Fault → Option Fault
sooner None f = Some f
sooner (Some g) f = Some (if goes_before f g then f else g)

-- with this fault
abbrev pub with_fault : Fault → Tally → Tally
with_fault f t = record t { first = sooner t.first f; ended = is_limit f }

-- with these counts, or with the fault of the limit that is passed
abbrev pub with_counts : Bool → Fault → Counts → Tally → Tally
with_counts passed f c t = if passed then with_fault f t else record t { counts = c }

-- with what is met
abbrev pub with_met : Met → Tally → Tally
with_met (met_fault f) t = with_fault f t
with_met (met_signal p) t = with_counts (t.counts.signals == 65536) (limit_fault Signals p) (record (t.counts) { signals = t.counts.signals + 1 }) t
with_met (met_process p) t = with_counts (t.counts.processes == 65536) (limit_fault Processes p) (record (t.counts) { processes = t.counts.processes + 1 }) t
with_met (met_words p n) t = with_counts (nat_lt 262144 (t.counts.words + n)) (limit_fault Words p) (record (t.counts) { words = t.counts.words + n }) t
with_met (met_instance p) t = with_counts (t.counts.instances == 65536) (limit_fault Instances p) (record (t.counts) { instances = t.counts.instances + 1 }) t
with_met (met_statement p) t = with_counts (t.counts.statements == 1048576) (limit_fault Statements p) (record (t.counts) { statements = t.counts.statements + 1 }) t
with_met (met_text p n) t = with_counts (nat_lt 134217728 (t.counts.text + n)) (limit_fault Text p) (record (t.counts) { text = t.counts.text + n }) t
with_met (met_writing w) t = record t { writings = t.writings ++ w ∷ [] }

-- nothing counts after a limit that is passed
abbrev pub after : Tally → Met → Tally
after t m = if t.ended then t else with_met m t

-- after all of these in order
abbrev pub after_all : Tally → List Met → Tally
after_all t [] = t
after_all t (m ∷ ms) = after_all (after t m) ms

-- after these faults in order
abbrev pub after_faults : Tally → List Fault → Tally
after_faults t fs = after_all t (met_faults fs)
