-- The metrics of a report.
use Rattle.std.specs.Prelude.{ℕ, Bool, List, [], ◌∷◌, codes}
use Rattle.coverage_db.specs.declared.address.Subject.{Subject}
use Rattle.coverage_db.specs.declared.address.Subject.TheVariants as subject
use Rattle.cov_report.specs.declared.metric.Metric.{Metric}
use Rattle.cov_report.specs.declared.metric.Metric.TheVariants.{Line, Logic, Toggle, Fsm, Memory}
use Rattle.cov_report.specs.declared.options.Letters.{Letters}

-- in the order of their lines
abbrev pub metrics : List Metric
metrics = Line ∷ Logic ∷ Toggle ∷ Fsm ∷ Memory ∷ []

abbrev pub metric_name : Metric → List ℕ
metric_name Line = codes "line"
metric_name Logic = codes "logic"
metric_name Toggle = codes "toggle"
metric_name Fsm = codes "fsm"
metric_name Memory = codes "memory"

-- the place of a metric among all, which is that of its letter in the order of point lines
abbrev pub metric_rank : Metric → ℕ
metric_rank Line = 0
metric_rank Logic = 1
metric_rank Toggle = 2
metric_rank Fsm = 3
metric_rank Memory = 4

-- the metric that a point counts in
abbrev pub metric_of : Subject → Metric
metric_of (subject.Line number at word) = Line
metric_of (subject.Logic number at operator case) = Logic
metric_of (subject.Toggle name index rise) = Toggle
metric_of (subject.State name state) = Fsm
metric_of (subject.Arc name from to) = Fsm
metric_of (subject.Word name index write) = Memory

-- the metric's letter was given
abbrev pub is_chosen : Letters → Metric → Bool
is_chosen letters Line = letters.line
is_chosen letters Logic = letters.logic
is_chosen letters Toggle = letters.toggle
is_chosen letters Fsm = letters.fsm
is_chosen letters Memory = letters.memory
