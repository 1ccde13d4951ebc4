-- The text of a report.
use Rattle.std.specs.Prelude.{ℕ, ◌+◌, ◌-◌, ◌*◌, ◌/◌, ◌==◌, if◌then◌else◌, Bool, true, false, List, [], ◌∷◌, ◌++◌, length, map, codes, decimal, replicate, count_by}
use Rattle.std.specs.List.{filter, flat_map}
use Rattle.coverage_db.specs.declared.address.Subject.{Subject}
use Rattle.coverage_db.specs.declared.db.Db.{Db}
use Rattle.coverage_db.specs.declared.db.DbInstance.{DbInstance}
use Rattle.coverage_db.specs.declared.verdict.DbVerdict.{DbVerdict}
use Rattle.coverage_db.specs.declared.verdict.DbVerdict.TheVariants.{Hit, Missed, Undetermined}
use Rattle.coverage_db.specs.Order.{letter_rank}
use Rattle.coverage_db.specs.Text.{letter, subject_fields, top_line, source_lines, instance_line, text_of_lines}
use Rattle.cov_report.specs.declared.metric.Metric.{Metric}
use Rattle.cov_report.specs.declared.options.Level.{Level}
use Rattle.cov_report.specs.declared.options.Level.TheVariants.{Summary, Detailed, Verbose}
use Rattle.cov_report.specs.declared.options.Options.{Options}
use Rattle.cov_report.specs.Metrics.{metrics, metric_name, metric_rank, is_chosen}
use Rattle.cov_report.specs.Points.{ReportPoint, blocks, report_points, points_in}

-- ---- columns

-- at the left of this number of places; a longer text moves what follows
abbrev pub at_left : ℕ → List ℕ → List ℕ
at_left places text = text ++ replicate (places - length text) 32

-- at the right of this number of places; a longer text moves what follows
abbrev pub at_right : ℕ → List ℕ → List ℕ
at_right places text = replicate (places - length text) 32 ++ text

-- the whole part of the percentage that is hit, `-` without points
abbrev pub percentage : ℕ → ℕ → List ℕ
percentage hit all = if all == 0 then codes "-" else decimal (hit * 100 / all)

-- a name in 8 places, three counts in 8 each, and the percentage in 5
abbrev pub counts_line : List ℕ → ℕ → ℕ → ℕ → List ℕ
counts_line name hit missed undetermined =
    at_left 8 name ++ at_right 8 (decimal hit) ++ at_right 8 (decimal missed) ++ at_right 8 (decimal undetermined) ++ at_right 5 (percentage hit (hit + missed + undetermined)) ++ codes "%"

-- ---- counts

abbrev pub is_hit : DbVerdict → Bool
is_hit Hit = true
is_hit Missed = false
is_hit (Undetermined time path) = false

abbrev pub is_missed : DbVerdict → Bool
is_missed Hit = false
is_missed Missed = true
is_missed (Undetermined time path) = false

abbrev pub is_undetermined : DbVerdict → Bool
is_undetermined Hit = false
is_undetermined Missed = false
is_undetermined (Undetermined time path) = true

-- how many points came out so
abbrev pub count_of : (DbVerdict → Bool) → List ReportPoint → ℕ
count_of came_out points = count_by (λ point. came_out point.verdict) points

-- the counts of points, under a name
abbrev pub summary_line : List ℕ → List ReportPoint → List ℕ
summary_line name points = counts_line name (count_of is_hit points) (count_of is_missed points) (count_of is_undetermined points)

abbrev pub of_metric : Metric → List ReportPoint → List ReportPoint
of_metric metric points = filter (λ point. letter_rank point.subject == metric_rank metric) points

-- a line for each chosen metric
abbrev pub metric_lines : Options → List ReportPoint → List (List ℕ)
metric_lines options points = map (λ metric. summary_line (metric_name metric) (of_metric metric points)) (filter (is_chosen options.letters) metrics)

-- ---- points

-- the address of a point without its instance
abbrev pub bare_address : Subject → List ℕ
bare_address subject = letter subject ∷ 32 ∷ subject_fields subject

abbrev pub is_verbose : Level → Bool
is_verbose Summary = false
is_verbose Detailed = false
is_verbose Verbose = true

-- when and by what a point is left open, in a verbose report
abbrev pub doubt_text : Level → ℕ → List ℕ → List ℕ
doubt_text level time path = if is_verbose level then codes " at " ++ decimal time ++ codes " by " ++ path else []

-- the line of a point that is not hit
abbrev pub open_lines : Level → Subject → DbVerdict → List (List ℕ)
open_lines level subject Hit = []
open_lines level subject Missed = (codes "missed: " ++ bare_address subject) ∷ []
open_lines level subject (Undetermined time path) = (codes "undetermined: " ++ bare_address subject ++ doubt_text level time path) ∷ []

-- the line of a point that is hit
abbrev pub hit_lines : Subject → DbVerdict → List (List ℕ)
hit_lines subject verdict = if is_hit verdict then (codes "hit: " ++ bare_address subject) ∷ [] else []

-- the line of a point: of one that is hit, or of one that is not
abbrev pub point_lines : Options → ReportPoint → List (List ℕ)
point_lines options point = if options.covered then hit_lines point.subject point.verdict else open_lines options.level point.subject point.verdict

-- the points that are listed; a summary lists none
abbrev pub listed : Level → List ReportPoint → List ReportPoint
listed Summary points = []
listed Detailed points = points
listed Verbose points = points

-- ---- the report

abbrev pub heading : Options → DbInstance → List ℕ
heading options block = if options.by_instance then instance_line block else codes "module " ++ block.«module»

-- the lines of a block with these points
abbrev pub block_lines : Options → DbInstance → List ReportPoint → List (List ℕ)
block_lines options block points =
    heading options block ∷ codes "metric       hit  missed   undet   pct" ∷ metric_lines options points ++ flat_map (point_lines options) (listed options.level points)

-- the sources, in a verbose report
abbrev pub report_head : Options → Db → List (List ℕ)
report_head options db = codes "covered report 1" ∷ top_line db.top ∷ (if is_verbose options.level then source_lines 1 db.sources else [])

-- the head, the blocks, and the sums over all blocks
abbrev pub report_lines : Db → Options → List (List ℕ)
report_lines db options =
    let points = report_points options db in
    report_head options db ++ flat_map (λ block. block_lines options block (points_in options block points)) (blocks options db.instances) ++ summary_line (codes "all") points ∷ []

-- the text of the report of a table
abbrev pub report_text : Db → Options → List ℕ
report_text db options = text_of_lines (report_lines db options)
