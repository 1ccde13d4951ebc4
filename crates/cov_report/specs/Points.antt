-- The blocks of a report and their points: a block for each module, or one for each instance.
use Rattle.std.specs.Prelude.{ℕ, if◌then◌else◌, Bool, bytes_eq, List, [], map, option_map, unwrap_or, slice_get}
use Rattle.std.specs.List.{filter}
use Rattle.std.specs.declared.cmp.Ordering.{Ordering}
use Rattle.std.specs.Ordering.{ordering_then}
use Rattle.coverage_db.specs.declared.address.Subject.{Subject}
use Rattle.coverage_db.specs.declared.db.Db.{Db}
use Rattle.coverage_db.specs.declared.db.DbInstance.{DbInstance}
use Rattle.coverage_db.specs.declared.db.DbPoint.{DbPoint}
use Rattle.coverage_db.specs.declared.verdict.DbVerdict.{DbVerdict}
use Rattle.coverage_db.specs.Merge.{joined}
use Rattle.coverage_db.specs.Order.{bytes_cmp}
use Rattle.cov_report.specs.declared.options.Options.{Options}
use Rattle.cov_report.specs.Gathered.{gathered}
use Rattle.cov_report.specs.Metrics.{metric_of, is_chosen}
use Rattle.cov_report.specs.Order.{subject_cmp}

-- what the block of an instance goes by: its path, or its module
abbrev pub block_name : Options → DbInstance → List ℕ
block_name options instance = if options.by_instance then instance.path else instance.«module»

-- by the names of their blocks
abbrev pub block_cmp : Options → DbInstance → DbInstance → Ordering
block_cmp options a b = bytes_cmp (block_name options a) (block_name options b)

-- the first instance of each block, in byte order of the names
abbrev pub blocks : Options → List DbInstance → List DbInstance
blocks options instances = gathered (block_cmp options) (λ first other. first) instances

-- a point as a report counts it: without its instance, under the name of its block
pub record ReportPoint : Type 0 where
  pub name : List ℕ
  pub subject : Subject
  pub verdict : DbVerdict

-- by block, and then in the order of point lines
abbrev pub point_cmp : ReportPoint → ReportPoint → Ordering
point_cmp a b = ordering_then (bytes_cmp a.name b.name) (subject_cmp a.subject b.subject)

-- a point of two instances, with the verdicts joined as a merge joins them
abbrev pub joined_point : ReportPoint → ReportPoint → ReportPoint
joined_point a b = record a { verdict = joined a.verdict b.verdict }

-- the name of the block of the instance at a place
abbrev pub name_at : Options → List DbInstance → ℕ → List ℕ
name_at options instances place = unwrap_or (option_map (block_name options) (slice_get instances place)) []

abbrev pub point_of : Options → List DbInstance → DbPoint → ReportPoint
point_of options instances point =
    record { name = name_at options instances point.address.instance; subject = point.address.subject; verdict = point.verdict }

-- the point is of a chosen metric
abbrev pub is_counted : Options → DbPoint → Bool
is_counted options point = is_chosen options.letters (metric_of point.address.subject)

-- the points of the chosen metrics, equal ones of one block joined
abbrev pub report_points : Options → Db → List ReportPoint
report_points options db = gathered point_cmp joined_point (map (point_of options db.instances) (filter (is_counted options) db.points))

-- the points of the block of an instance
abbrev pub points_in : Options → DbInstance → List ReportPoint → List ReportPoint
points_in options block points = filter (λ point. bytes_eq point.name (block_name options block)) points
