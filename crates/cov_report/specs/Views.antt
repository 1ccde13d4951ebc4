-- What contracts see of the types of the code.
use Rattle.std.specs.Prelude.{if◌then◌else◌}
use Rattle.std.specs.declared.cmp.Ordering.{Ordering}
use Rattle.std.specs.Ordering.{ordering_then}
use Rattle.coverage_db.specs.declared.db.DbInstance.{DbInstance}
use Rattle.coverage_db.specs.Merge.{yields_to}
use Rattle.coverage_db.specs.Order.{bytes_cmp}
use Rattle.cov_report.specs.declared.counted.Counted.{Counted}
use Rattle.cov_report.specs.declared.block.Block.{Block}
use Rattle.cov_report.specs.Order.{subject_cmp}
use Rattle.cov_report.specs.Points.{ReportPoint}

-- by block, and then in the order of point lines
abbrev pub counted_cmp : Counted → Counted → Ordering
counted_cmp a b = ordering_then (bytes_cmp a.name.now b.name.now) (subject_cmp a.subject.now b.subject.now)

-- the first point with the joined verdict
abbrev pub joined_counted : Counted → Counted → Counted
joined_counted a b = record a { verdict = if yields_to a.verdict.now b.verdict.now then b.verdict else a.verdict }

-- a point without where it lies in memory
abbrev pub report_point : Counted → ReportPoint
report_point point = record { name = point.name.now; subject = point.subject.now; verdict = point.verdict.now }

-- by name
abbrev pub name_cmp : Block → Block → Ordering
name_cmp a b = bytes_cmp a.name.now b.name.now

-- a block without where it lies in memory
abbrev pub block_instance : Block → DbInstance
block_instance block = block.instance.now
