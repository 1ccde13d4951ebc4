use Rattle.std.proofs.Common.{rules, ◌≤◌}
use Rattle.std.specs.Ordering.{is_lt, is_le}
use Rattle.std.proofs.lemmas.Fn.{always_returns_same}
use Rattle.coverage_db.specs.Order.{bytes_cmp}
use Rattle.lcov_text.specs.Points.{section, section_of}
use Rattle.lcov_text.specs.Views.{trace_view}
use Rattle.lcov_text.proofs.Sections.{parted_less, parted_upto, before_through, points_between}
use Rattle.lcov_text.proofs.points.points_in.Goals as goal

pub slice_bounds-result-count : goal.slice_bounds-result-count
slice_bounds-result-count c =
    let n = section_of c.args.source c.args.part in
    let before = c.partition_point-start.ensures.partitioned (λ p. is_lt (bytes_cmp (section (trace_view p)) n)) (always_returns_same _ _ _ (λ a r f k. search rules)) (parted_less c.args.points.now n c.requires) in
    let through = c.partition_point-end.ensures.partitioned (λ p. is_le (bytes_cmp (section (trace_view p)) n)) (always_returns_same _ _ _ (λ a r f k. search rules)) (parted_upto c.args.points.now n c.requires) in
    before_through n c.args.points.now c.partition_point-start.result c.partition_point-end.result c.partition_point-start.ensures.bound before through

pub slice_bounds-result-start : goal.slice_bounds-result-start
slice_bounds-result-start c = let up : c.partition_point-start.result ≤ c.partition_point-end.result = slice_bounds-result-count c in search rules

pub returns : goal.returns
returns c =
    let n = section_of c.args.source c.args.part in
    let before = c.partition_point-start.ensures.partitioned (λ p. is_lt (bytes_cmp (section (trace_view p)) n)) (always_returns_same _ _ _ (λ a r f k. search rules)) (parted_less c.args.points.now n c.requires) in
    let through = c.partition_point-end.ensures.partitioned (λ p. is_le (bytes_cmp (section (trace_view p)) n)) (always_returns_same _ _ _ (λ a r f k. search rules)) (parted_upto c.args.points.now n c.requires) in
    points_between n c.args.points.now c.partition_point-start.result c.partition_point-end.result
    (before_through n c.args.points.now c.partition_point-start.result c.partition_point-end.result c.partition_point-start.ensures.bound before through) before through
