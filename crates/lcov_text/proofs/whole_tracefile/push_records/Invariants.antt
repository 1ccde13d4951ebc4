use Rattle.std.proofs.Common.{◌≡◌, ◌+◌, ◌++◌, drop, map}
use Rattle.coverage_db.specs.Text.{text_of_lines}
use Rattle.lcov_text.specs.Tracefile.{source_records}
use Rattle.lcov_text.specs.Views.{trace_view, is_among}
use Rattle.lcov_text.proofs.whole_tracefile.push_records.Given as goal

abbrev pub invariant-loop-place : goal.invariant-loop-place
invariant-loop-place l =
    l.text ++ text_of_lines (source_records (is_among l.hit_lines) (map trace_view l.points) (l.place + 1) (drop l.place l.sources))
    ≡ l.fn.text ++ text_of_lines (source_records (is_among l.hit_lines) (map trace_view l.points) 1 l.sources)
