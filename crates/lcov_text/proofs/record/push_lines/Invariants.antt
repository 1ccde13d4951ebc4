use Rattle.std.proofs.Common.{◌≡◌, ◌++◌, drop, map}
use Rattle.coverage_db.specs.Text.{text_of_lines}
use Rattle.lcov_text.specs.declared.traced.Traced.{Traced}
use Rattle.lcov_text.specs.Tracefile.{line_line}
use Rattle.lcov_text.specs.Views.{trace_view}
use Rattle.lcov_text.proofs.record.push_lines.Given as goal

abbrev pub invariant-loop-line : goal.invariant-loop-line
invariant-loop-line l = l.text ++ text_of_lines (map (λ (line : Traced). line_line (trace_view line)) (drop l.line-index l.lines)) ≡ l.fn.text ++ text_of_lines (map (λ (line : Traced). line_line (trace_view line)) l.lines)
