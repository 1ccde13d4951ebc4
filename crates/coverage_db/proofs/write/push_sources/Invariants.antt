use Rattle.std.proofs.Common.{◌≡◌, ◌+◌, ◌++◌, drop}
use Rattle.coverage_db.specs.Text.{text_of_lines, source_lines}
use Rattle.coverage_db.proofs.write.push_sources.Given as goal

abbrev pub invariant-loop-place : goal.invariant-loop-place
invariant-loop-place l = l.text ++ text_of_lines (source_lines (l.place + 1) (drop l.place l.sources)) ≡ l.fn.text ++ text_of_lines (source_lines 1 l.sources)
