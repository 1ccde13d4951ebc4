use Rattle.std.proofs.Common.{◌≡◌, ◌++◌, drop, map}
use Rattle.coverage_db.specs.Text.{text_of_lines}
use Rattle.test_ranking.specs.Print.{skip_line}
use Rattle.test_ranking.proofs.print.push_skips.Given as goal

abbrev pub invariant-loop-table : goal.invariant-loop-table
invariant-loop-table l =
    l.text ++ text_of_lines (map (skip_line (map (λ file. file.now) l.files)) (drop l.table-index l.tables)) ≡ l.fn.text ++ text_of_lines (map (skip_line (map (λ file. file.now) l.files)) l.tables)
