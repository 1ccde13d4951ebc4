use Rattle.std.proofs.Common.{◌≡◌, ◌++◌, drop, map}
use Rattle.coverage_db.specs.Text.{text_of_lines, window_line}
use Rattle.coverage_db.proofs.write.push_windows.Given as goal

abbrev pub invariant-loop-window : goal.invariant-loop-window
invariant-loop-window l = l.text ++ text_of_lines (map window_line (drop l.window-index l.windows)) ≡ l.fn.text ++ text_of_lines (map window_line l.windows)
