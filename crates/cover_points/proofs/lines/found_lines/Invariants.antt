use Rattle.std.proofs.Common.{◌≡◌, ◌++◌, drop, map}
use Rattle.design_model.specs.View.{process_view}
use Rattle.cover_points.specs.Texts.{each_from, process_lines}
use Rattle.cover_points.proofs.lines.found_lines.Given as goal

-- the points so far, with those of the rest, are those of all processes
abbrev pub invariant-loop-number : goal.invariant-loop-number
invariant-loop-number l = l.found.items ++ each_from process_lines l.number (map process_view (drop l.number l.processes)) ≡ each_from process_lines 0 (map process_view l.processes)
