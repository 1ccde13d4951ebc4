use Rattle.std.proofs.Common.{◌≡◌, ◌≤◌, ◌++◌, None, drop, map}
use Rattle.std.specs.Option.{option_map}
use Rattle.coverage_db.specs.Text.{text_of_lines}
use Rattle.lcov_text.specs.Tracefile.{branch_lines}
use Rattle.lcov_text.specs.Views.{trace_view, trace_behind, is_among}
use Rattle.lcov_text.proofs.branch_line.push_branches.Given as goal

-- the branches so far and those that are left are all
abbrev pub invariant-loop-branch : goal.invariant-loop-branch
invariant-loop-branch l = record {
  text : l.text ++ text_of_lines (branch_lines (is_among l.hit_lines) (option_map trace_behind l.last) l.block (map trace_view (drop l.branch-index l.branches)))
      ≡ l.fn.text ++ text_of_lines (branch_lines (is_among l.hit_lines) None 0 (map trace_view l.branches));
  few : l.block ≤ l.branch-index;
}
