use Rattle.std.proofs.Common.{◌≡◌, ◌++◌, drop, map}
use Rattle.coverage_db.specs.Text.{text_of_lines}
use Rattle.test_ranking.specs.Print.{use_line}
use Rattle.test_ranking.proofs.print.push_uses.Given as goal

abbrev pub invariant-loop-used : goal.invariant-loop-used
invariant-loop-used l =
    l.text ++ text_of_lines (map (use_line (map (λ file. file.now) l.files)) (drop l.used-index l.uses)) ≡ l.fn.text ++ text_of_lines (map (use_line (map (λ file. file.now) l.files)) l.uses)
