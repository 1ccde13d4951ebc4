use Rattle.std.proofs.Common.{◌++◌, List, ℕ, length, map, refl, sym, ap, ◌∙◌}
use Rattle.std.specs.Prelude.{codes, decimal}
use Rattle.std.proofs.lemmas.Result.{IfOk-equal}
use Rattle.coverage_db.specs.Text.{ended, text_of_lines}
use Rattle.lcov_text.specs.Tracefile.{line_line, hit_count}
use Rattle.lcov_text.specs.Views.{trace_view}
use Rattle.lcov_text.proofs.Lines.{part_written, length_view, lines_view}
use Rattle.lcov_text.proofs.record.push_line_part.Goals as goal

pub returns : goal.returns
returns c =
    let found = map trace_view c.args.lines.now in
    IfOk-equal c.push_count-2.result _ _ _ c.push_count-2.ensures
    (ap (λ (n : ℕ). c.push_count.new.text ++ ended (codes "LH:" ++ decimal n)) c.hit_count.ensures
    ∙ part_written (map line_line found) (codes "LF:" ++ decimal (length found)) (codes "LH:" ++ decimal (hit_count found)) c.args.text.now c.push_lines.new.text c.push_count.new.text _
    (c.in_ok-push_lines.ensures ∙ ap (λ (t : List (List ℕ)). c.args.text.now ++ text_of_lines t) (lines_view c.args.lines.now))
    (c.in_ok-push_count.ensures ∙ ap (λ (n : ℕ). c.push_lines.new.text ++ ended (codes "LF:" ++ decimal n)) (sym (length_view c.args.lines.now))) refl)
