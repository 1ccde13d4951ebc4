use Rattle.std.proofs.Common.{◌++◌, List, ℕ, map, refl, ap, ◌∙◌}
use Rattle.std.specs.Prelude.{codes}
use Rattle.std.proofs.lemmas.Result.{IfOk-equal}
use Rattle.coverage_db.specs.Text.{ended}
use Rattle.lcov_text.specs.Tracefile.{branch_part, line_part}
use Rattle.lcov_text.specs.Views.{trace_view, is_among}
use Rattle.lcov_text.proofs.Lines.{record_written}
use Rattle.lcov_text.proofs.record.push_record.Goals as goal

pub returns : goal.returns
returns c =
    IfOk-equal c.extend_from_slice.result _ _ _ c.extend_from_slice.ensures.ok
    (record_written (codes "SF:" ++ c.args.name.now) (branch_part (is_among c.args.hit_lines.now) (map trace_view c.args.branches.now)) (line_part (map trace_view c.args.lines.now)) (codes "end_of_record")
    c.args.text.now c.push_word.new.text c.push_branch_part.new.text c.push_line_part.new.text _
    (c.in_ok-push_word.ensures ∙ ap (λ (n : List ℕ). c.args.text.now ++ ended (codes "SF:" ++ n)) c.as_slice.ensures) c.in_ok-push_branch_part.ensures c.in_ok-push_line_part.ensures refl)
