use Rattle.std.proofs.Common.{◌++◌, ℕ, List, ap, ◌∙◌}
use Rattle.std.specs.Prelude.{decimal}
use Rattle.coverage_db.specs.declared.version.Version.TheVariants.{Two}
use Rattle.coverage_db.specs.Text.{count_line, ended, head_lines, text_of_lines, window_count_line}
use Rattle.coverage_db.proofs.Lines.{table_written}
use Rattle.coverage_db.proofs.write.write_db.Goals as goal

pub returns : goal.returns
returns c =
    let db = c.args.db.now in
    c.in_ok-extend_from_slice.ensures.ok
    ∙ table_written db c.push_head.new.text c.push_count.new.text c.push.new.self c.push_points.new.text c.push_window_count.new.text c.push_windows.new.text
    (c.in_ok-push_head.ensures ∙ ap (λ (t : List ℕ). t ++ text_of_lines (head_lines Two db)) c.new-text.ensures)
    (c.in_ok-push_count.ensures ∙ ap (λ (n : ℕ). c.push_head.new.text ++ count_line (decimal n)) c.len.ensures)
    c.in_ok-push.ensures.ok c.in_ok-push_points.ensures
    (c.in_ok-push_window_count.ensures ∙ ap (λ (n : ℕ). c.push_points.new.text ++ ended (window_count_line (decimal n))) c.len-2.ensures)
    c.in_ok-push_windows.ensures
