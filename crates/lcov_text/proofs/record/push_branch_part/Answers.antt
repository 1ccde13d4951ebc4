use Rattle.std.proofs.Common.{◌++◌, ℕ, None, length, map, refl, sym, ap, ◌∙◌}
use Rattle.std.specs.Prelude.{codes, decimal}
use Rattle.std.proofs.lemmas.Result.{IfOk-equal}
use Rattle.coverage_db.specs.Text.{ended}
use Rattle.lcov_text.specs.Tracefile.{branch_lines, hit_count}
use Rattle.lcov_text.specs.Views.{trace_view, is_among}
use Rattle.lcov_text.proofs.Lines.{part_written, length_view}
use Rattle.lcov_text.proofs.record.push_branch_part.Goals as goal

pub returns : goal.returns
returns c =
    let found = map trace_view c.args.branches.now in
    IfOk-equal c.push_count-2.result _ _ _ c.push_count-2.ensures
    (ap (λ (n : ℕ). c.push_count.new.text ++ ended (codes "BRH:" ++ decimal n)) c.hit_count.ensures
    ∙ part_written (branch_lines (is_among c.args.hit_lines.now) None 0 found) (codes "BRF:" ++ decimal (length found)) (codes "BRH:" ++ decimal (hit_count found)) c.args.text.now c.push_branches.new.text c.push_count.new.text _
    c.in_ok-push_branches.ensures (c.in_ok-push_count.ensures ∙ ap (λ (n : ℕ). c.push_branches.new.text ++ ended (codes "BRF:" ++ decimal n)) (sym (length_view c.args.branches.now))) refl)
