use Rattle.std.proofs.Common.{◌<◌, ◌^◌, List, length, sym, ap, subst, ◌∙◌}
use Rattle.coverage_db.specs.declared.window.Window.{Window}
use Rattle.coverage_db.specs.Windows.{joined_windows}
use Rattle.coverage_db.proofs.MergeLaws.{none_alike, alike_lines, some_differs, differs_at, merged_table}
use Rattle.coverage_db.proofs.merging.merge.Goals as goal

pub returns-in-Some-clause-differ : goal.returns-in-Some-clause-differ
returns-in-Some-clause-differ c =
    let found = rw c.in-Some.is at c.first_difference.ensures.place in
    differs_at c.args.left c.args.right.now c.in-Some.place c.in_ok-bare_line.field-0 c.in_ok-bare_line-2.field-0 (some_differs c.args.left c.args.right.now c.in-Some.place c.requires.left c.requires.right (sym found)) c.in_ok-bare_line.ensures c.in_ok-bare_line-2.ensures

pub returns-clause-table : goal.returns-clause-table
returns-clause-table c =
    let none = rw c.in_default.is at c.first_difference.ensures.place in
    let joined = c.in_ok-join_windows.ensures.joined in
    let few = subst (λ (ws : List Window). length ws < 2 ^ 64) (joined ∙ ap (λ (ws : List Window). joined_windows ws c.as_slice-3.result.now) c.as_slice-2.ensures ∙ ap (joined_windows c.args.left.windows) c.as_slice-3.ensures) c.in_ok-join_windows.ensures.few in
    rw (c.in_ok-merge_points.ensures, c.as_slice.ensures, joined, c.as_slice-2.ensures, c.as_slice-3.ensures) (merged_table c.args.left c.args.right.now c.requires.left c.requires.right (none_alike c.args.left c.args.right.now (sym none)) few)

pub returns-clause-same : goal.returns-clause-same
returns-clause-same c =
    let none = rw c.in_default.is at c.first_difference.ensures.place in
    alike_lines c.args.left c.args.right.now (none_alike c.args.left c.args.right.now (sym none))
