use Rattle.std.proofs.Common.{◌∙◌, map, ap, subst, sym}
use Rattle.std.proofs.lemmas.Result.{IfOk-weaker}
use Rattle.design_model.specs.View.{design_view, process_view}
use Rattle.step_runs.specs.Rows.{AreWrittenRows, written_names}
use Rattle.step_runs.proofs.Written.{rows_are}
use Rattle.step_runs.proofs.rows.written_rows.Goals as goal

pub returns : goal.returns
returns c =
    let m = c.args.design.now in
    let lists = ap (map (λ list. list.items)) c.as_slice-2.ensures.value ∙ c.in_ok-lists.ensures ∙ ap (map (λ q. written_names (process_view q))) c.as_slice.ensures in
    IfOk-weaker c.from_lists.result _ _ (λ r e. subst (AreWrittenRows (design_view m)) (sym (e ∙ lists)) (rows_are m)) c.from_lists.ensures
