use Rattle.std.proofs.Common.{◌≡◌, ◌∙◌, ◌<◌, ◌++◌, ◌∷◌, [], ℕ, List, length, get_or, map, sym, ap, subst, arith}
use Rattle.std.proofs.lemmas.List.{length-append, length-map, map-append}
use Rattle.std.proofs.lemmas.Result.{IfOk-weaker}
use Rattle.design_model.specs.Design.{body_at, process_at}
use Rattle.design_model.specs.Mentions.{blocking_target, body_mentions}
use Rattle.design_model.specs.View.{design_view, process_view}
use Rattle.index_sets.specs.Rows.{row_at}
use Rattle.process_names.specs.Laws.{has}
use Rattle.process_order.proofs.Distinct.{contains_in}
use Rattle.process_targets.specs.Targets.{row_has}
use Rattle.process_targets.proofs.Processes.{process_is, rows_more}
use Rattle.wake_bits.specs.Mentions.{mentioned_names}
use Rattle.wake_bits.specs.Wakes.{AreWakeRows, AreWakes}
use Rattle.wake_bits.specs.declared.wakes.Wake.{Wake}
use Rattle.wake_bits.proofs.Mentioned.{level_below}
use Rattle.wake_bits.proofs.WakeRows.{all_wakes, wakes_of_process}
use Rattle.wake_bits.proofs.wakes.wake_rows.Goals as goal

pub wakes_of-requires-clause-watched : goal.wakes_of-requires-clause-watched
wakes_of-requires-clause-watched c x h =
    let d = design_view c.args.design.now in
    let p = c.loop-process.process in
    level_below d x (process_at d p) (c.requires.lawful.bodies p) (c.requires.lawful.lists p) (c.requires.watched p x (contains_in x (row_at c.args.watched.now p) (subst (λ xs. Rattle.std.specs.List.Contains xs x) c.row.ensures h)))

pub loop-process-preserved : goal.loop-process-preserved
loop-process-preserved c =
    let d = design_view c.args.design.now in
    let n = c.loop-process.process in
    let P : ℕ → List Wake → Type 0 = λ p ws. AreWakes (design_view c.args.design.now) (blocking_target (design_view c.args.design.now) (body_at (design_view c.args.design.now) p)) (λ x. body_mentions x (body_at (design_view c.args.design.now) p)) (row_at c.args.watched.now p) ws in
    let q = c.index-processes-process.result in
    let less : c.loop-process.process < length c.args.design.now.processes = omega (arith, c.loop-process-test.true, ap length c.as_slice-processes.ensures) in
    let found : c.index-processes-process.result ≡ get_or c.args.design.now.processes c.loop-process.process c.index-processes-process.result = c.index-processes-process.is ∙ ap (λ qs. get_or qs c.loop-process.process c.index-processes-process.result) c.as_slice-processes.ensures in
    let is : process_at d n ≡ process_view q = process_is c.args.design.now n q less found in
    let by_row : AreWakes d (row_has (row_at c.args.targets.now n)) (λ x. has x (mentioned_names (process_at d n))) (row_at c.args.watched.now n) c.in_ok-list.list.items =
    subst (λ row. AreWakes d (row_has row) (λ x. has x (mentioned_names (process_at d n))) (row_at c.args.watched.now n) c.in_ok-list.list.items) c.row-in-loop-process.ensures
    (subst (λ xs. AreWakes d (row_has c.row-in-loop-process.result.now) (λ x. has x (mentioned_names (process_at d n))) xs c.in_ok-list.list.items) c.row.ensures
    (subst (λ r. AreWakes d (row_has c.row-in-loop-process.result.now) (λ x. has x (mentioned_names r)) c.row.result.now c.in_ok-list.list.items) (sym is) c.in_ok-list.ensures.list)) in
    let row : P n c.in_ok-list.list.items = wakes_of_process d n (row_at c.args.targets.now n) (row_at c.args.watched.now n) c.in_ok-list.list.items (c.requires.targets.each n).bits (c.requires.watched n) by_row in
    let lists : map (λ list. list.items) c.push.new.self.items ≡ map (λ list. list.items) c.loop-process.lists.items ++ c.in_ok-list.list.items ∷ [] = ap (map (λ list. list.items)) c.in_ok-push.ensures.items ∙ map-append (λ list. list.items) c.loop-process.lists.items (c.in_ok-list.list ∷ []) in
    record {
      places = c.in_ok-list.ensures.places;
      mentioned = c.in_ok-list.ensures.mentioned;
      count = omega (arith, ap length c.in_ok-push.ensures.items, length-append c.loop-process.lists.items (c.in_ok-list.list ∷ []), c.loop-process.invariant.count);
      each = λ k l. subst (λ rows. P k (row_at rows k)) (sym lists) (rows_more P (map (λ list. list.items) c.loop-process.lists.items) c.in_ok-list.list.items n (length-map c.loop-process.lists.items (λ list. list.items) ∙ c.loop-process.invariant.count) row c.loop-process.invariant.each k l);
    }

pub returns : goal.returns
returns c =
    let d = design_view c.args.design.now in
    let rows = map (λ list. list.items) c.loop-process.lists.items in
    let items : map (λ list. list.items) c.as_slice.result.now ≡ map (λ list. list.items) c.loop-process.lists.items = ap (map (λ list. list.items)) c.as_slice.ensures.value in
    let size : length (map (λ list. list.items) c.loop-process.lists.items) ≡ length c.loop-process.lists.items = length-map c.loop-process.lists.items (λ list. list.items) in
    let made : AreWakeRows d c.args.watched.now rows = all_wakes d c.args.watched.now rows (omega (arith, size, c.requires.count, c.loop-process.invariant.count, c.loop-process-test.false, c.loop-process.auto.process-end, ap length c.as_slice-processes.ensures)) (λ k l. c.loop-process.invariant.each k (omega (arith, l, c.requires.count, c.loop-process-test.false, ap length c.as_slice-processes.ensures))) in
    IfOk-weaker c.from_lists.result _ _ (λ r e. subst (AreWakeRows d c.args.watched.now) (sym (e ∙ items)) made) c.from_lists.ensures
