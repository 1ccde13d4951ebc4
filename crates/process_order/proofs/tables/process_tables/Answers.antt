use Rattle.std.proofs.Common.{◌≡◌, ◌∙◌, ◌<◌, ◌≤◌, ◌↔◌, ℕ, List, length, map, sym, ap, subst, arith}
use Rattle.std.specs.Prelude.{filter}
use Rattle.std.specs.List.{Contains}
use Rattle.std.proofs.lemmas.List.{length-map}
use Rattle.design_model.specs.View.{design_view, process_view}
use Rattle.index_sets.specs.Rows.{row_at}
use Rattle.design_wakes.specs.process_names.Names.{level_names}
use Rattle.process_order.specs.Names.{driven_names, lists_of}
use Rattle.process_order.specs.Needs.{is_bound}
use Rattle.process_order.specs.Order.{IsRunOrder}
use Rattle.process_order.specs.Parts.{is_run}
use Rattle.process_order.proofs.Numbers.{tables_made}
use Rattle.process_order.proofs.tables.process_tables.Goals as goal

pub without_repetitions-requires : goal.without_repetitions-requires
without_repetitions-requires c =
    let listed_below : (p x : ℕ) → Contains (row_at (lists_of c.in_ok-listed.listed.items) p) x → x < c.past_lists-count.result = λ p x k. c.past_lists-count.ensures.past p x (subst (λ ls. Contains (row_at (lists_of ls) p) x) (sym c.as_slice-2.ensures.value) k) in
    λ p x k. listed_below p x (subst (λ ls. Contains (row_at (lists_of ls) p) x) c.as_slice-3.ensures.value k)

pub run_order-requires-clause-few : goal.run_order-requires-clause-few
run_order-requires-clause-few c =
    let processes = ap length c.as_slice-processes.ensures in
    let listed_size : length c.in_ok-listed.listed.items ≡ length c.as_slice-processes.result.now = sym (length-map c.in_ok-listed.listed.items (λ v. v.items)) ∙ ap length c.in_ok-listed.ensures ∙ length-map c.as_slice-processes.result.now (λ q. level_names (process_view q)) in
    let driven_size : length c.as_slice-5.result.now ≡ length c.as_slice-processes.result.now = ap length c.as_slice-5.ensures.value ∙ sym (length-map c.in_ok-driven.driven.items (λ v. v.items)) ∙ ap length c.in_ok-driven.ensures ∙ length-map c.as_slice-processes.result.now (λ q. driven_names (process_view q)) in
    let watched_size : length c.as_slice-4.result.now ≡ length c.in_ok-listed.listed.items = ap length c.as_slice-4.ensures.value ∙ c.in_ok-watched.ensures.count ∙ ap length c.as_slice-3.ensures.value in
    omega (arith, c.requires, watched_size, listed_size, processes)

pub run_order-requires-clause-size : goal.run_order-requires-clause-size
run_order-requires-clause-size c =
    let processes = ap length c.as_slice-processes.ensures in
    let listed_size : length c.in_ok-listed.listed.items ≡ length c.as_slice-processes.result.now = sym (length-map c.in_ok-listed.listed.items (λ v. v.items)) ∙ ap length c.in_ok-listed.ensures ∙ length-map c.as_slice-processes.result.now (λ q. level_names (process_view q)) in
    let driven_size : length c.as_slice-5.result.now ≡ length c.as_slice-processes.result.now = ap length c.as_slice-5.ensures.value ∙ sym (length-map c.in_ok-driven.driven.items (λ v. v.items)) ∙ ap length c.in_ok-driven.ensures ∙ length-map c.as_slice-processes.result.now (λ q. driven_names (process_view q)) in
    let watched_size : length c.as_slice-4.result.now ≡ length c.in_ok-listed.listed.items = ap length c.as_slice-4.ensures.value ∙ c.in_ok-watched.ensures.count ∙ ap length c.as_slice-3.ensures.value in
    omega (arith, watched_size, listed_size, driven_size)

pub run_order-requires-clause-watched : goal.run_order-requires-clause-watched
run_order-requires-clause-watched c =
    let listed_below : (p x : ℕ) → Contains (row_at (lists_of c.in_ok-listed.listed.items) p) x → x < c.past_lists-count.result = λ p x k. c.past_lists-count.ensures.past p x (subst (λ ls. Contains (row_at (lists_of ls) p) x) (sym c.as_slice-2.ensures.value) k) in
    λ p x k. listed_below p x (subst (λ ls. Contains (row_at (lists_of ls) p) x) c.as_slice-3.ensures.value ((c.in_ok-watched.ensures.same p x).0 (subst (λ ls. Contains (row_at (lists_of ls) p) x) c.as_slice-4.ensures.value k)))

pub run_order-requires-clause-driven : goal.run_order-requires-clause-driven
run_order-requires-clause-driven c =
    λ p x k. omega (arith, c.past_lists-past_driven.ensures.past p x (subst (λ ls. Contains (row_at (lists_of ls) p) x) (c.as_slice-5.ensures.value ∙ sym c.as_slice.ensures.value) k), c.past_lists-count.ensures.least)

pub clocked_of-requires : goal.clocked_of-requires
clocked_of-requires c = omega (arith, c.requires, ap length c.as_slice-processes.ensures)

pub ordered_of-requires : goal.ordered_of-requires
ordered_of-requires c = omega (arith, c.requires, ap length c.as_slice-processes.ensures)

pub rest_of-requires-clause-few : goal.rest_of-requires-clause-few
rest_of-requires-clause-few c = omega (arith, c.requires, ap length c.as_slice-processes.ensures)

pub rest_of-requires-clause-within : goal.rest_of-requires-clause-within
rest_of-requires-clause-within c =
    let processes = ap length c.as_slice-processes.ensures in
    let listed_size : length c.in_ok-listed.listed.items ≡ length c.as_slice-processes.result.now = sym (length-map c.in_ok-listed.listed.items (λ v. v.items)) ∙ ap length c.in_ok-listed.ensures ∙ length-map c.as_slice-processes.result.now (λ q. level_names (process_view q)) in
    let driven_size : length c.as_slice-5.result.now ≡ length c.as_slice-processes.result.now = ap length c.as_slice-5.ensures.value ∙ sym (length-map c.in_ok-driven.driven.items (λ v. v.items)) ∙ ap length c.in_ok-driven.ensures ∙ length-map c.as_slice-processes.result.now (λ q. driven_names (process_view q)) in
    let watched_size : length c.as_slice-4.result.now ≡ length c.in_ok-listed.listed.items = ap length c.as_slice-4.ensures.value ∙ c.in_ok-watched.ensures.count ∙ ap length c.as_slice-3.ensures.value in
    omega (arith, c.in_ok-order.ensures.size, watched_size, listed_size, processes)

pub returns-clause-count : goal.returns-clause-count
returns-clause-count c =
    let processes = ap length c.as_slice-processes.ensures in
    let listed_size : length c.in_ok-listed.listed.items ≡ length c.as_slice-processes.result.now = sym (length-map c.in_ok-listed.listed.items (λ v. v.items)) ∙ ap length c.in_ok-listed.ensures ∙ length-map c.as_slice-processes.result.now (λ q. level_names (process_view q)) in
    let rows : length c.in_ok-rows.rows ≡ length c.in_ok-watched.watched.items = ap length c.in_ok-rows.ensures ∙ length-map c.as_slice-6.result.now (λ v. v.items) ∙ ap length c.as_slice-6.ensures.value in
    omega (arith, rows, c.in_ok-watched.ensures.count, ap length c.as_slice-3.ensures.value, listed_size, processes)

pub returns-clause-tables : goal.returns-clause-tables
returns-clause-tables c =
    let processes = ap length c.as_slice-processes.ensures in
    let listed_size : length c.in_ok-listed.listed.items ≡ length c.as_slice-processes.result.now = sym (length-map c.in_ok-listed.listed.items (λ v. v.items)) ∙ ap length c.in_ok-listed.ensures ∙ length-map c.as_slice-processes.result.now (λ q. level_names (process_view q)) in
    let driven_size : length c.as_slice-5.result.now ≡ length c.as_slice-processes.result.now = ap length c.as_slice-5.ensures.value ∙ sym (length-map c.in_ok-driven.driven.items (λ v. v.items)) ∙ ap length c.in_ok-driven.ensures ∙ length-map c.as_slice-processes.result.now (λ q. driven_names (process_view q)) in
    let watched_size : length c.as_slice-4.result.now ≡ length c.in_ok-listed.listed.items = ap length c.as_slice-4.ensures.value ∙ c.in_ok-watched.ensures.count ∙ ap length c.as_slice-3.ensures.value in
    let ps = c.as_slice-processes.result.now in
    let watched = lists_of c.in_ok-watched.watched.items in
    let same : (p x : ℕ) → Contains (row_at (lists_of c.in_ok-watched.watched.items) p) x ↔ Contains (row_at (map (λ q. level_names (process_view q)) c.as_slice-processes.result.now) p) x = λ p x. subst (λ ls. Contains (row_at (lists_of c.in_ok-watched.watched.items) p) x ↔ Contains (row_at ls p) x) (ap lists_of c.as_slice-3.ensures.value ∙ c.in_ok-listed.ensures) (c.in_ok-watched.ensures.same p x) in
    let run : IsRunOrder watched (map (λ q. driven_names (process_view q)) ps) (is_bound c.args.bound.now) c.in_ok-order.order.items = subst (λ ls. IsRunOrder watched ls (is_bound c.args.bound.now) c.in_ok-order.order.items) c.in_ok-driven.ensures (subst (λ ls. IsRunOrder watched (lists_of ls) (is_bound c.args.bound.now) c.in_ok-order.order.items) c.as_slice-5.ensures.value (subst (λ ls. IsRunOrder (lists_of ls) (lists_of c.as_slice-5.result.now) (is_bound c.args.bound.now) c.in_ok-order.order.items) c.as_slice-4.ensures.value c.in_ok-order.ensures.order)) in
    tables_made (design_view c.args.design.now) ps (ap (map process_view) (sym c.as_slice-processes.ensures)) (is_bound c.args.bound.now) watched same (omega (arith, length-map c.in_ok-watched.watched.items (λ v. v.items), watched_size, ap length c.as_slice-4.ensures.value, listed_size)) c.in_ok-order.order.items run c.in_ok-clocked.clocked.items c.in_ok-last.last.items c.in_ok-clocked.ensures.has c.in_ok-clocked.ensures.once c.in_ok-last.ensures.has c.in_ok-last.ensures.once c.in_ok-rows.rows c.in_ok-ordered.ordered.items (c.in_ok-rows.ensures ∙ ap lists_of c.as_slice-6.ensures.value) (c.in_ok-ordered.ensures ∙ ap (filter (is_run ps)) c.as_slice-7.ensures)
