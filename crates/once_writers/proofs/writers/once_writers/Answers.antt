use Rattle.std.proofs.Common.{◌≡◌, ◌∙◌, ◌+◌, ◌<◌, ℕ, Some, length, map, sym, ap, ap₂, subst, arith}
use Rattle.std.specs.List.{All}
use Rattle.std.proofs.lemmas.Result.{IfOk-weaker}
use Rattle.event_machine.specs.Machine.{Negedge, Posedge}
use Rattle.design_model.specs.View.{design_view, process_view}
use Rattle.design_targets.specs.Written.{IsShapedProcess}
use Rattle.design_wakes.specs.Tables.{IsEdgeTable}
use Rattle.once_writers.specs.Lists.{first_of, once_written}
use Rattle.once_writers.specs.Writers.{AreOnceWriters, flag_at, writer_at}
use Rattle.once_writers.proofs.Few.{few_memories}
use Rattle.once_writers.proofs.Found.{shaped, writers_are, writers_within}
use Rattle.once_writers.proofs.writers.once_writers.Goals as goal

pub overflow_add-things : goal.overflow_add-things
overflow_add-things c =
    let few = few_memories (design_view c.args.design.now) c.requires in
    omega (arith, c.len.ensures, c.len-2.ensures, c.requires.few_signals, few)

pub once_lists-requires : goal.once_lists-requires
once_lists-requires c =
    subst (All (λ process. IsShapedProcess (process_view process))) (sym c.as_slice-processes.ensures) (shaped c.args.design.now c.requires (c.len.result + c.len-2.result) (ap₂ (λ a b. a + b) c.len.ensures c.len-2.ensures))

pub returns-clause-writers : goal.returns-clause-writers
returns-clause-writers c =
    let x = c.args.design.now in
    let n = c.len.result + c.len-2.result in
    let same = c.as_slice-processes.ensures in
    let sum : n ≡ length x.signals + length x.memories = ap₂ (λ a b. a + b) c.len.ensures c.len-2.ensures in
    let rise = subst (λ ps. IsEdgeTable Posedge (map process_view ps) n c.in_ok-rising.rising) same c.in_ok-rising.ensures in
    let fall = subst (λ ps. IsEdgeTable Negedge (map process_view ps) n c.in_ok-falling.falling) same c.in_ok-falling.ensures in
    let wanted = c.in_ok-wanted.wanted.items in
    let lists = map (λ list. list.items) c.as_slice-2.result.now in
    let are : lists ≡ map (λ process. once_written c.as_slice.result.now (process_view process)) c.as_slice-processes.result.now = ap (map (λ list. list.items)) c.as_slice-2.ensures.value ∙ c.in_ok-lists.ensures in
    let those : lists ≡ map (λ process. once_written wanted (process_view process)) x.processes = are ∙ ap₂ (λ ws ps. map (λ process. once_written ws (process_view process)) ps) c.as_slice.ensures.value same in
    IfOk-weaker c.first_of_each.result (λ firsts. firsts.items ≡ map first_of c.in_ok-writers.writers) (λ writers. AreOnceWriters (design_view x) (flag_at c.args.bound.now) writers.items)
    (λ writers is. subst (AreOnceWriters (design_view x) (flag_at c.args.bound.now)) (sym is) (writers_are x c.requires n sum c.in_ok-rising.rising c.in_ok-falling.falling rise fall c.args.bound.now wanted c.in_ok-wanted.ensures.count c.in_ok-wanted.ensures.flags lists c.in_ok-writers.writers those c.in_ok-writers.ensures))
    c.first_of_each.ensures

pub returns-clause-within : goal.returns-clause-within
returns-clause-within c =
    let x = c.args.design.now in
    IfOk-weaker c.first_of_each.result (λ writers. AreOnceWriters (design_view x) (flag_at c.args.bound.now) writers.items) (λ writers. (y p : ℕ) → writer_at writers.items y ≡ Some p → p < length x.processes)
    (λ writers are. writers_within x c.requires (c.len.result + c.len-2.result) (ap₂ (λ a b. a + b) c.len.ensures c.len-2.ensures) c.args.bound.now writers.items are)
    (returns-clause-writers c)
