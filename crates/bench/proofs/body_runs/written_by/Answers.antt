use Rattle.std.proofs.Common.{◌+◌, ◌≡◌, ◌∙◌, arith, length, subst, sym, true}
use Rattle.std.specs.Prelude.{nat_lt}
use Rattle.std.specs.List.{All, list_all}
use Rattle.std.proofs.lemmas.List.Sums.{AllPass-from_list_all}
use Rattle.design_model.specs.Design.{is_number}
use Rattle.design_model.specs.View.{design_view}
use Rattle.bench.proofs.body_runs.written_by.Goals as goal

pub overflow_add-signals : goal.overflow_add-signals
overflow_add-signals c =
    let storable = c.premises_law.ensures (design_view c.args.design.now) c.requires in
    let few = storable.few_signals in
    let few_memories = storable.few_memories in
    let signals = c.len-signals.ensures in
    let memories = c.len-memories.ensures in
    omega (arith, few, few_memories, signals, memories)

pub returns-then-are_below-clause-numbers : goal.returns-then-are_below-clause-numbers
returns-then-are_below-clause-numbers c =
    let d = design_view c.args.design.now in
    let n = c.len-signals.result + c.len-memories.result in
    let signals = c.len-signals.ensures in
    let memories = c.len-memories.ensures in
    let count : n ≡ length d.signals + length d.memories = omega (arith, signals, memories) in
    let all : list_all (λ x. nat_lt x n) c.as_slice.result.now ≡ true = sym c.are_below.ensures ∙ c.if-are_below.true in
    let here = AllPass-from_list_all (λ x. nat_lt x (length d.signals + length d.memories)) c.as_slice.result.now (subst (λ k. list_all (λ x. nat_lt x k) c.as_slice.result.now ≡ true) count all) in
    subst (All (λ x. is_number d x ≡ true)) c.as_slice.ensures.value here
