use Rattle.std.proofs.Common.{◌≡◌, ap, arith, length, ◌∙◌}
use Rattle.design_model.specs.View.{design_view}
use Rattle.step_words.specs.Unknown.{unknown_all}
use Rattle.step_words.specs.Words.{StepState}
use Rattle.step_words.proofs.Made.{new_fits, new_words, unknown_count}
use Rattle.step_words.proofs.words.StepWords.new.Goals as goal

pub invariant_of-result : goal.invariant_of-result
invariant_of-result c =
    let ms = c.args.design.now.memories in
    let fs = c.args.followed.now in
    let items : c.in_ok-memories.memories.items ≡ unknown_all ms fs = c.in_ok-memories.ensures ∙ ap (λ xs. unknown_all xs fs) c.as_slice.ensures in
    let many : length c.in_ok-memories.memories.items ≡ length ms = ap length items ∙ unknown_count ms fs c.requires.count in
    let changed = c.in_ok-changed.ensures.size in
    let unsteady = c.in_ok-unsteady.ensures.size in
    let one = c.len.ensures in
    let two = c.len-2.ensures in
    let first = c.len-first.ensures in
    let few = c.requires.few in (
      omega (arith, changed, one, many),
      omega (arith, unsteady, two, many),
      omega (arith, first, many, few),
    )

pub returns : goal.returns
returns c = λ ranges are.
    let d = design_view c.args.design.now in
    let fs = c.args.followed.now in
    let x : StepState = record { first = c.len-first.result; words = c.in_ok-memories.memories.items; changed = c.in_ok-changed.changed; unsteady = c.in_ok-unsteady.unsteady } in
    let items : c.in_ok-memories.memories.items ≡ unknown_all d.memories fs = c.in_ok-memories.ensures ∙ ap (λ xs. unknown_all xs fs) c.as_slice.ensures in
    (new_fits d fs ranges x c.len-first.ensures items c.requires.count are, new_words d fs ranges x c.len-first.ensures items c.requires.count are)
