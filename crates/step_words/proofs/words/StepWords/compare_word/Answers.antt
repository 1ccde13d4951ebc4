use Rattle.std.proofs.Common.{◌+◌, ◌<◌, [], ap, arith, length, sym, ◌∙◌}
use Rattle.std.proofs.lemmas.List.{get_or_default}
use Rattle.design_model.specs.Design.{Design, memory_at}
use Rattle.step_words.specs.Changes.{word_in}
use Rattle.step_words.specs.Words.{StepState, words_of}
use Rattle.step_words.proofs.Lists.{word_width}
use Rattle.step_words.proofs.words.StepWords.compare_word.Goals as goal

pub overflow_cast-memory : goal.overflow_cast-memory
overflow_cast-memory c =
    let size = ap (λ (x : StepState). length x.words) c.self.view_is in
    let below = c.requires.count in
    let few = c.self.invariant.2 in
    omega (arith, size, below, few)

pub overflow_add-self-inside : goal.overflow_add-self-inside
overflow_add-self-inside c =
    let size = ap (λ (x : StepState). length x.words) c.self.view_is in
    let below = c.requires.count in
    let few = c.self.invariant.2 in
    omega (arith, size, below, few)

pub keep-change-requires-clause-width : goal.keep-change-requires-clause-width
keep-change-requires-clause-width c =
    let known = c.requires.known in
    let m = c.args.memory in
    let x = c.args.self.now in
    let words = c.self.inside.memories.items in
    let size = ap (λ (y : StepState). length y.words) c.self.view_is in
    let below = c.requires.count in
    let inside : m < length words = omega (arith, size, below) in
    let is = c.index_mut.ensures.value ∙ get_or_default words m c.index_mut.result.now [] inside ∙ ap (λ (y : StepState). words_of y m) c.self.view_is in
    ap (λ ws. length (word_in ws c.args.place)) is ∙ c.requires.width ∙ ap (λ (e : Design). (memory_at e (x.first + m)).width) known.2.design
    ∙ sym (ap length (c.known_word-now.ensures known.0 known.1 known.2) ∙ word_width known.0 known.1 (c.self.inside.first + m) c.args.index ∙ ap (λ (y : StepState). (memory_at known.0 (y.first + m)).width) c.self.view_is)
