use Rattle.std.proofs.Common.{◌<◌, ◌≤◌, List, ap, arith, length, take, subst, sym, ◌∙◌}
use Rattle.std.proofs.lemmas.List.{take_all}
use Rattle.body_store.specs.Made.{nothing}
use Rattle.design_model.specs.declared.design.Memory.{Memory}
use Rattle.step_words.specs.Words.{FitsRanges, HasWords, StepState}
use Rattle.step_words.proofs.Forgotten.{forgotten_count, forgotten_fits, forgotten_has, forgotten_more, forgotten_words}
use Rattle.step_words.proofs.words.StepWords.forget.Goals as goal

pub forget_memory-requires-clause-memory : goal.forget_memory-requires-clause-memory
forget_memory-requires-clause-memory c =
    let x = c.args.self.now in
    let l = c.loop-place in
    let below : l.place < length c.args.memories.now = omega arith in
    let size = ap (λ (y : StepState). length y.words) l.invariant ∙ forgotten_count (take l.place c.args.memories.now) x.words in
    let count = c.requires.count in
    omega (arith, below, size, count)

pub loop-place-preserved : goal.loop-place-preserved
loop-place-preserved c =
    let l = c.loop-place in
    let below : l.place < length c.args.memories.now = omega arith in
    forgotten_more c.args.memories.now l.place c.args.self.now l.self c.forget_memory.new.self c.index-memories-place.result below c.requires.count l.invariant c.index-memories-place.is c.forget_memory.ensures

pub returns : goal.returns
returns c = λ d ranges are fits.
    let x = c.args.self.now in
    let ms = c.args.memories.now in
    let l = c.loop-place in
    let all : length ms ≤ l.place = omega arith in
    let is = l.invariant ∙ ap (λ (xs : List Memory). record x { words = forgotten_words xs x.words }) (take_all l.place ms all ∙ sym are) in
    (subst (FitsRanges d ranges) (sym is) (forgotten_fits d ranges x fits), subst (HasWords d nothing ranges) (sym is) (forgotten_has d ranges x fits))
