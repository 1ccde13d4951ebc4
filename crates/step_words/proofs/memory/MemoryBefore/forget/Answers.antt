use Rattle.std.proofs.Common.{◌≡◌, List, ap, arith, length, replicate, sym, ◌∙◌}
use Rattle.std.proofs.lemmas.List.{with_items_is}
use Rattle.known_state.specs.Partly.{Partly, are_sure}
use Rattle.step_words.proofs.Counts.{none_sure}
use Rattle.step_words.proofs.Forgotten.{filled_counts, filled_words}
use Rattle.step_words.proofs.memory.MemoryBefore.forget.Goals as goal

pub invariant_of-self : goal.invariant_of-self
invariant_of-self c =
    let u = c.unknown-unknown.result in
    let size : length c.fill_words.new.words ≡ c.self.inside.words.len = omega arith in
    let is = with_items_is c.self.inside.words c.fill_words.new.words size in
    filled_counts c.self.inside.words.items _ u _
    (is ∙ c.fill_words.ensures ∙ ap (λ (ws : List Partly). replicate (length ws) u) c.as_mut_slice.ensures.value)
    (ap (λ (w : Partly). are_sure w.bits) c.unknown-unknown.ensures ∙ none_sure c.args.width c.requires.at_least)
    (c.len-self-inside.ensures ∙ sym (ap length is ∙ size)) c.self.invariant.1

pub returns : goal.returns
returns c =
    let u = c.unknown-unknown.result in
    let size : length c.fill_words.new.words ≡ c.self.inside.words.len = omega arith in
    filled_words c.self.inside.words.items _ c.args.self.now u c.args.width
    (with_items_is c.self.inside.words c.fill_words.new.words size ∙ c.fill_words.ensures ∙ ap (λ (ws : List Partly). replicate (length ws) u) c.as_mut_slice.ensures.value)
    c.unknown-unknown.ensures c.self.view_is
