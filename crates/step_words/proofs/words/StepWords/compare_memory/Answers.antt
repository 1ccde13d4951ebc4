use Rattle.std.proofs.Common.{◌≡◌, ◌+◌, ◌<◌, ◌≤◌, ap, ap₂, arith, length, subst, sym, ◌∙◌}
use Rattle.std.proofs.lemmas.List.{take_all}
use Rattle.design_model.specs.BodyLaws.{word_indexes}
use Rattle.design_model.specs.Design.{Design, In, memory_at}
use Rattle.design_model.specs.View.{design_view}
use Rattle.store_knowledge.specs.body_replay.Store.{kept_word}
use Rattle.word_log.specs.Seen.{words_seen}
use Rattle.written_words.specs.Written.{range_at}
use Rattle.step_words.specs.Words.{FitsRanges, StepState, after_places, after_word}
use Rattle.step_words.proofs.Fitting.{after_fits}
use Rattle.step_words.proofs.Lists.{word_width}
use Rattle.step_words.proofs.Walking.{place_more}
use Rattle.step_words.proofs.words.StepWords.compare_memory.Goals as goal

pub compare_word-requires-clause-width : goal.compare_word-requires-clause-width
compare_word-requires-clause-width c =
    let d = design_view c.args.store.now.design.now in
    let m = c.args.memory in
    let fits = c.loop-listed.invariant.fits in
    let place = c.requires.place in
    let ranged = fits.ranged in
    fits.widths m c.place-place.result (omega (arith, place, ranged)) c.place-place.ensures.below ∙ ap (λ f. (memory_at d (f + m)).width) (sym fits.memories.first)

pub compare_word-requires-clause-index : goal.compare_word-requires-clause-index
compare_word-requires-clause-index c =
    let d = design_view c.args.store.now.design.now in
    let m = c.args.memory in
    let q = c.place-place.result in
    let fits = c.loop-listed.invariant.fits in
    let place = c.requires.place in
    let ranged = fits.ranged in
    subst (λ f. In (c.least-least.result + q) (word_indexes d (f + m))) (sym fits.memories.first)
    (subst (λ low. In (low + q) (word_indexes d (length d.signals + m))) (sym c.least-least.ensures) (fits.inside m q (omega (arith, place, ranged)) c.place-place.ensures.below))

pub loop-listed-preserved : goal.loop-listed-preserved
loop-listed-preserved c =
    let l = c.loop-listed in
    let w = c.args.written.now in
    let m = c.args.memory in
    let e = design_view c.args.store.now.design.now in
    let q = c.place-place.result in
    let low = (range_at w.ranges m).least in
    let seen = words_seen w.words m in
    let count = c.word_count-listed-end.ensures in
    let inside : l.listed < length seen = omega (arith, count) in
    let fits = l.invariant.fits in
    let place = c.requires.place in
    let ranged = fits.ranged in
    let known = c.requires.known in
    let ps = kept_word known.0 known.1 (l.self.first + m) (c.least-least.result + q) in
    let size : length ps ≡ (memory_at e (length e.signals + m)).width =
    word_width known.0 known.1 (l.self.first + m) (c.least-least.result + q) ∙ ap (λ f. (memory_at known.0 (f + m)).width) fits.memories.first ∙ ap (λ (z : Design). (memory_at z (length e.signals + m)).width) (sym known.2.design) in
    record {
      fits = subst (FitsRanges e w.ranges) (sym (c.compare_word.ensures known.0 known.1 known.2)) (after_fits e w.ranges l.self m q ps fits (omega (arith, place, ranged)) c.place-place.ensures.below size);
      words = λ d k h.
          c.compare_word.ensures d k h ∙ ap (λ n. after_word m q (kept_word d k (l.self.first + m) (n + q)) l.self) c.least-least.ensures
          ∙ ap₂ (λ p (y : StepState). after_word m p (kept_word d k (y.first + m) (low + p)) y) c.place-place.ensures.value (l.invariant.words d k h)
          ∙ sym (place_more d k m low seen l.listed c.args.self.now inside);
    }

pub returns-clause-words : goal.returns-clause-words
returns-clause-words c = λ d k h.
    let l = c.loop-listed in
    let w = c.args.written.now in
    let m = c.args.memory in
    let count = c.word_count-listed-end.ensures in
    let all : length (words_seen w.words m) ≤ l.listed = omega (arith, count) in
    l.invariant.words d k h ∙ ap (λ qs. after_places d k m (range_at w.ranges m).least qs c.args.self.now) (take_all l.listed (words_seen w.words m) all)
