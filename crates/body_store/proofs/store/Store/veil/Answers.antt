use Rattle.std.proofs.Common.{◌≡◌, ◌+◌, ◌-◌, ◌<◌, ap, ap₂, arith, length, subst, sym, ◌∙◌}
use Rattle.design_model.specs.View.{design_view}
use Rattle.write_log.specs.value_store.Held.{HoldsSignals}
use Rattle.write_log.specs.value_store.Signals.{read_at, shape_at}
use Rattle.word_log.specs.Logs as w
use Rattle.write_log.specs.Logs.{reads_of}
use Rattle.body_store.specs.Fitting.{memory_in}
use Rattle.body_store.specs.Scenes.{scene_of, scene_with, word_bit}
use Rattle.body_store.specs.Veils.{kept_memory}
use Rattle.body_store.specs.Views.{veiling}
use Rattle.body_store.proofs.Holding.{around_closed, memories_kept, still_none}
use Rattle.body_store.proofs.Shown.{none_written, veiled_scene, veiled_words}
use Rattle.body_store.proofs.store.Store.veil.Goals as goal

pub returns-then-number-count-clause-around : goal.returns-then-number-count-clause-around
returns-then-number-count-clause-around c = λ none.
    let x = c.args.self.now in
    still_none (scene_with x.design.now) (scene_with x.design.now) (reads_of x.signals) (reads_of c.veil.new.self) (w.around x.words x.memories.items) (w.around x.words x.memories.items) x.log none

pub returns-then-number-count-clause-reads : goal.returns-then-number-count-clause-reads
returns-then-number-count-clause-reads c =
    let x = c.args.self.now in
    let below = c.if-number-count.true in
    let count = c.len-count.ensures in
    let all = x.fits.signals in
    let l : c.args.thing < length x.design.now.signals = omega (arith, below, count, all) in
    veiled_scene x.design.now x.memories.items (read_at x.signals) (read_at c.veil.new.self) c.args.thing (shape_at x.signals c.args.thing) l c.veil.ensures.reads

pub returns-else-number-count-clause-around : goal.returns-else-number-count-clause-around
returns-else-number-count-clause-around c = λ none. around_closed c.args.self.now c.veil_memory.new.self c.veil_memory.ensures.log none

pub returns-else-number-count-clause-reads : goal.returns-else-number-count-clause-reads
returns-else-number-count-clause-reads c =
    let x = c.args.self.now in
    let y = c.veil_memory.new.self in
    let p = c.args.thing - c.len-count.result in
    let a = c.veil_memory.ensures.aside in
    let past = c.if-number-count.false in
    let count = c.len-count.ensures in
    let all = x.fits.signals in
    let number : length x.design.now.signals + p ≡ c.args.thing = omega (arith, past, count, all) in
    let unknown = c.veil_memory.ensures.unknown in
    let like = veiled_words x.design.now x.memories.items y.memories.items (read_at x.signals) p a.others (λ k. ap (λ w. word_bit w k) unknown ∙ none_written (memory_in y.memories.items p).words.shape k) a.written in
    subst (λ d. scene_with d.now y.memories.items (read_at y.signals) ≡ veiling c.args.thing (scene_of x)) (sym c.veil_memory.ensures.design)
    (subst (λ v. scene_with x.design.now y.memories.items (read_at v) ≡ veiling c.args.thing (scene_of x)) (sym c.veil_memory.ensures.signals)
    (subst (λ t. scene_with x.design.now y.memories.items (read_at x.signals) ≡ veiling t (scene_of x)) number like))

pub returns-else-number-count-clause-holds : goal.returns-else-number-count-clause-holds
returns-else-number-count-clause-holds c = λ k e h.
    let x = c.args.self.now in
    let y = c.veil_memory.new.self in
    let d = design_view x.design.now in
    let a = c.veil_memory.ensures.aside in
    record {
      signals = subst (HoldsSignals d k e.blame) (sym c.veil_memory.ensures.signals) h.signals;
      memories = memories_kept d k e (length x.memories.items) (length y.memories.items) (kept_memory x.veils x.memories.items) (kept_memory y.veils y.memories.items) a.count (λ i. ap₂ (λ w b. record { words = w; written = b }) (a.kept i) (a.written i)) h.memories;
    }
