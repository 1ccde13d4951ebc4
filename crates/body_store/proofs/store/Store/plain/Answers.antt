use Rattle.std.proofs.Common.{◌≡◌, ℕ, ◌<◌, ◌≤◌, [], if◌then◌else◌, ap, ap₂, arith, get_or, length, subst, sym, ◌∙◌}
use Rattle.std.proofs.lemmas.List.{take_all}
use Rattle.design_model.specs.View.{design_view}
use Rattle.write_log.specs.value_store.Signals.{kept_at, read_at}
use Rattle.write_log.specs.Entries.{has}
use Rattle.word_log.specs.Logs as w
use Rattle.write_log.specs.Logs.{around, reads_of}
use Rattle.body_store.specs.declared.veils.Veils.{Veils}
use Rattle.body_store.specs.Tests.{tests_by}
use Rattle.body_store.specs.Fitting.{memory_in}
use Rattle.body_store.specs.Scenes.{scene_with}
use Rattle.body_store.specs.Veils.{kept_memory, kept_words, under_at}
use Rattle.body_store.proofs.Holding.{memories_kept, signals_kept, still_none}
use Rattle.body_store.proofs.Shown.{scene_by}
use Rattle.body_store.proofs.Veiling.{plain_words, read_more, under_more}
use Rattle.body_store.proofs.store.Store.plain.Goals as goal
use Rattle.body_store.proofs.store.Store.plain.Goals.{After-plain}

pub loop-listed-preserved : goal.loop-listed-preserved
loop-listed-preserved c =
    let x = c.args.self.now in
    let l = c.loop-listed in
    let i = l.invariant in
    let e = c.exchange.ensures.exchanged in
    let y = c.exchange.new.self in
    let xs = x.veils.veiled.items in
    let below = c.loop-listed-test.true in
    let size = c.len-listed-end.ensures.value in
    let inside : l.listed < length xs = omega (arith, below, size) in
    let is : c.get-place.result ≡ get_or xs l.listed 0 = c.get-place.ensures.value ∙ ap (λ z. get_or z.items l.listed 0) i.veiled in
    record {
      design = c.exchange.ensures.design ∙ i.design;
      signals = c.exchange.ensures.signals ∙ i.signals;
      log = c.exchange.ensures.log ∙ i.log;
      words_log = c.exchange.ensures.words ∙ i.words_log;
      updates = c.exchange.ensures.updates ∙ i.updates;
      veiled = e.veiled ∙ i.veiled;
      count = e.count ∙ i.count;
      written = λ j. e.written j ∙ i.written j;
      read = read_more xs l.listed c.get-place.result x.veils l.self.veils y.veils x.memories.items l.self.memories.items y.memories.items inside is x.veiled.once e i.read i.under;
      under = under_more xs l.listed c.get-place.result x.veils l.self.veils y.veils x.memories.items l.self.memories.items y.memories.items inside is x.veiled.once e i.read i.under;
    }

-- what bodies read of a memory is what is kept of it
words : (c : After-plain) → (j : ℕ) → (memory_in c.loop-listed.self.memories.items j).words ≡ kept_words c.args.self.now.veils c.args.self.now.memories.items j
words c j =
    let x = c.args.self.now in
    let l = c.loop-listed in
    let xs = x.veils.veiled.items in
    let past = c.loop-listed-test.false in
    let size = c.len-listed-end.ensures.value in
    let all : length xs ≤ l.listed = omega (arith, past, size) in
    l.invariant.read j ∙ ap (λ ys. if has ys j then under_at x.veils j else (memory_in x.memories.items j).words) (take_all l.listed xs all)

abbrev veils_after : After-plain → Veils
veils_after c = record { under = c.loop-listed.self.veils.under; veiled = c.clear.new.self }

pub returns-clause-around : goal.returns-clause-around
returns-clause-around c = λ none.
    let x = c.args.self.now in
    let l = c.loop-listed in
    let scene = scene_with l.self.design.now in
    let us = w.around l.self.words l.self.memories.items in
    subst (λ k. tests_by scene (around k (reads_of c.plain.new.self)) us ≡ []) (sym l.invariant.log)
    (still_none (scene_with x.design.now) scene (reads_of x.signals) (reads_of c.plain.new.self) (w.around x.words x.memories.items) us x.log none)

pub returns-clause-reads : goal.returns-clause-reads
returns-clause-reads c =
    let x = c.args.self.now in
    let l = c.loop-listed in
    let a : After-plain = (goal.at.returns-clause-reads c).After-plain in
    scene_by x.design.now l.self.design.now (kept_at x.signals) (read_at c.plain.new.self) (kept_words x.veils x.memories.items) (λ j. (memory_in l.self.memories.items j).words) (λ j. (memory_in x.memories.items j).written) (λ j. (memory_in l.self.memories.items j).written)
    (ap (λ b. b.now) l.invariant.design) (λ s. c.plain.ensures.reads s ∙ ap (λ v. kept_at v s) l.invariant.signals) (words a) l.invariant.written

pub returns-clause-kept : goal.returns-clause-kept
returns-clause-kept c =
    let x = c.args.self.now in
    let l = c.loop-listed in
    let a : After-plain = (goal.at.returns-clause-kept c).After-plain in
    scene_by x.design.now l.self.design.now (kept_at x.signals) (kept_at c.plain.new.self) (kept_words x.veils x.memories.items) (kept_words (veils_after a) l.self.memories.items) (λ j. (memory_in x.memories.items j).written) (λ j. (memory_in l.self.memories.items j).written)
    (ap (λ b. b.now) l.invariant.design) (λ s. ap (λ v. kept_at v s) c.plain.ensures.value ∙ ap (λ v. kept_at v s) l.invariant.signals)
    (λ j. plain_words (veils_after a) l.self.memories.items c.clear.ensures.items j ∙ words a j) l.invariant.written

pub returns-clause-holds : goal.returns-clause-holds
returns-clause-holds c = λ k e h.
    let x = c.args.self.now in
    let l = c.loop-listed in
    let a : After-plain = (goal.at.returns-clause-holds c).After-plain in
    let d = design_view x.design.now in
    record {
      signals = signals_kept d k e.blame x.signals c.plain.new.self (ap (λ v. v.shapes) c.plain.ensures.value ∙ ap (λ v. v.shapes) l.invariant.signals) (ap (λ v. v.kept) c.plain.ensures.value ∙ ap (λ v. v.kept) l.invariant.signals) h.signals;
      memories = memories_kept d k e (length x.memories.items) (length l.self.memories.items) (kept_memory x.veils x.memories.items) (kept_memory (veils_after a) l.self.memories.items) l.invariant.count
          (λ j. ap₂ (λ w b. record { words = w; written = b }) (plain_words (veils_after a) l.self.memories.items c.clear.ensures.items j ∙ words a j) (l.invariant.written j)) h.memories;
    }
