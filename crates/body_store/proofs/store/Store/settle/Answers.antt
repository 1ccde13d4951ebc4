use Rattle.std.proofs.Common.{◌≡◌, ◌+◌, ◌-◌, ◌<◌, ◌≤◌, false, ap, arith, length, refl, set, subst, sym}
use Rattle.std.proofs.lemmas.Bool.Decides.{nat_tests}
use Rattle.std.proofs.lemmas.List.{get_or_read}
use Rattle.design_model.specs.View.{design_view}
use Rattle.write_log.specs.value_store.Held.{HoldsSignals}
use Rattle.word_log.specs.Logs as w
use Rattle.write_log.specs.Logs.{reads_of}
use Rattle.word_log.specs.declared.memory.StoredMemory.{StoredMemory}
use Rattle.body_store.specs.Ended.{settled}
use Rattle.body_store.specs.Held.{HoldsMemories}
use Rattle.body_store.specs.Scenes.{scene_with}
use Rattle.body_store.specs.Veils.{kept_memory}
use Rattle.body_store.specs.Fitting.{FitsDesign, memory_in}
use Rattle.body_store.proofs.Fit.{fit_shapes, logged_too}
use Rattle.body_store.proofs.Ending.{flag_fits, memories_apart, signal_settled, signals_apart}
use Rattle.body_store.proofs.Holding.{still_none}
use Rattle.body_store.proofs.KeptWords.{flag_settled, kept_fits}
use Rattle.body_store.proofs.Memories.{no_stored}
use Rattle.body_store.proofs.store.Store.settle.Goals as goal

pub returns-then-thing-len-clause-around : goal.returns-then-thing-len-clause-around
returns-then-thing-len-clause-around c = λ none.
    let x = c.args.self.now in
    still_none (scene_with x.design.now) (scene_with x.design.now) (reads_of x.signals) (reads_of c.blame_itself.new.self) (w.around x.words x.memories.items) (w.around x.words x.memories.items) x.log none

pub returns-then-thing-len-clause-kept : goal.returns-then-thing-len-clause-kept
returns-then-thing-len-clause-kept c = λ k e h.
    let x = c.args.self.now in
    let d = design_view x.design.now in
    let t = c.if-thing-len.true in
    let n = c.len.ensures in
    let f = x.fits.signals in
    let l : c.args.thing < length x.design.now.signals = omega (arith, t, n, f) in
    record {
      signals = subst (HoldsSignals d k (settled c.args.thing e).blame) (sym c.blame_itself.ensures) (signal_settled d k e x.signals c.args.thing l h.signals);
      memories = memories_apart d k e (length x.memories.items) (kept_memory x.veils x.memories.items) c.args.thing l h.memories;
    }

pub returns-else-thing-len-clause-around : goal.returns-else-thing-len-clause-around
returns-else-thing-len-clause-around c = λ none.
    let x = c.args.self.now in
    let new : StoredMemory = record { words = c.index_mut.result.now.words; written = false } in
    still_none (scene_with x.design.now) (scene_with x.design.now) (reads_of x.signals) (reads_of x.signals) (w.around x.words x.memories.items) (w.around x.words (set x.memories.items (c.args.thing - c.len-else-thing-len.result) new)) x.log none

pub returns-else-thing-len-clause-kept : goal.returns-else-thing-len-clause-kept
returns-else-thing-len-clause-kept c = λ k e h.
    let x = c.args.self.now in
    let d = design_view x.design.now in
    let n = length x.design.now.signals in
    let rs = x.memories.items in
    let p = c.args.thing - c.len-else-thing-len.result in
    let new : StoredMemory = record { words = c.index_mut.result.now.words; written = false } in
    let count = x.fits.signals in
    let here = c.len-else-thing-len.ensures in
    let first = c.len.ensures in
    let past = c.if-thing-len.false in
    let from : n ≤ c.args.thing = omega (arith, past, first, count) in
    let number : n + p ≡ c.args.thing = omega (arith, from, here, count) in
    let some = c.requires in
    let below : c.args.thing < n + length x.design.now.memories = grind (arith, nat_tests, some) in
    let all = x.fits.memories in
    let inside : p < length rs = omega (arith, below, number, all) in
    let was : c.index_mut.result.now ≡ _ = get_or_read rs p c.index_mut.result.now inside c.index_mut.ensures.value no_stored in
    record {
      signals = signals_apart d k e x.signals c.args.thing from h.signals;
      memories = subst (λ t. HoldsMemories d k (settled t e) (length (set rs p new)) (kept_memory x.veils (set rs p new))) number
          (flag_settled d k e x.veils rs p new inside (ap (λ r. r.words) was) refl (λ l. ap (λ z. z.blame) (kept_fits x.design.now.signals x.design.now.memories x.signals rs x.veils x.fits x.veiled p l).shape) h.memories);
    }

pub invariant_of-self-else-thing-len-clause-words_logged : goal.invariant_of-self-else-thing-len-clause-words_logged
invariant_of-self-else-thing-len-clause-words_logged c =
    let x = c.args.self.now in
    let ss = x.design.now.signals in
    let ms = x.design.now.memories in
    let n = length ss in
    let rs = x.memories.items in
    let p = c.args.thing - c.len-else-thing-len.result in
    let new : StoredMemory = record { words = c.index_mut.result.now.words; written = false } in
    let count = x.fits.signals in
    let here = c.len-else-thing-len.ensures in
    let first = c.len.ensures in
    let past = c.if-thing-len.false in
    let from : n ≤ c.args.thing = omega (arith, past, first, count) in
    let number : n + p ≡ c.args.thing = omega (arith, from, here, count) in
    let some = c.requires in
    let below : c.args.thing < n + length ms = grind (arith, nat_tests, some) in
    let all = x.fits.memories in
    let inside : p < length rs = omega (arith, below, number, all) in
    let was : c.index_mut.result.now ≡ memory_in rs p = get_or_read rs p c.index_mut.result.now inside c.index_mut.ensures.value no_stored in
    let fits : FitsDesign ss ms x.signals (set rs p new) = flag_fits ss ms x.signals rs p new x.fits (ap (λ r. r.words) was) in
    logged_too rs (set rs p new) x.words (fit_shapes ss ms x.signals x.signals rs (set rs p new) x.fits fits) x.words_logged
