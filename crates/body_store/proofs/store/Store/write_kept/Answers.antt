use Rattle.std.proofs.Common.{◌+◌, ◌<◌, arith, length, refl, set, subst, sym, ◌∙◌}
use Rattle.std.specs.Vec.{with_item}
use Rattle.design_model.specs.View.{design_view}
use Rattle.body_calls.specs.body_replay.Store.{keep_all}
use Rattle.word_log.specs.memory_rebuild.Words.{StandsFor, cell_writes}
use Rattle.word_log.specs.declared.memory.StoredMemory.{StoredMemory}
use Rattle.body_store.proofs.KeptWords.{kept_fits, kept_plain, kept_under, plain_set, under_set, veils_set, written_fits}
use Rattle.body_store.proofs.Memories.{fits_set}
use Rattle.body_store.specs.Fitting.{FitsDesign, FitsWords}
use Rattle.body_store.proofs.Fit.{fit_shapes, logged_too}
use Rattle.body_store.proofs.store.Store.write_kept.Goals as goal

pub invariant_of-self : goal.invariant_of-self
invariant_of-self c =
    let x = c.args.self.now in
    let n = length x.design.now.signals in
    let ms = x.design.now.memories in
    let p = c.args.place in
    let l = c.requires.place in
    let all = x.veiled.count in
    let inside : p < length x.veils.under.items = omega (arith, l, all) in
    let old = c.index_mut.result.now in
    let is = kept_under x.veils x.memories.items p old inside (sym c.is_veiled.ensures ∙ c.if-is_veiled.true) c.index_mut.ensures.value in
    let fit = subst (FitsWords _ (n + p)) is (kept_fits x.design.now.signals ms x.signals x.memories.items x.veils x.fits x.veiled p l) in
    record {
      fits = x.fits;
      logged = x.logged;
      sized = x.sized;
      words_logged = x.words_logged;
      tests = x.tests;
      counted = x.counted;
      taken = x.taken;
      veiled = veils_set n ms x.veils _ p c.write.new.self x.veiled refl refl
          (λ m. written_fits x.design.now p old c.write.new.self (λ k. keep_all k (cell_writes (design_view x.design.now) (n + p) c.args.index.now c.args.value.now.bits c.args.certain)) l fit c.write.ensures.shape c.write.ensures.size (λ k. c.write.ensures.stands (design_view x.design.now) k (n + p)));
    }

pub invariant_of-self-else-is_veiled : goal.invariant_of-self-else-is_veiled
invariant_of-self-else-is_veiled c =
    let x = c.args.self.now in
    let n = length x.design.now.signals in
    let ms = x.design.now.memories in
    let p = c.args.place in
    let l = c.requires.place in
    let all = x.fits.memories in
    let inside : p < length x.memories.items = omega (arith, l, all) in
    let old = c.index_mut-else-is_veiled.result.now in
    let is = kept_plain x.veils x.memories.items p old inside (sym c.is_veiled.ensures ∙ c.if-is_veiled.false) c.index_mut-else-is_veiled.ensures.value in
    let fit = subst (FitsWords _ (n + p)) is (kept_fits x.design.now.signals ms x.signals x.memories.items x.veils x.fits x.veiled p l) in
    let w = c.write-else-is_veiled in
    let fits : FitsDesign x.design.now.signals ms x.signals (set x.memories.items p (record { words = w.new.self; written = old.written })) = fits_set x.design.now.signals ms x.signals x.memories.items p _ x.fits
    (λ m. written_fits x.design.now p old.words w.new.self (λ k. keep_all k (cell_writes (design_view x.design.now) (n + p) c.args.index.now c.args.value.now.bits c.args.certain)) l fit w.ensures.shape w.ensures.size (λ k. w.ensures.stands (design_view x.design.now) k (n + p))) in
    record {
      fits = fits;
      logged = x.logged;
      sized = x.sized;
      words_logged = logged_too x.memories.items (set x.memories.items p (record { words = w.new.self; written = old.written })) x.words (fit_shapes x.design.now.signals ms x.signals x.signals x.memories.items (set x.memories.items p (record { words = w.new.self; written = old.written })) x.fits fits) x.words_logged;
      tests = x.tests;
      counted = x.counted;
      taken = x.taken;
      veiled = x.veiled;
    }

pub returns-then-is_veiled-clause-here : goal.returns-then-is_veiled-clause-here
returns-then-is_veiled-clause-here c = λ d k m h.
    let x = c.args.self.now in
    let p = c.args.place in
    let l = c.requires.place in
    let all = x.veiled.count in
    let inside : p < length x.veils.under.items = omega (arith, l, all) in
    let old = c.index_mut.result.now in
    let veiled = sym c.is_veiled.ensures ∙ c.if-is_veiled.true in
    let is = kept_under x.veils x.memories.items p old inside veiled c.index_mut.ensures.value in
    let ws = cell_writes d m c.args.index.now c.args.value.now.bits c.args.certain in
    subst (StandsFor d (keep_all k ws) m) (sym (under_set x.veils (record { under = with_item x.veils.under p c.write.new.self; veiled = x.veils.veiled }) x.memories.items p c.write.new.self inside veiled refl refl)) (c.write.ensures.stands d k m (subst (StandsFor d k m) is h))

pub returns-else-is_veiled-clause-here : goal.returns-else-is_veiled-clause-here
returns-else-is_veiled-clause-here c = λ d k m h.
    let x = c.args.self.now in
    let p = c.args.place in
    let l = c.requires.place in
    let all = x.fits.memories in
    let inside : p < length x.memories.items = omega (arith, l, all) in
    let old = c.index_mut-else-is_veiled.result.now in
    let plain = sym c.is_veiled.ensures ∙ c.if-is_veiled.false in
    let is = kept_plain x.veils x.memories.items p old inside plain c.index_mut-else-is_veiled.ensures.value in
    let ws = cell_writes d m c.args.index.now c.args.value.now.bits c.args.certain in
    let new : StoredMemory = record { words = c.write-else-is_veiled.new.self; written = old.written } in
    subst (StandsFor d (keep_all k ws) m) (sym (plain_set x.veils x.memories.items p new inside plain)) (c.write-else-is_veiled.ensures.stands d k m (subst (StandsFor d k m) is h))
