use Rattle.std.proofs.Common.{◌≡◌, ◌+◌, ◌<◌, ap, arith, get_or, length, refl, set, subst, sym, ◌∙◌}
use Rattle.std.proofs.lemmas.List.{get_or_default}
use Rattle.design_model.specs.Design.{no_memory}
use Rattle.word_log.specs.memory_rebuild.Words.{unwritten}
use Rattle.word_log.specs.declared.memory.StoredMemory.{StoredMemory}
use Rattle.body_store.specs.Fitting.{FitsDesign, FitsWords, memory_in}
use Rattle.body_store.specs.Made.{shape_of}
use Rattle.body_store.specs.Veils.{under_at}
use Rattle.body_store.proofs.Fit.{fit_shapes, logged_too}
use Rattle.body_store.proofs.KeptWords.{veils_set}
use Rattle.body_store.proofs.Memories.{fits_set, no_stored}
use Rattle.body_store.proofs.store.Store.exchange.Goals as goal

pub invariant_of-self-clause-words_logged : goal.invariant_of-self-clause-words_logged
invariant_of-self-clause-words_logged c =
    let x = c.args.self.now in
    let ss = x.design.now.signals in
    let ms = x.design.now.memories in
    let rs = x.memories.items in
    let p = c.args.place in
    let l = c.requires in
    let all = x.veiled.count in
    let inside : p < length x.veils.under.items = omega (arith, l, all) in
    let is : c.swap.new.x ≡ under_at x.veils p = c.swap.ensures.x_after ∙ c.index_mut-2.ensures.value ∙ get_or_default x.veils.under.items p c.index_mut-2.result.now (unwritten (shape_of no_memory 0)) inside in
    let new : StoredMemory = record { words = c.swap.new.x; written = c.index_mut.result.now.written } in
    let fits : FitsDesign ss ms x.signals (set rs p new) = fits_set ss ms x.signals rs p new x.fits (λ m. subst (FitsWords (get_or ms p no_memory) (length ss + p)) (sym is) (x.veiled.each p m)) in
    logged_too rs (set rs p new) x.words (fit_shapes ss ms x.signals x.signals rs (set rs p new) x.fits fits) x.words_logged

pub invariant_of-self-clause-veiled : goal.invariant_of-self-clause-veiled
invariant_of-self-clause-veiled c =
    let x = c.args.self.now in
    let n = length x.design.now.signals in
    let ms = x.design.now.memories in
    let rs = x.memories.items in
    let p = c.args.place in
    let l = c.requires in
    let all = x.fits.memories in
    let inside : p < length rs = omega (arith, l, all) in
    let is : c.swap.new.y ≡ (memory_in rs p).words = c.swap.ensures.y_after ∙ ap (λ r. r.words) (c.index_mut.ensures.value ∙ get_or_default rs p c.index_mut.result.now no_stored inside) in
    veils_set n ms x.veils _ p c.swap.new.y x.veiled refl refl (λ m. subst (FitsWords (get_or ms p no_memory) (n + p)) (sym is) (x.fits.each p m))
