use Rattle.std.proofs.Common.{◌≡◌, ◌+◌, ◌<◌, arith, get_or, length, set, subst, sym, ◌∙◌}
use Rattle.std.proofs.lemmas.List.{get_or_default}
use Rattle.design_model.specs.Design.{no_memory}
use Rattle.word_log.specs.declared.memory.StoredMemory.{StoredMemory}
use Rattle.body_store.specs.Fitting.{FitsDesign, FitsWords, memory_in}
use Rattle.body_store.proofs.Fit.{fit_shapes, logged_too}
use Rattle.body_store.proofs.KeptWords.{blank_again}
use Rattle.body_store.proofs.Memories.{fits_set, no_stored}
use Rattle.body_store.proofs.store.Store.veil_memory.Goals as goal

pub invariant_of-self-clause-words_logged : goal.invariant_of-self-clause-words_logged
invariant_of-self-clause-words_logged c =
    let y = c.put_aside.new.self in
    let ss = y.design.now.signals in
    let ms = y.design.now.memories in
    let rs = y.memories.items in
    let p = c.args.place in
    let l : p < length ms = subst (λ d. p < length d.now.memories) (sym c.put_aside.ensures.design) c.requires in
    let all = y.fits.memories in
    let inside : p < length rs = omega (arith, l, all) in
    let is : c.index_mut.result.now ≡ memory_in rs p = c.index_mut.ensures.value ∙ get_or_default rs p c.index_mut.result.now no_stored inside in
    let fit : FitsWords (get_or ms p no_memory) (length ss + p) c.index_mut.result.now.words = subst (λ r. FitsWords (get_or ms p no_memory) (length ss + p) r.words) (sym is) (y.fits.each p l) in
    let new : StoredMemory = record { words = c.smudge.new.self; written = c.index_mut.result.now.written } in
    let fits : FitsDesign ss ms y.signals (set rs p new) = fits_set ss ms y.signals rs p new y.fits (λ m. subst (FitsWords (get_or ms p no_memory) (length ss + p)) (sym c.smudge.ensures.value) (blank_again (get_or ms p no_memory) (length ss + p) c.index_mut.result.now.words fit)) in
    logged_too rs (set rs p new) y.words (fit_shapes ss ms y.signals y.signals rs (set rs p new) y.fits fits) y.words_logged
