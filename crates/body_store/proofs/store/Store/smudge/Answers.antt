use Rattle.std.proofs.Common.{◌≡◌, ◌-◌, ◌<◌, ap, length, subst, sym, ◌∙◌}
use Rattle.design_model.specs.View.{design_view}
use Rattle.word_log.specs.memory_rebuild.Words.{unwritten}
use Rattle.write_log.specs.value_store.Held.{HoldsSignals}
use Rattle.body_store.specs.Made.{without}
use Rattle.body_store.specs.Veils.{SameButWords, kept_words}
use Rattle.body_store.proofs.Fit.{among_memories, from_memories}
use Rattle.body_store.proofs.Holding.{around_closed, hides_left}
use Rattle.body_store.proofs.KeptWords.{memories_without, signals_without}
use Rattle.body_store.proofs.store.Store.smudge.Goals as goal

pub smudge_words-requires : goal.smudge_words-requires
smudge_words-requires c =
    let x = c.args.self.now in
    let d = design_view x.design.now in
    subst (λ q. q < length x.design.now.memories) (sym (ap (λ z. c.args.memory - z) (c.len.ensures ∙ x.fits.signals))) (among_memories d c.args.memory c.requires)

pub returns-clause-around : goal.returns-clause-around
returns-clause-around c = λ none. around_closed c.args.self.now c.smudge_words.new.self c.smudge_words.ensures.log none

pub returns-clause-hides : goal.returns-clause-hides
returns-clause-hides c = let e = c.smudge_words.ensures in hides_left c.args.self.now c.smudge_words.new.self e.design (ap (λ v. v.hidden) e.signals) e.veiled

pub returns-clause-kept : goal.returns-clause-kept
returns-clause-kept c = λ k e h.
    let x = c.args.self.now in
    let y = c.smudge_words.new.self in
    let d = design_view x.design.now in
    let m = c.args.memory in
    let n = length x.design.now.signals in
    let rs = x.memories.items in
    let us = y.memories.items in
    let same : m - c.len.result ≡ m - n = ap (λ z. m - z) (c.len.ensures ∙ x.fits.signals) in
    let others : SameButWords (m - n) x.veils rs y.veils us = subst (λ q. SameButWords q x.veils rs y.veils us) same c.smudge_words.ensures.others in
    let here : kept_words y.veils us (m - n) ≡ unwritten (kept_words x.veils rs (m - n)).shape = subst (λ q. kept_words y.veils us q ≡ unwritten (kept_words x.veils rs q).shape) same c.smudge_words.ensures.here in
    record {
      signals = subst (HoldsSignals d (without m k) e.blame) (sym c.smudge_words.ensures.signals) (signals_without d k e m x.signals (from_memories d m c.requires) h.signals);
      memories = memories_without d k e m x.veils y.veils rs us c.requires h.memories others here;
    }
