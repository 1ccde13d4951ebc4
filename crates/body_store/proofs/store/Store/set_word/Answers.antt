use Rattle.std.proofs.Common.{◌≡◌, ◌-◌, ◌<◌, ap, length, subst, sym, ◌∙◌}
use Rattle.design_model.specs.Design.{memory_at}
use Rattle.design_model.specs.View.{design_view}
use Rattle.body_calls.specs.body_replay.KnownBits.{KnownBits}
use Rattle.body_calls.specs.body_replay.Store.{keep_all, write_word}
use Rattle.word_log.specs.memory_rebuild.Words.{StandsFor, cell_writes}
use Rattle.write_log.specs.value_store.Held.{HoldsSignals, itself}
use Rattle.body_calls.specs.Lvalues.{if_certain}
use Rattle.body_store.specs.Held.{HoldsMemories}
use Rattle.body_store.specs.Made.{unblamed}
use Rattle.body_store.specs.Veils.{SameButWords, kept_memory, kept_words}
use Rattle.body_store.proofs.Between.{certain_inside, held_words, signals_left}
use Rattle.body_store.proofs.Fit.{among_memories, from_memories, in_memories}
use Rattle.body_store.proofs.Holding.{around_closed}
use Rattle.body_store.proofs.KeptWords.{kept_fits, word_kept}
use Rattle.body_store.proofs.Words.{inside_words, is_in_word}
use Rattle.body_store.proofs.store.Store.set_word.Goals as goal

pub write_kept-requires : goal.write_kept-requires
write_kept-requires c =
    let x = c.args.self.now in
    let d = design_view x.design.now in
    let m = c.args.memory in
    let n = length x.design.now.signals in
    let rs = x.memories.items in
    let same : m - c.len.result ≡ m - n = ap (λ z. m - z) (c.len.ensures ∙ x.fits.signals) in
    let among = among_memories d m c.requires.place in
    let fit = kept_fits x.design.now.signals x.design.now.memories x.signals rs x.veils x.fits x.veiled (m - n) among in
    record {
      place = subst (λ q. q < length x.design.now.memories) (sym same) among;
      width = ap (λ q. length q.bits) c.signed_as-value.ensures ∙ c.requires.width ∙ ap (λ y. y.width) (in_memories d m c.requires.place) ∙ sym (ap (λ y. y.width) fit.shape) ∙ ap (λ q. (kept_words x.veils rs q).shape.width) (sym same);
      sign = ap (λ q. q.signed) c.signed_as-value.ensures ∙ c.are_signed-signed.ensures ∙ ap (λ q. (kept_words x.veils rs q).shape.signed) (sym same);
    }

pub returns-clause-around : goal.returns-clause-around
returns-clause-around c = λ none. around_closed c.args.self.now c.write_kept.new.self c.write_kept.ensures.log none

pub returns-clause-kept : goal.returns-clause-kept
returns-clause-kept c = λ k h.
    let x = c.args.self.now in
    let y = c.write_kept.new.self in
    let d = design_view x.design.now in
    let m = c.args.memory in
    let i = c.args.index.now in
    let n = length x.design.now.signals in
    let rs = x.memories.items in
    let us = y.memories.items in
    let same : m - c.len.result ≡ m - n = ap (λ z. m - z) (c.len.ensures ∙ x.fits.signals) in
    let ps = c.signed_as-value.result.bits in
    let bits = ap (λ q. q.bits) c.signed_as-value.ensures in
    let ws = if_certain c.args.certain (write_word d m i.signed i.bits c.args.value.now.bits) in
    let inside = certain_inside m (is_in_word (memory_at d m)) (write_word d m i.signed i.bits c.args.value.now.bits) c.args.certain (inside_words d m i.signed i.bits c.args.value.now.bits) in
    let before : StandsFor d k m (kept_words x.veils rs (m - n)) = held_words d k unblamed (length rs) (kept_memory x.veils rs) m c.requires.place h.memories in
    let after : StandsFor d (keep_all k (cell_writes d m i ps c.args.certain)) m (kept_words y.veils us (m - n)) =
    subst (λ q. StandsFor d (keep_all k (cell_writes d m i ps c.args.certain)) m (kept_words y.veils us q)) same
    (c.write_kept.ensures.here d k m (subst (λ q. StandsFor d k m (kept_words x.veils rs q)) (sym same) before)) in
    let others : SameButWords (m - n) x.veils rs y.veils us = subst (λ q. SameButWords q x.veils rs y.veils us) same c.write_kept.ensures.others in
    let shape : (kept_words y.veils us (m - n)).shape ≡ (kept_words x.veils rs (m - n)).shape = subst (λ q. (kept_words y.veils us q).shape ≡ (kept_words x.veils rs q).shape) same c.write_kept.ensures.shape in
    record {
      signals = subst (HoldsSignals d (keep_all k ws) itself) (sym c.write_kept.ensures.signals) (signals_left d k itself x.signals m (is_in_word (memory_at d m)) ws (from_memories d m c.requires.place) inside h.signals);
      memories = subst (λ (qs : KnownBits). HoldsMemories d (keep_all k (if_certain c.args.certain (write_word d m i.signed i.bits qs))) unblamed (length us) (kept_memory y.veils us)) bits
          (word_kept d k unblamed x.veils y.veils rs us m i ps c.args.certain c.requires.place h.memories others shape after);
    }
