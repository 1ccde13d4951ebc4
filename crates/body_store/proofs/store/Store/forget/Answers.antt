use Rattle.std.proofs.Common.{◌≡◌, ◌+◌, ◌<◌, ◌≤◌, ap, arith, length, map, ne_eqb, refl, subst, sym, ◌∙◌, ⊎_elim}
use Rattle.std.proofs.lemmas.Bool.{cases_eq}
use Rattle.design_model.specs.View.{design_view}
use Rattle.word_log.specs.memory_rebuild.Words.{KnownWords, StandsFor, unwritten}
use Rattle.word_log.proofs.memory_rebuild.Laws.{unwritten_stands}
use Rattle.write_log.specs.value_store.Held.{HoldsSignals}
use Rattle.write_log.specs.value_store.Signals.{shape_of, unknown_from, unknown_signals}
use Rattle.body_store.specs.Made.{nothing}
use Rattle.body_store.specs.Veils.{kept_words}
use Rattle.body_store.proofs.Blank.{unknown_holds}
use Rattle.body_store.proofs.Holding.{around_closed, hides_left, rooms_left, signals_kept}
use Rattle.body_store.proofs.KeptWords.{kept_fits}
use Rattle.body_store.proofs.store.Store.forget.Goals as goal

pub forget-requires : goal.forget-requires
forget-requires c =
    let few = c.requires in
    let all = c.args.self.now.fits.signals in
    omega (arith, few, all)

pub smudge_words-requires : goal.smudge_words-requires
smudge_words-requires c =
    let x = c.args.self.now in
    let i = c.loop-place.invariant in
    let below = c.loop-place-test.true in
    let size = c.len-place-end.ensures in
    let all = x.fits.memories in
    let inside : c.loop-place.place < length x.design.now.memories = omega (arith, below, size, all) in
    subst (λ d. c.loop-place.place < length d.now.memories) (sym i.design) inside

pub loop-place-preserved : goal.loop-place-preserved
loop-place-preserved c =
    let l = c.loop-place in
    let i = l.invariant in
    let e = c.smudge_words.ensures in
    let y = c.smudge_words.new.self in
    record {
      design = e.design ∙ i.design;
      signals = e.signals ∙ i.signals;
      log = e.log ∙ i.log;
      words_log = e.words ∙ i.words_log;
      updates = e.updates ∙ i.updates;
      veiled = e.veiled ∙ i.veiled;
      count = e.others.count ∙ i.count;
      written = λ j. e.others.written j ∙ i.written j;
      words = λ j m. ⊎_elim
          (λ q. subst (λ z. kept_words y.veils y.memories.items z ≡ unwritten (kept_words c.args.self.now.veils c.args.self.now.memories.items z).shape) (sym q) (e.here ∙ ap (λ (w : KnownWords). unwritten w.shape) (i.later l.place (omega arith))))
          (λ ne. let below : j < l.place = omega (arith, m, ne) in e.others.others j (ne_eqb l.place j (λ q. ne (sym q))) ∙ i.words j below)
          (cases_eq j l.place);
      later = λ j m. let past : l.place ≤ j = omega (arith, m) in e.others.others j (ne_eqb l.place j (λ q. absurd (omega (arith, m, q)))) ∙ i.later j past;
    }

pub returns-clause-around : goal.returns-clause-around
returns-clause-around c = λ none. around_closed c.args.self.now c.loop-place.self c.loop-place.invariant.log none

pub returns-clause-kept : goal.returns-clause-kept
returns-clause-kept c = λ k e h.
    let x = c.args.self.now in
    let l = c.loop-place in
    let i = l.invariant in
    let d = design_view x.design.now in
    let n = length x.design.now.signals in
    let rs = x.memories.items in
    let past = c.loop-place-test.false in
    let size = c.len-place-end.ensures in
    let all = x.fits.memories in
    let blank : HoldsSignals d nothing (λ z. z) c.forget.new.self = signals_kept d nothing (λ z. z) (unknown_signals (map shape_of d.signals)) c.forget.new.self (ap (λ v. v.shapes) c.forget.ensures.value ∙ x.fits.shapes) (ap (λ v. v.kept) c.forget.ensures.value ∙ ap (unknown_from 0) x.fits.shapes) (unknown_holds d) in
    record {
      signals = subst (HoldsSignals d nothing (λ z. z)) (sym i.signals) blank;
      memories = record {
        count = i.count ∙ h.memories.count;
        each = λ j b.
            let old = h.memories.each j b in
            let done : j < l.place = omega (arith, b, past, size, all) in
            let now = i.words j done in
            let fit = kept_fits x.design.now.signals x.design.now.memories x.signals rs x.veils x.fits x.veiled j b in
            record {
              words = subst (StandsFor d nothing (n + j)) (sym now) (unwritten_stands d nothing (n + j) (kept_words x.veils rs j).shape old.words.first old.words.last old.words.width (λ a q. refl));
              blame = ap (λ w. w.shape.blame) now ∙ ap (λ z. z.blame) fit.shape;
              wrote = i.written j ∙ old.wrote;
            };
      };
    }

pub returns-clause-rooms : goal.returns-clause-rooms
returns-clause-rooms c =
    let i = c.loop-place.invariant in
    rooms_left c.args.self.now c.loop-place.self i.design i.log i.words_log i.updates

pub returns-clause-hides : goal.returns-clause-hides
returns-clause-hides c =
    let i = c.loop-place.invariant in
    hides_left c.args.self.now c.loop-place.self i.design (ap (λ v. v.hidden) i.signals ∙ ap (λ v. v.hidden) c.forget.ensures.value) i.veiled
