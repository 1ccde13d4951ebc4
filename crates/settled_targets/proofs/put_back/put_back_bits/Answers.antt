use Rattle.std.proofs.Common.{◌≡◌, ◌∙◌, ◌<◌, ◌^◌, arith, length, refl, subst, sym}
use Rattle.design_model.specs.Design.{signal_at}
use Rattle.design_model.specs.View.{design_view}
use Rattle.process_targets.specs.Rows.{IsInside}
use Rattle.step_values.specs.store_knowledge.Knows.{Knows}
use Rattle.step_values.proofs.Forgets.{here, known_width}
use Rattle.settled_targets.proofs.Cells.{bits_width, coded_apart, made_of_others, result_back, saved_back}
use Rattle.settled_targets.proofs.put_back.put_back_bits.Goals as goal

pub make_bits-requires-clause-place : goal.make_bits-requires-clause-place
make_bits-requires-clause-place c = let count = c.requires.fits.made.count in let l = c.requires.inside.0 in omega (arith, count, l)

pub make_bits-requires-clause-width : goal.make_bits-requires-clause-width
make_bits-requires-clause-width c =
    let h = c.requires.known.2 in
    c.requires.fits.made.width c.args.bits.now.signal c.requires.inside.0
    ∙ sym (known_width c.requires.known.0 c.requires.known.1 c.args.store.now c.args.bits.now.signal c.known_signal-result.result h (c.known_signal-result.ensures c.requires.known.0 c.requires.known.1 h))

pub make_bits-requires-clause-mask : goal.make_bits-requires-clause-mask
make_bits-requires-clause-mask c =
    let h = c.requires.known.2 in
    subst (λ n. c.args.bits.now.mask < 2 ^ n) (sym (known_width c.requires.known.0 c.requires.known.1 c.args.store.now c.args.bits.now.signal c.known_signal-result.result h (c.known_signal-result.ensures c.requires.known.0 c.requires.known.1 h))) c.requires.inside.1

pub keep_signal-requires-clause-width : goal.keep_signal-requires-clause-width
keep_signal-requires-clause-width c = bits_width (design_view c.args.store.now.design.now) c.requires.saved.0 c.args.bits.now.signal c.args.saved.now.bits c.requires.saved.1.bits

pub replaced-kept-requires-clause-width : goal.replaced-kept-requires-clause-width
replaced-kept-requires-clause-width c =
    let h = c.requires.known.2 in
    bits_width (design_view c.args.store.now.design.now) c.requires.saved.0 c.args.bits.now.signal c.args.saved.now.bits c.requires.saved.1.bits
    ∙ sym (known_width c.requires.known.0 c.requires.known.1 c.args.store.now c.args.bits.now.signal c.known_signal-result.result h (c.known_signal-result.ensures c.requires.known.0 c.requires.known.1 h))

pub replaced-kept-requires-clause-mask : goal.replaced-kept-requires-clause-mask
replaced-kept-requires-clause-mask c =
    subst (λ n. c.args.bits.now.mask < 2 ^ n) (sym (bits_width (design_view c.args.store.now.design.now) c.requires.saved.0 c.args.bits.now.signal c.args.saved.now.bits c.requires.saved.1.bits)) c.requires.inside.1

pub keep_signal-requires-else-is_coded-clause-width : goal.keep_signal-requires-else-is_coded-clause-width
keep_signal-requires-else-is_coded-clause-width c =
    c.replaced-kept.ensures.width ∙ bits_width (design_view c.args.store.now.design.now) c.requires.saved.0 c.args.bits.now.signal c.args.saved.now.bits c.requires.saved.1.bits

pub returns-then-is_coded : goal.returns-then-is_coded
returns-then-is_coded c = record {
  design = c.keep_signal.ensures.design;
  before = c.make_bits.ensures.before;
  fits = c.make_bits.ensures.fits;
  knows = λ d k r saved known.
      let b = c.args.bits.now in
      let inside : IsInside d b = here (λ e. IsInside e b) d r c.args.store.now known c.requires.inside in
      let size = bits_width d k b.signal c.args.saved.now.bits saved.bits in
      subst (λ j. Knows d j c.keep_signal.new.store)
      (saved_back d c.args.codes.now b c.args.is_kept k r inside.0 inside.1 saved.blank c.args.saved.now.bits (sym c.is_coded.ensures ∙ c.if-is_coded.true) saved.bits size)
      (c.keep_signal.ensures.knows d r known);
  made = λ d k r m s saved known f l coded old. c.make_bits.ensures.made d r m s f l (c.known_signal-result.ensures d r known) old;
}

pub returns-else-is_coded : goal.returns-else-is_coded
returns-else-is_coded c = record {
  design = c.keep_signal-else-is_coded.ensures.design;
  before = refl;
  fits = λ d f. f;
  knows = λ d k r saved known.
      let b = c.args.bits.now in
      let inside : IsInside d b = here (λ e. IsInside e b) d r c.args.store.now known c.requires.inside in
      let size : length c.args.saved.now.bits ≡ (signal_at d b.signal).width = bits_width d k b.signal c.args.saved.now.bits saved.bits in
      subst (λ j. Knows d j c.keep_signal-else-is_coded.new.store)
      (result_back d c.args.codes.now b c.args.is_kept k r inside.0 inside.1 saved.blank c.replaced-kept.result.bits c.args.saved.now.bits c.known_signal-result.result.bits (sym c.is_coded.ensures ∙ c.if-is_coded.false) saved.bits (c.known_signal-result.ensures d r known) (c.replaced-kept.ensures.width ∙ size) (λ j l. c.replaced-kept.ensures.bits j (omega (arith, l, size))))
      (c.keep_signal-else-is_coded.ensures.knows d r known);
  made = λ d k r m s saved known f l coded old. old ∙ made_of_others d c.args.bits.now c.args.is_made r m s (coded_apart c.args.codes.now c.args.bits.now s (sym c.is_coded.ensures ∙ c.if-is_coded.false) coded);
}
