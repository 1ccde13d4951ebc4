use Rattle.std.proofs.Common.{◌∙◌, refl, sym, subst, ◌<◌, ◌^◌, arith}
use Rattle.step_values.proofs.Forgets.{knows_coded, knows_free, made_free}
use Rattle.step_values.proofs.values.StepValues.loosen_bits.Goals as goal

pub forget_made-requires-clause-place : goal.forget_made-requires-clause-place
forget_made-requires-clause-place c = let count = c.requires.fits.made.count in let l = c.requires.inside.0 in omega (arith, count, l)

pub forget_made-requires-clause-mask : goal.forget_made-requires-clause-mask
forget_made-requires-clause-mask c = subst (λ n. c.args.bits.now.mask < 2 ^ n) (sym (c.requires.fits.made.width c.args.bits.now.signal c.requires.inside.0)) c.requires.inside.1

pub returns-then-is_coded : goal.returns-then-is_coded
returns-then-is_coded c = record {
  design = refl;
  before = c.forget_made.ensures.before;
  fits = c.forget_made.ensures.fits;
  knows = λ d k h. knows_coded c.args.codes.now c.args.bits.now c.args.store.now d k (sym c.is_coded.ensures ∙ c.if-is_coded.true) h;
  made = λ d m s f l coded old. c.forget_made.ensures.made d m s f l old;
}

pub returns-else-is_coded : goal.returns-else-is_coded
returns-else-is_coded c = record {
  design = c.forget_kept.ensures.design;
  before = refl;
  fits = λ d f. f;
  knows = λ d k h. knows_free c.args.codes.now c.args.bits.now c.forget_kept.new.store d k (sym c.is_coded.ensures ∙ c.if-is_coded.false) (c.forget_kept.ensures.knows d k h);
  made = λ d m s f l coded old. old ∙ sym (made_free c.args.codes.now c.args.bits.now d m s (sym c.is_coded.ensures ∙ c.if-is_coded.false) coded);
}
