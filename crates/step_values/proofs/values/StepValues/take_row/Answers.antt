use Rattle.std.proofs.Common.{◌∙◌, [], refl, subst, sym}
use Rattle.std.proofs.lemmas.List.{take_all}
use Rattle.store_knowledge.specs.body_calls.Own.{is_in}
use Rattle.step_values.specs.Taken.{Takes}
use Rattle.step_values.specs.Vectors.{FitsSignals}
use Rattle.step_values.proofs.Taking.{nothing_taken, row_step}
use Rattle.step_values.proofs.values.StepValues.take_row.Goals as goal

pub loop-thing-init : goal.loop-thing-init
loop-thing-init c = (refl, nothing_taken c.args.codes.now (is_in []) c.args.store.now c.args.overwritten.now.items c.args.self.now (λ s. refl))

pub take_thing-requires-clause-fits : goal.take_thing-requires-clause-fits
take_thing-requires-clause-fits c =
    let h = c.requires.known.2 in
    subst (λ e. FitsSignals e c.loop-thing.self) (sym h.design) (c.loop-thing.invariant.1.fits c.requires.known.0 c.requires.known.1 h (subst (λ e. FitsSignals e c.args.self.now) h.design c.requires.fits))

pub take_thing-requires-clause-size : goal.take_thing-requires-clause-size
take_thing-requires-clause-size c = c.loop-thing.invariant.0 ∙ c.requires.size

pub loop-thing-preserved : goal.loop-thing-preserved
loop-thing-preserved c = (
  c.take_thing.ensures.size ∙ c.loop-thing.invariant.0,
  row_step c.args.codes.now c.args.things.now c.loop-thing.thing-index _ c.args.store.now c.args.overwritten.now.items c.loop-thing.overwritten.items c.take_thing.new.overwritten.items c.args.self.now c.loop-thing.self c.take_thing.new.self c.loop-thing-test.true c.loop-thing.invariant.1 c.take_thing.ensures.takes,
)

pub returns-clause-size : goal.returns-clause-size
returns-clause-size c = c.loop-thing.invariant.0

pub returns-clause-takes : goal.returns-clause-takes
returns-clause-takes c = subst (λ row. Takes c.args.codes.now (is_in row) c.args.store.now c.args.overwritten.now.items c.loop-thing.overwritten.items c.args.self.now c.loop-thing.self) (take_all c.loop-thing.thing-index c.args.things.now c.loop-thing-test.false) c.loop-thing.invariant.1
