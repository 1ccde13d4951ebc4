use Rattle.std.proofs.Common.{◌∙◌, subst}
use Rattle.std.proofs.lemmas.List.{take_all}
use Rattle.store_knowledge.specs.Knows.{Knows}
use Rattle.step_values.specs.Dumped.{putting}
use Rattle.step_values.proofs.Dumps.{put_more}
use Rattle.step_values.proofs.dump.put_dump.Goals as goal

pub loop-signal-preserved : goal.loop-signal-preserved
loop-signal-preserved c = (
  c.put_signal.ensures.design ∙ c.loop-signal.invariant.0,
  λ d new k dumped h. subst (λ j. Knows d j c.put_signal.new.store) (put_more d new k c.args.changed.now c.loop-signal.signal-index _ c.loop-signal-test.true) (c.put_signal.ensures.knows d new (putting d _ new k) dumped (c.loop-signal.invariant.1 d new k dumped h)),
)

pub returns-clause-knows : goal.returns-clause-knows
returns-clause-knows c = λ d new k dumped h. subst (λ ss. Knows d (putting d ss new k) c.loop-signal.store) (take_all c.loop-signal.signal-index c.args.changed.now c.loop-signal-test.false) (c.loop-signal.invariant.1 d new k dumped h)
