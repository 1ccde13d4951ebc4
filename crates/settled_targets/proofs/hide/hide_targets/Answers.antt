use Rattle.std.proofs.Common.{◌∙◌, refl, subst, take, ◌+◌}
use Rattle.std.proofs.lemmas.List.{take_all}
use Rattle.process_targets.specs.Targets.{names}
use Rattle.step_values.specs.store_knowledge.Knows.{Knows}
use Rattle.settled_targets.specs.Saved.{hiding}
use Rattle.settled_targets.proofs.Rows.{hiding_more, named_more}
use Rattle.settled_targets.proofs.hide.hide_targets.Goals as goal

pub loop-bits-init : goal.loop-bits-init
loop-bits-init c = (refl, λ d k h. h)

pub hide_signal-requires-clause-known : goal.hide_signal-requires-clause-known
hide_signal-requires-clause-known c = (c.requires.known.0, _, c.loop-bits.invariant.1 c.requires.known.0 c.requires.known.1 c.requires.known.2)

pub loop-bits-preserved : goal.loop-bits-preserved
loop-bits-preserved c =
    let row = c.args.targets.now in
    let i = c.loop-bits.bits-index in (
      c.hide_signal.ensures.design ∙ c.loop-bits.invariant.0,
      λ d k h. subst (λ j. Knows d j c.hide_signal.new.store)
          (hiding_more _ (names (take i row)) (names (take (i + 1) row)) k (λ s. named_more row i _ s c.loop-bits-test.true))
          (c.hide_signal.ensures.knows d _ (c.loop-bits.invariant.1 d k h)),
    )

pub returns-clause-knows : goal.returns-clause-knows
returns-clause-knows c = λ d k h. subst (λ row. Knows d (hiding (names row) k) c.loop-bits.store) (take_all c.loop-bits.bits-index c.args.targets.now c.loop-bits-test.false) (c.loop-bits.invariant.1 d k h)
