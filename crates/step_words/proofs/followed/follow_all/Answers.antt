use Rattle.std.proofs.Common.{◌+◌, subst, sym, arith, ◌∙◌}
use Rattle.std.proofs.lemmas.List.{take_all}
use Rattle.design_model.specs.Design.{In}
use Rattle.step_words.proofs.Lists.{in_taken}
use Rattle.step_words.proofs.followed.follow_all.Goals as goal

pub loop-thing-preserved : goal.loop-thing-preserved
loop-thing-preserved c =
    let l = c.loop-thing in
    let old = l.invariant in
    record {
      count = c.follow.ensures.count ∙ old.count;
      kept = λ m e. c.follow.ensures.kept m (old.kept m e);
      each = λ m i small. in_taken (c.args.signals + m) c.args.things.now l.thing-index 0 c.loop-thing-test.true i (λ h. c.follow.ensures.kept m (old.each m h small)) (λ e. c.follow.ensures.here m e (let many = old.count in omega (arith, small, many)));
    }

pub returns-clause-each : goal.returns-clause-each
returns-clause-each c = λ m i small. c.loop-thing.invariant.each m (subst (In (c.args.signals + m)) (sym (take_all c.loop-thing.thing-index c.args.things.now c.loop-thing-test.false)) i) small
