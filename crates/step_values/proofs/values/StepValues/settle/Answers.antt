use Rattle.std.proofs.Common.{subst}
use Rattle.store_knowledge.specs.body_replay.Replay.{flush}
use Rattle.step_values.specs.Dumped.{AreDumped, HaveCodes}
use Rattle.step_values.specs.Loose.{HaveRows}
use Rattle.step_values.proofs.Forgets.{here}
use Rattle.step_values.proofs.Starting.{has_values}
use Rattle.step_values.proofs.values.StepValues.settle.Goals as goal

pub returns-clause-fits : goal.returns-clause-fits
returns-clause-fits c = c.loosen_all.ensures.fits _ c.requires.fits

pub returns-clause-known : goal.returns-clause-known
returns-clause-known c =
    let h = c.requires.known.2 in
    let d = c.requires.known.0 in
    let k = c.requires.known.1 in
    let new = c.requires.dumped.0 in
    let dumped = subst (λ e. AreDumped e c.args.codes.now c.args.values.now.last new) h.design c.requires.dumped.1 in
    (d, _, c.put_dump-2.ensures.knows d new _ dumped (c.put_dump.ensures.knows d new _ dumped (c.loosen_all.ensures.knows d k h)))

pub returns-clause-starts : goal.returns-clause-starts
returns-clause-starts c = λ st w h taken start.
    let d = st.design in
    let k = flush w.kept w.queue in
    let x = c.args.store.now in
    has_values st w c.args.running.now c.args.targets.now c.args.changed.now c.args.overwritten.now c.args.codes.now c.args.values.now.last start (here (λ e. HaveRows e c.args.targets.now c.args.running.now) d k x h c.requires.rows) h.blank (here (λ e. HaveCodes e c.args.codes.now c.args.changed.now) d k x h c.requires.changed) (here (λ e. HaveCodes e c.args.codes.now c.args.overwritten.now) d k x h c.requires.overwritten) c.put_dump-2.new.store c.args.self.now c.loosen_all.new.self taken (c.loosen_all.ensures.fits d taken.fits) c.loosen_all.ensures.before (c.put_dump-2.ensures.knows d st.new _ start.dumped (c.put_dump.ensures.knows d st.new _ start.dumped (c.loosen_all.ensures.knows d k h))) (λ s l coded old. c.loosen_all.ensures.made d k s taken.fits l coded old)
