use Rattle.std.proofs.Common.{◌∙◌, ap, length, subst, sym}
use Rattle.first_step.specs.step_changes.Changes.{AreUnsigned}
use Rattle.first_step.specs.step_values.Dumped.{AreDumped}
use Rattle.design_model.specs.View.{design_view}
use Rattle.four_state.specs.Vector.{Vector}
use Rattle.replay_core.proofs.Changes.{given_ready}
use Rattle.replay_core.proofs.replay.Replay.change.Goals as goal

pub returns-clause-ready : goal.returns-clause-ready
returns-clause-ready c =
    let x = c.args.self.now in
    let is = c.unsigned.ensures in
    given_ready (design_view x.design.now) x.state.notes.points.now x.tables.value x.room.value x.state x.phase c.args.code c.unsigned.result c.set.new.self c.requires.ready c.set.ensures.last c.set.ensures.closed (ap (λ (v : Vector). v.signed) is) (λ s coded. ap (λ (v : Vector). length v.bits) is ∙ c.requires.width s coded)

pub returns-clause-followed : goal.returns-clause-followed
returns-clause-followed c = λ dump t h.
    let x = c.args.self.now in
    let same = c.set.ensures.closed in
    let parts = h.follows.parts in
    record {
      dumped = h.dumped;
      started = h.started;
      replay = h.replay;
      follows = record {
        parts = record {
          subject = parts.subject;
          sets = parts.sets;
          writers = parts.writers;
          closed = subst (λ vs. AreDumped (design_view x.design.now) x.tables.value.step.codes.items vs (dump.values t)) (sym same) parts.closed;
          unsigned = subst (λ vs. AreUnsigned vs) (sym same) parts.unsigned;
          rest = parts.rest;
          told = parts.told;
          shown = parts.shown;
          stands = parts.stands;
        };
        words = h.follows.words;
      };
    }

pub returns-clause-paused : goal.returns-clause-paused
returns-clause-paused c = λ dump u paused.
    let p = paused.pauses in
    record {
      dumped = paused.dumped;
      off = paused.off;
      replay = paused.replay;
      pauses = record { subject = p.subject; sets = p.sets; writers = p.writers; rest = p.rest; untold = p.untold; paused = p.paused };
    }
