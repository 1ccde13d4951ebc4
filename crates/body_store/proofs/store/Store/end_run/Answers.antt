use Rattle.std.proofs.Common.{◌<◌, ◌≤◌, ap, get_or, length, subst, sym, take, ◌∙◌, arith}
use Rattle.std.proofs.lemmas.List.{take_all, take_more}
use Rattle.design_model.specs.View.{design_view}
use Rattle.body_calls.specs.body_replay.Replay.{Blames}
use Rattle.body_calls.specs.body_replay.Store.{Kept}
use Rattle.body_store.specs.Ended.{ended, settled}
use Rattle.body_store.specs.Held.{HoldsStore}
use Rattle.body_store.proofs.Ending.{ended_more}
use Rattle.body_store.proofs.store.Store.end_run.Goals as goal

pub loop-thing-preserved : goal.loop-thing-preserved
loop-thing-preserved c =
    let l = c.loop-thing in
    let d = design_view c.args.self.now.design.now in
    let ts = c.args.written.now in
    let i = l.thing-index in
    let inside : i < length ts = omega arith in
    record {
      design = c.settle.ensures.design ∙ l.invariant.design;
      updates = c.settle.ensures.updates ∙ l.invariant.updates;
      around = λ none. c.settle.ensures.around (l.invariant.around none);
      rooms = c.settle.ensures.rooms ∙ l.invariant.rooms;
      log = c.settle.ensures.log ∙ l.invariant.log;
      hides = c.settle.ensures.hides ∙ l.invariant.hides;
      kept = λ k e h.
          let settles = subst (λ y. (b : Kept) (a : Blames) → HoldsStore (design_view y.now) b a l.self → HoldsStore (design_view y.now) b (settled (get_or ts i 0) a) c.settle.new.self) l.invariant.design c.settle.ensures.kept in
          subst (λ a. HoldsStore d k a c.settle.new.self) (sym (ap (λ us. ended us e) (take_more ts i 0 inside) ∙ ended_more (take i ts) (get_or ts i 0) e)) (settles k (ended (take i ts) e) (l.invariant.kept k e h));
    }

pub returns-clause-kept : goal.returns-clause-kept
returns-clause-kept c = λ k e h.
    let l = c.loop-thing in
    let ts = c.args.written.now in
    let all : length ts ≤ l.thing-index = omega arith in
    subst (λ us. HoldsStore (design_view c.args.self.now.design.now) k (ended us e) l.self) (take_all l.thing-index ts all) (l.invariant.kept k e h)

pub returns-clause-around : goal.returns-clause-around
returns-clause-around c = c.loop-thing.invariant.around

pub returns-clause-rooms : goal.returns-clause-rooms
returns-clause-rooms c = c.loop-thing.invariant.rooms
