use Rattle.std.proofs.Common.{◌≡◌, [], take}
use Rattle.design_model.specs.View.{design_view}
use Rattle.body_calls.specs.body_replay.Replay.{Blames}
use Rattle.body_calls.specs.body_replay.Store.{Kept}
use Rattle.body_store.specs.Bodies.{around_of, rooms_of}
use Rattle.body_store.specs.Ended.{ended}
use Rattle.body_store.specs.Held.{HoldsStore}
use Rattle.body_store.specs.Views.{hides}
use Rattle.body_store.proofs.store.Store.end_run.Given as goal

-- those so far are to blame for themselves
abbrev pub invariant-loop-thing : goal.invariant-loop-thing
invariant-loop-thing l =
    record {
      design : l.self.design ≡ l.fn.self.design;
      updates : l.self.updates ≡ l.fn.self.updates;
      around : around_of l.fn.self ≡ [] → around_of l.self ≡ [];
      rooms : rooms_of l.self ≡ rooms_of l.fn.self;
      log : l.self.log ≡ l.fn.self.log;
      hides : hides l.self ≡ hides l.fn.self;
      kept : (k : Kept) (e : Blames) → HoldsStore (design_view l.fn.self.design.now) k e l.fn.self → HoldsStore (design_view l.fn.self.design.now) k (ended (take l.thing-index l.written) e) l.self;
    }
