use Rattle.std.proofs.Common.{◌≡◌, [], take}
use Rattle.design_model.specs.View.{design_view}
use Rattle.body_calls.specs.body_replay.Store.{Kept, keep_all}
use Rattle.body_store.specs.Bodies.{around_of, rooms_of}
use Rattle.body_store.specs.Held.{HoldsStore}
use Rattle.body_store.specs.Made.{unblamed}
use Rattle.body_store.specs.Updates.{queued_writes}
use Rattle.body_store.specs.Views.{hides}
use Rattle.body_store.proofs.store.Store.flush.Given as goal

-- the updates so far are made, in order
abbrev pub invariant-loop-place : goal.invariant-loop-place
invariant-loop-place l =
    record {
      design : l.self.design ≡ l.fn.self.design;
      updates : l.self.updates ≡ l.fn.self.updates;
      around : around_of l.fn.self ≡ [] → around_of l.self ≡ [];
      rooms : rooms_of l.self ≡ rooms_of l.fn.self;
      log : l.self.log ≡ l.fn.self.log;
      hides : hides l.self ≡ hides l.fn.self;
      kept : (k : Kept) → HoldsStore (design_view l.fn.self.design.now) k unblamed l.fn.self → HoldsStore (design_view l.fn.self.design.now) (keep_all k (queued_writes (design_view l.fn.self.design.now) (take l.place l.fn.self.updates.items))) unblamed l.self;
    }
