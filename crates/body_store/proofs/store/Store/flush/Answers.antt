use Rattle.std.proofs.Common.{◌≡◌, ◌-◌, ap₂, ◌∙◌}
use Rattle.std.proofs.Common.{◌<◌, ◌≤◌, ap, get_or, length, subst, take, ◌∙◌, arith}
use Rattle.std.proofs.lemmas.List.{take_all}
use Rattle.design_model.specs.View.{design_view}
use Rattle.body_calls.specs.body_replay.Store.{Kept, keep_all}
use Rattle.body_calls.specs.Rooms.{Rooms}
use Rattle.body_store.specs.Bodies.{queued_of}
use Rattle.body_store.specs.Held.{HoldsStore}
use Rattle.body_store.specs.Made.{unblamed}
use Rattle.body_store.specs.Updates.{queued_writes, update_writes}
use Rattle.body_store.proofs.BlocksKept.{flush_kept}
use Rattle.body_store.proofs.Queued.{made_more, taken_at}
use Rattle.body_store.proofs.store.Store.flush.Goals as goal

pub make-requires : goal.make-requires
make-requires c =
    let l = c.loop-place in
    let inside : l.place < length l.self.updates.items = (let size = ap (λ q. length q.items) l.invariant.updates in let end = ap length c.as_slice-place-end.ensures in omega (arith, size, end)) in
    taken_at (design_view l.self.design.now) l.self.updates.items l.place c.index-as_slice-place.result l.self.taken inside (c.index-as_slice-place.is ∙ ap (λ us. get_or us l.place c.index-as_slice-place.result) c.as_slice.ensures)

pub loop-place-preserved : goal.loop-place-preserved
loop-place-preserved c =
    let l = c.loop-place in
    let x = c.args.self.now in
    let d = design_view x.design.now in
    let u = c.index-as_slice-place.result in
    let inside : l.place < length x.updates.items = (let size = ap (λ q. length q.items) l.invariant.updates in let end = ap length c.as_slice-place-end.ensures in omega (arith, size, end)) in
    let is = c.index-as_slice-place.is ∙ ap (λ us. get_or us l.place u) c.as_slice.ensures ∙ ap (λ q. get_or q.items l.place u) l.invariant.updates in
    record {
      design = c.make.ensures.design ∙ l.invariant.design;
      updates = c.make.ensures.updates ∙ l.invariant.updates;
      around = λ none. c.make.ensures.around (l.invariant.around none);
      rooms = c.make.ensures.rooms ∙ l.invariant.rooms;
      log = c.make.ensures.log ∙ l.invariant.log;
      hides = c.make.ensures.hides ∙ l.invariant.hides;
      kept = λ k h.
          let before = l.invariant.kept k h in
          let made = subst (λ y. (b : Kept) → HoldsStore (design_view y.now) b unblamed l.self → HoldsStore (design_view y.now) (keep_all b (update_writes (design_view y.now) u)) unblamed c.make.new.self) l.invariant.design c.make.ensures.kept in
          subst (λ b. HoldsStore d b unblamed c.make.new.self) (made_more d k x.updates.items l.place u inside is) (made (keep_all k (queued_writes d (take l.place x.updates.items))) before);
    }

-- all updates are made once the loop has ended
made_all : (c : goal.After-self-1) (k : Kept) → HoldsStore (design_view c.args.self.now.design.now) k unblamed c.args.self.now → HoldsStore (design_view c.args.self.now.design.now) (keep_all k (queued_of c.args.self.now)) unblamed c.loop-place.self
made_all c k h =
    let l = c.loop-place in
    let x = c.args.self.now in
    let d = design_view x.design.now in
    let all : length x.updates.items ≤ l.place = (let size = ap (λ q. length q.items) l.invariant.updates in let end = ap length c.as_slice-place-end.ensures in omega (arith, size, end)) in
    subst (λ us. HoldsStore d (keep_all k (queued_writes d us)) unblamed l.self) (take_all l.place x.updates.items all) (l.invariant.kept k h)

pub returns-clause-kept : goal.returns-clause-kept
returns-clause-kept c = λ k h. let before = made_all c k h in record { signals = before.signals; memories = before.memories }

pub returns-clause-cells : goal.returns-clause-cells
returns-clause-cells c = λ own. (flush_kept c.args.self.now c.loop-place.self c.fitting.ensures.kept c.loop-place.invariant.design own (made_all c)).0

pub returns-clause-own : goal.returns-clause-own
returns-clause-own c = λ own. (flush_kept c.args.self.now c.loop-place.self c.fitting.ensures.kept c.loop-place.invariant.design own (made_all c)).1

pub returns-clause-around : goal.returns-clause-around
returns-clause-around c = c.loop-place.invariant.around

pub returns-clause-rooms : goal.returns-clause-rooms
returns-clause-rooms c =
    let l = c.loop-place in
    let x = c.args.self.now in
    let all : x.updates.room - 0 ≡ x.updates.room = omega arith in
    let queue : c.clear.new.self.room - length c.clear.new.self.items ≡ x.updates.room = ap (λ q. q.room - length q.items) c.clear.ensures ∙ ap (λ q. q.room - 0) l.invariant.updates ∙ all in
    ap₂ (λ (r : Rooms) n. record { log = r.log; takes = r.takes; queue = n }) l.invariant.rooms queue
