-- A store before the first run of a Clocked block in a step, and after the last.
use Rattle.std.proofs.Common.{◌≡◌, ℕ, ◌<◌, ◌≤◌, false, List, [], length, sym, ap, ap₂, subst, ◌∙◌, arith}
use Rattle.design_model.specs.BodyLaws.{all_cells}
use Rattle.design_model.specs.Design.{AreDistinct, Design, In, body_at}
use Rattle.design_model.specs.Lawful.{IsLawfulDesign}
use Rattle.design_model.specs.View.{design_view}
use Rattle.value_store.specs.Rooms.{queued_parts, processes_queued}
use Rattle.body_rooms.proofs.Stores.{among, has_places, is_ready}
use Rattle.run_views.specs.body_calls.Own.{IsOwn}
use Rattle.run_views.specs.body_calls.Rooms.{Rooms}
use Rattle.run_views.specs.body_replay.Store.{Kept, KnownWrite, keep_all}
use Rattle.run_views.specs.body_store.declared.store.Store.{Store}
use Rattle.run_views.specs.body_store.Bodies.{around_of, queued_of, rooms_of}
use Rattle.run_views.specs.body_store.Held.{HoldsStore}
use Rattle.run_views.specs.body_store.Made.{unblamed}
use Rattle.run_views.specs.body_store.Updates.{queued_writes}
use Rattle.run_views.specs.body_store.Views.{hides, kept_scene, under_of}
use Rattle.run_views.specs.Meets.{Keeps, Meets, plain_view}
use Rattle.run_views.proofs.Running.{kept_law}
use Rattle.store_knowledge.specs.Knows.{Knows}
use Rattle.store_knowledge.specs.open_tests.Weights.{HasRoomFor, logs}
use Rattle.clocked_runs.specs.CanRun.{CanRun}
use Rattle.clocked_runs.proofs.Blank.{kept_blank}
use Rattle.clocked_runs.proofs.Rooms.{among_all}

-- what a flush has left in a store
pub record HasFlushed (x y : Store) : Type 0 where
  pub design : y.design ≡ x.design
  pub outside : around_of x ≡ [] → around_of y ≡ []
  pub rooms : rooms_of y ≡ record (rooms_of x) { queue = x.updates.room }
  pub kept : (k : Kept) → HoldsStore (design_view x.design.now) k unblamed x → HoldsStore (design_view x.design.now) (keep_all k (queued_of x)) unblamed y
  pub cells : IsOwn (kept_scene x) → (kept_scene y).kept ≡ keep_all (kept_scene x).kept (queued_of x)
  pub queued : queued_of y ≡ []
  pub hidden : hides y ≡ hides x
  pub room : around_of y ≡ [] → (rooms_of y).log ≡ (under_of y).log

module _ (x y : Store) (f : HasFlushed x y) where
  same_design : design_view y.design.now ≡ design_view x.design.now
  same_design = ap (λ e. design_view e.now) f.design

  module _ (d : Design) (k : Kept) (ws : List KnownWrite) (h : Keeps d k x) (queue : queued_of x ≡ ws) where
    owned_by : HoldsStore d (keep_all k ws) unblamed y
    owned_by = subst (λ us. HoldsStore d (keep_all k us) unblamed y) queue (subst (λ e. HoldsStore e (keep_all k (queued_of x)) unblamed y) h.design (f.kept k (subst (λ e. HoldsStore e k unblamed x) (sym h.design) h.owned)))

    design_is : design_view y.design.now ≡ d
    design_is = same_design ∙ h.design

    kept_is : (kept_scene y).kept ≡ keep_all k ws
    kept_is = f.cells (kept_law d k x h).1 ∙ ap₂ keep_all (kept_law d k x h).0 queue

    pub flush_keeps : Keeps d (keep_all k ws) y
    flush_keeps =
        record {
          design = design_is;
          blank = λ c out. ap (λ (j : Kept). j c) (sym kept_is) ∙ kept_blank y (keep_all k ws) unblamed (subst (λ e. HoldsStore e (keep_all k ws) unblamed y) (sym design_is) owned_by) c (λ i. out (subst (λ e. In c (all_cells e c.thing)) design_is i));
          owned = owned_by;
          around = f.outside h.around;
        }

    -- there is room in the queue for all that the processes queue
    places : IsLawfulDesign (design_view x.design.now) → (rooms_of y).queue ≡ processes_queued d.processes
    places lawful = ap (λ (r : Rooms). r.queue) f.rooms ∙ has_places x lawful ∙ ap (λ (e : Design). processes_queued e.processes) h.design

    module _ (lawful : IsLawfulDesign (design_view x.design.now)) (plain : (t : ℕ) → hides x t ≡ false) where
      ready_at : (p : ℕ) → p < length d.processes → queued_parts (body_at d p) ≤ (rooms_of y).queue
      ready_at p l = let all = places lawful in let one = among d p l in omega (arith, all, one)

      pub flush_knows : Knows d (keep_all k ws) y
      flush_knows =
          record {
            design = design_is;
            blank = flush_keeps.blank;
            owned = owned_by;
            plain = λ t. ap (λ g. g t) f.hidden ∙ plain t;
            queued = f.queued;
            around = f.outside h.around;
            rooms = λ p l.
                subst (λ e. HasRoomFor (body_at e p) [] (rooms_of y)) design_is
                (is_ready y p (subst IsLawfulDesign (sym same_design) lawful) (subst (λ e. p < length e.processes) (sym design_is) l) (f.room (f.outside h.around)) (subst (λ e. queued_parts (body_at e p) ≤ (rooms_of y).queue) (sym design_is) (ready_at p l)));
          }

-- a store that knows something keeps it
pub known_keeps : (d : Design) (k : Kept) (x : Store) → Knows d k x → Keeps d k x
known_keeps d k x h = record { design = h.design; blank = h.blank; owned = h.owned; around = h.around }

module _ (x y z : Store) (f : HasFlushed x y) (plain : (d : Design) (k : Kept) → Keeps d k y → Meets d (plain_view k) z) (design : z.design ≡ y.design) (updates : z.updates ≡ y.updates) (rooms : rooms_of z ≡ rooms_of y) (lawful : IsLawfulDesign (design_view x.design.now)) where
  pub begins : (d : Design) (k : Kept) (ps : List ℕ) → AreDistinct ps → ((p : ℕ) → In p ps → p < length d.processes) → Knows d k x → CanRun d (plain_view k) [] ps z
  begins d k ps once inside h =
      let keeps = known_keeps d k x h in
      let queue = ap (λ (r : Rooms). r.queue) rooms ∙ places x y f d k [] keeps h.queued lawful in
      let all = among_all d ps once inside in
      record {
        meets = plain d k (flush_keeps x y f d k [] keeps h.queued);
        queued = ap₂ (λ e u. queued_writes (design_view e.now) u.items) design updates ∙ f.queued;
        rooms = record {
          log = λ p l. subst (λ (r : Rooms). logs (λ y. 0) r.takes (body_at d p) ≤ r.log) (sym (rooms ∙ f.rooms)) (h.rooms p l).log;
          queue = omega (arith, queue, all);
        };
      }
