-- What stays ready for the run of a body, and what the run then asks.
use Rattle.std.proofs.Common.{◌≡◌, ◌∙◌, [], ap, subst, sym}
use Rattle.design_model.specs.declared.design.Design as m
use Rattle.design_model.specs.Design.{body_at}
use Rattle.design_model.specs.View.{design_view}
use Rattle.body_replay.specs.Store.{Kept}
use Rattle.body_calls.specs.Own.{IsOwn}
use Rattle.body_calls.specs.Under.{kept_with}
use Rattle.body_rooms.specs.open_tests.Weights.{HasRoomFor}
use Rattle.body_store.specs.declared.store.Store.{Store}
use Rattle.body_store.specs.Bodies.{around_of, rooms_of}
use Rattle.body_store.specs.Held.{HoldsStore}
use Rattle.body_store.specs.Laws.{UnderLaw}
use Rattle.body_store.specs.Made.{unblamed}
use Rattle.body_store.specs.Owned.{KeptOwnLaw, SameLaw}
use Rattle.body_store.specs.Scenes.{scene_of}
use Rattle.body_store.specs.Views.{hides, kept_scene, under_of}
use Rattle.body_trials.specs.Ready.{IsReady}

-- what is held, by the store's own design
pub held_here : (d : m.Design) (x : Store) (r : IsReady d x) → HoldsStore (design_view x.design.now) r.known unblamed x
held_here d x r = subst (λ b. HoldsStore (design_view b) r.known unblamed x) (sym r.design) r.held

-- it is ready where nothing else has changed than what is known
pub still_ready : (d : m.Design) (x y : Store) (k : Kept) → IsReady d x → y.design ≡ x.design → (around_of x ≡ [] → around_of y ≡ []) → hides y ≡ hides x → rooms_of y ≡ rooms_of x
    → HoldsStore (design_view x.design.now) k unblamed y → IsReady d y
still_ready d x y k r design around plain rooms held =
    record {
      lawful = r.lawful;
      design = ap (λ b. b.now) design ∙ r.design;
      seen = ap (λ b. design_view b.now) design ∙ r.seen;
      around = around r.around;
      plain = λ t. ap (λ f. f t) plain ∙ r.plain t;
      known = k;
      held = subst (λ b. HoldsStore (design_view b) k unblamed y) r.design held;
      room = λ p l. subst (HasRoomFor (body_at (design_view d) p) []) (sym rooms) (r.room p l);
    }

-- what is kept is to blame for itself
pub kept_own : (d : m.Design) (x : Store) → IsReady d x → KeptOwnLaw → UnderLaw → IsOwn (kept_with (under_of x) (scene_of x))
kept_own d x r law under = subst IsOwn (sym (under x)) (law x r.known (held_here d x r))

-- so is what bodies read
pub read_own : (d : m.Design) (x : Store) → IsReady d x → KeptOwnLaw → SameLaw → IsOwn (scene_of x)
read_own d x r law same = subst IsOwn (same x r.plain) (law x r.known (held_here d x r))
