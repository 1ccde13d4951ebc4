-- One more signal or memory is shown or veiled, or none is any more.
use Rattle.std.proofs.Common.{◌≡◌, ℕ, ◌==◌, Bool, true, false, if◌then◌else◌, [], Option, refl, sym, ap, subst, ◌∙◌}
use Rattle.std.specs.Prelude.{◌||◌}
use Rattle.std.proofs.lemmas.Bool.{eqb-true, false≢true}
use Rattle.body_store.specs.event_machine.Cell.{Cell}
use Rattle.body_store.specs.design_model.four_state.declared.bit.Bit.{Bit}
use Rattle.body_store.specs.design_model.Design.{Design, cell}
use Rattle.body_store.specs.design_model.View.{design_view}
use Rattle.body_store.specs.body_replay.Replay.{Blames}
use Rattle.body_store.specs.body_replay.Runs.{StoreView}
use Rattle.body_store.specs.body_replay.Store.{Kept}
use Rattle.body_store.specs.body_calls.Own.{IsOwn}
use Rattle.body_store.specs.declared.store.Store.{Store}
use Rattle.body_store.specs.Bodies.{around_of}
use Rattle.body_store.specs.Held.{HoldsStore}
use Rattle.body_store.specs.Made.{unblamed}
use Rattle.body_store.specs.Scenes.{scene_of}
use Rattle.body_store.specs.Views.{hides, kept_scene}
use Rattle.body_store.proofs.BlocksLaws.{kept_own_law}
use Rattle.run_views.specs.Meets.{Keeps, Meets, also_hiding, plain_view}

module _ (x y : Store) (design : y.design ≡ x.design) (outside : around_of x ≡ [] → around_of y ≡ []) (holds : (k : Kept) (e : Blames) → HoldsStore (design_view x.design.now) k e x → HoldsStore (design_view x.design.now) k e y) where
  -- what is kept is as it was
  pub keeps_still : (d : Design) (k : Kept) → Keeps d k x → Keeps d k y
  keeps_still d k h =
      record {
        design = ap (λ e. design_view e.now) design ∙ h.design;
        blank = h.blank;
        owned = subst (λ e. HoldsStore e k unblamed y) h.design (holds k unblamed (subst (λ e. HoldsStore e k unblamed x) (sym h.design) h.owned));
        around = outside h.around;
      }

  module _ (t : ℕ) (at : ℕ → Option Bit) (hidden : (s : ℕ) → hides y s ≡ ((t == s) || hides x s)) (reads : (c : Cell) → (scene_of y).kept c ≡ (if t == c.thing then at c.place else (scene_of x).kept c)) (own : IsOwn (scene_of x) → IsOwn (scene_of y)) where
    shown_at : (d : Design) (v : StoreView) → ((k : ℕ) → at k ≡ v.shown (cell t k)) → Meets d v x
        → (c : Cell) (b : Bool) → (t == c.thing) ≡ b → (b || v.hidden c.thing) ≡ true → (if b then at c.place else (scene_of x).kept c) ≡ v.shown c
    shown_at d v same h c true e hides = same c.place ∙ ap (λ s. v.shown (cell s c.place)) (eqb-true t c.thing e)
    shown_at d v same h c false e hides = h.shown c hides

    pub meets_more : (d : Design) (v : StoreView) → ((k : ℕ) → at k ≡ v.shown (cell t k)) → Meets d v x → Meets d (also_hiding t v) y
    meets_more d v same h =
        record {
          keeps = keeps_still d v.kept h.keeps;
          own = own h.own;
          hidden = λ s. hidden s ∙ ap (λ b. (t == s) || b) (h.hidden s);
          shown = λ c e. reads c ∙ shown_at d v same h c (t == c.thing) refl e;
        }

  module _ (plain : (s : ℕ) → hides y s ≡ false) (reads : scene_of y ≡ kept_scene x) where
    pub meets_plain : (d : Design) (k : Kept) → Keeps d k x → Meets d (plain_view k) y
    meets_plain d k h =
        record {
          keeps = keeps_still d k h;
          own = subst IsOwn (sym reads) (kept_own_law x k (subst (λ e. HoldsStore e k unblamed x) (sym h.design) h.owned));
          hidden = plain;
          shown = λ c e. absurd (false≢true e);
        }
