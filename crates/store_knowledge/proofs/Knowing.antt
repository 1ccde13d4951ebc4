-- What a store knows, and what it knows once a signal has other bits.
use Rattle.std.proofs.Common.{◌≡◌, ℕ, ◌<◌, [], length, map, refl, sym, ap, ap₂, subst, ◌∙◌}
use Rattle.known_state.specs.Partly.{Partly}
use Rattle.body_store.specs.design_model.Design.{Design, body_at, signal_at, signal_cells}
use Rattle.body_store.specs.design_model.View.{design_view}
use Rattle.body_store.specs.body_replay.KnownBits.{KnownBits}
use Rattle.body_store.specs.body_replay.Replay.{Blames}
use Rattle.body_store.specs.body_replay.Store.{Kept, keep_all, writes_of}
use Rattle.body_store.specs.value_store.Held.{IsSignal}
use Rattle.open_tests.specs.Weights.{HasRoomFor}
use Rattle.body_store.specs.declared.store.Store.{Store}
use Rattle.body_store.specs.Bodies.{around_of, rooms_of}
use Rattle.body_store.specs.Held.{HoldsStore}
use Rattle.body_store.specs.Made.{itself_to_blame, nothing, unblamed}
use Rattle.body_store.specs.Updates.{queued_writes}
use Rattle.body_store.specs.Views.{hides}
use Rattle.store_knowledge.specs.Knows.{Knows, with_bits}
use Rattle.store_knowledge.proofs.Cells.{still_blank, written_is}

-- what is kept of a signal is what is known of it
pub bits_known : (d : Design) (k : Kept) (x : Store) (s : ℕ) (q : Partly) → ((j : Kept) (e : Blames) → HoldsStore (design_view x.design.now) j e x → IsSignal (design_view x.design.now) j e.blame s q) → Knows d k x → q.bits ≡ map k (signal_cells d s)
bits_known d k x s q kept h = subst (λ e. Knows e k x → q.bits ≡ map k (signal_cells e s)) h.design (λ g. (kept k unblamed g.owned).bits) h

module _ (x y : Store) (s : ℕ) (ps : KnownBits) (l : s < length x.design.now.signals) (size : length ps ≡ (signal_at (design_view x.design.now) s).width) (design : y.design ≡ x.design) (hidden : hides y ≡ hides x) (outside : around_of x ≡ [] → around_of y ≡ []) (rooms : rooms_of y ≡ rooms_of x) (updates : y.updates ≡ x.updates) (kept : (k : Kept) → HoldsStore (design_view x.design.now) k unblamed x → HoldsStore (design_view x.design.now) (keep_all k (writes_of (signal_cells (design_view x.design.now) s) ps)) unblamed y) where
  knows_here : (k : Kept) → Knows (design_view x.design.now) k x → Knows (design_view x.design.now) (with_bits s ps k) y
  knows_here k h =
      record {
        design = ap (λ e. design_view e.now) design;
        blank = still_blank (design_view x.design.now) s l ps size k h.blank;
        owned = subst (λ j. HoldsStore (design_view x.design.now) j unblamed y) (written_is (design_view x.design.now) s l ps size k h.blank) (kept k h.owned);
        plain = λ t. ap (λ f. f t) hidden ∙ h.plain t;
        queued = ap₂ (λ e u. queued_writes (design_view e.now) u.items) design updates ∙ h.queued;
        around = outside h.around;
        rooms = λ p b. subst (λ r. HasRoomFor (body_at (design_view x.design.now) p) [] r) (sym rooms) (h.rooms p b);
      }

  pub knows_set : (d : Design) (k : Kept) → Knows d k x → Knows d (with_bits s ps k) y
  knows_set d k h = subst (λ e. Knows e k x → Knows e (with_bits s ps k) y) h.design (knows_here k) h

-- once all is forgotten it knows nothing
module _ (x y : Store) (design : y.design ≡ x.design) (hidden : hides y ≡ hides x) (outside : around_of x ≡ [] → around_of y ≡ []) (rooms : rooms_of y ≡ rooms_of x) (updates : y.updates ≡ x.updates) (kept : (k : Kept) (e : Blames) → HoldsStore (design_view x.design.now) k e x → HoldsStore (design_view x.design.now) nothing (itself_to_blame e) y) where
  nothing_here : (k : Kept) → Knows (design_view x.design.now) k x → Knows (design_view x.design.now) nothing y
  nothing_here k h =
      record {
        design = ap (λ e. design_view e.now) design;
        blank = λ c out. refl;
        owned = kept k unblamed h.owned;
        plain = λ t. ap (λ f. f t) hidden ∙ h.plain t;
        queued = ap₂ (λ e u. queued_writes (design_view e.now) u.items) design updates ∙ h.queued;
        around = outside h.around;
        rooms = λ p b. subst (λ r. HasRoomFor (body_at (design_view x.design.now) p) [] r) (sym rooms) (h.rooms p b);
      }

  pub knows_nothing : (d : Design) (k : Kept) → Knows d k x → Knows d nothing y
  knows_nothing d k h = subst (λ e. Knows e k x → Knows e nothing y) h.design (nothing_here k) h
