-- What follows for a store from what it knows.
use Rattle.std.proofs.Common.{◌≡◌, ℕ, Bool, false, refl, sym, ap, ap₂, subst, ◌∙◌}
use Rattle.std.proofs.Math.Path.{fun_ext}
use Rattle.body_store.specs.design_model.Design.{Design}
use Rattle.body_store.specs.design_model.View.{design_view}
use Rattle.body_store.specs.body_replay.Runs.{StoreView}
use Rattle.body_store.specs.body_replay.Store.{Kept}
use Rattle.body_store.specs.body_calls.Own.{IsOwn}
use Rattle.body_store.specs.declared.store.Store.{Store}
use Rattle.body_store.specs.Held.{HoldsStore}
use Rattle.body_store.specs.Made.{unblamed}
use Rattle.body_store.specs.Owned.{IsBlank}
use Rattle.body_store.specs.Scenes.{scene_of}
use Rattle.body_store.specs.Views.{kept_scene, view_of}
use Rattle.body_store.proofs.BlocksLaws.{held_law, kept_own_law, same_law}
use Rattle.body_store.proofs.ViewLaws.{plain_law}
use Rattle.store_knowledge.specs.Knows.{Knows}
use Rattle.store_knowledge.specs.Laws.{NewLaw, OwnLaw, ReadLaw, ViewLaw}

module _ (d : Design) (k : Kept) (x : Store) (h : Knows d k x) where
  holds : HoldsStore (design_view x.design.now) k unblamed x
  holds = subst (λ e. HoldsStore e k unblamed x) (sym h.design) h.owned

  -- what is kept, and what bodies read, is what is known
  pub kept_known : (kept_scene x).kept ≡ k
  kept_known = held_law x k unblamed holds (subst (λ e. IsBlank e k) (sym h.design) h.blank)

  pub read_known : (scene_of x).kept ≡ k
  read_known = ap (λ v. v.kept) (sym (same_law x h.plain)) ∙ kept_known

  pub view_known : view_of x ≡ record { kept = k; hidden = λ y. false; shown = k }
  view_known =
      ap₂ {C = StoreView} (λ (j : Kept) (f : ℕ → Bool). record { kept = j; hidden = f; shown = (scene_of x).kept }) kept_known (fun_ext h.plain)
      ∙ ap (λ (j : Kept). record { kept = k; hidden = λ y. false; shown = j }) read_known

  pub own_known : IsOwn (kept_scene x) × IsOwn (scene_of x)
  own_known = let own = kept_own_law x k holds in (own, subst IsOwn (same_law x h.plain) own)

pub view_law : ViewLaw
view_law = view_known

pub read_law : ReadLaw
read_law d k x h = plain_law d k unblamed x h.plain h.owned

pub own_law : OwnLaw
own_law = own_known

pub new_law : NewLaw
new_law d x design owned plain queued around rooms = record { design = design; blank = λ c out. refl; owned = owned; plain = plain; queued = queued; around = around; rooms = rooms }
