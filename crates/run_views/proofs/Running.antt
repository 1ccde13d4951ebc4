-- The run of a body on a store is that on the view as which it meets the store.
use Rattle.std.proofs.Common.{◌≡◌, ℕ, Bool, true, false, if◌then◌else◌, refl, sym, ap, ap₂, subst, ◌∙◌}
use Rattle.std.proofs.Math.Path.{fun_ext}
use Rattle.body_store.specs.event_machine.Cell.{Cell}
use Rattle.body_store.specs.design_model.Design.{Design, body_at}
use Rattle.body_store.specs.design_model.Tree.{Stmt}
use Rattle.body_store.specs.design_model.View.{design_view}
use Rattle.body_store.specs.body_replay.Contract.{Certainty, Outcome, clean, notes_of, outcome, perhaps, quiet, weak}
use Rattle.body_store.specs.body_replay.Replay.{State, clean_run}
use Rattle.body_store.specs.body_replay.Runs.{StoreView, own_store, seen_of}
use Rattle.body_store.specs.body_replay.Store.{Kept}
use Rattle.body_store.specs.declared.store.Store.{Store}
use Rattle.body_store.specs.Held.{HoldsStore}
use Rattle.body_store.specs.Made.{unblamed}
use Rattle.body_store.specs.Owned.{IsBlank}
use Rattle.body_store.specs.Scenes.{scene_of}
use Rattle.body_store.specs.Views.{hides, kept_scene, view_of}
use Rattle.body_store.proofs.BlocksLaws.{held_law, kept_own_law}
use Rattle.run_views.specs.Laws.{KeptLaw, RunLaw}
use Rattle.run_views.specs.Meets.{Keeps, Meets}

module _ (d : Design) (k : Kept) (x : Store) (h : Keeps d k x) where
  holds : HoldsStore (design_view x.design.now) k unblamed x
  holds = subst (λ e. HoldsStore e k unblamed x) (sym h.design) h.owned

  pub kept_is : (kept_scene x).kept ≡ k
  kept_is = held_law x k unblamed holds (subst (λ e. IsBlank e k) (sym h.design) h.blank)

pub kept_law : KeptLaw
kept_law d k x h = (kept_is d k x h, kept_own_law x k (holds d k x h))

-- the outcome of a run that evaluates the body, by what is kept, what is hidden and what is read
abbrev strong_by : Design → Stmt → Certainty → Kept → (ℕ → Bool) → Kept → Outcome
strong_by d s how k hidden seen =
    let r : State = clean_run d s (record { kept = seen; blame = λ y. y }) in
    record { kept = λ c. if hidden c.thing then k c else r.kept c; queue = r.queue; notes = notes_of how r.marks }

module _ (d : Design) (v : StoreView) (x : Store) (h : Meets d v x) where
  kept_same : (kept_scene x).kept ≡ v.kept
  kept_same = kept_is d v.kept x h.keeps

  hidden_same : hides x ≡ v.hidden
  hidden_same = fun_ext h.hidden

  seen_at : (c : Cell) (b : Bool) → v.hidden c.thing ≡ b → (if b then (scene_of x).kept c else (kept_scene x).kept c) ≡ (if b then v.shown c else v.kept c)
  seen_at c true e = h.shown c e
  seen_at c false e = ap (λ (f : Kept). f c) kept_same

  pub seen_same : seen_of (view_of x) ≡ seen_of v
  seen_same = fun_ext (λ c. ap (λ b. if b then (scene_of x).kept c else (kept_scene x).kept c) (h.hidden c.thing) ∙ seen_at c (v.hidden c.thing) refl)

  strong_same : (s : Stmt) (how : Certainty) → strong_by d s how (kept_scene x).kept (hides x) (seen_of (view_of x)) ≡ strong_by d s how v.kept v.hidden (seen_of v)
  strong_same s how = ap₂ (λ k f. strong_by d s how k f (seen_of (view_of x))) kept_same hidden_same ∙ ap (strong_by d s how v.kept v.hidden) seen_same

  pub run_same : (s : Stmt) (how : Certainty) → outcome d s (own_store (view_of x)) how ≡ outcome d s (own_store v) how
  run_same s (clean time) = strong_same s (clean time)
  run_same s quiet = strong_same s quiet
  run_same s (perhaps time thing) = strong_same s (perhaps time thing)
  run_same s (weak time thing) = ap (λ (k : Kept). outcome d s (record { kept = k; blame = λ y. y; hidden = λ y. false; shown = k }) (weak time thing)) kept_same

pub run_law : RunLaw
run_law d v x h p how = run_same d v x h (body_at d p) how
