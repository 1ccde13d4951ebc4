-- A store as the run of a body meets it, while some of its signals and memories are shown or veiled.
use Rattle.std.specs.Prelude.{◌≡◌, ◌==◌, ◌||◌, ℕ, true, false, []}
use Rattle.body_store.specs.event_machine.Cell.{Cell}
use Rattle.body_store.specs.design_model.Design.{Design}
use Rattle.body_store.specs.design_model.View.{design_view}
use Rattle.body_store.specs.body_replay.Runs.{StoreView}
use Rattle.body_store.specs.body_replay.Store.{Kept}
use Rattle.body_store.specs.body_calls.Own.{IsOwn}
use Rattle.body_store.specs.declared.store.Store.{Store}
use Rattle.body_store.specs.Bodies.{around_of}
use Rattle.body_store.specs.Held.{HoldsStore}
use Rattle.body_store.specs.Made.{unblamed}
use Rattle.body_store.specs.Owned.{IsBlank}
use Rattle.body_store.specs.Scenes.{scene_of}
use Rattle.body_store.specs.Views.{hides}

-- the store keeps this of the cells of the design, whatever bodies read of it
pub record Keeps (d : Design) (k : Kept) (x : Store) : Type 0 where
  pub design : design_view x.design.now ≡ d
  pub blank : IsBlank d k  -- of what is no cell of the design nothing is known
  pub owned : HoldsStore d k unblamed x  -- each signal and memory is to blame for itself
  pub around : around_of x ≡ []

-- a body that runs meets the store as this view
pub record Meets (d : Design) (v : StoreView) (x : Store) : Type 0 where
  pub keeps : Keeps d v.kept x
  pub own : IsOwn (scene_of x)  -- also in what bodies read each is to blame for itself
  pub hidden : (y : ℕ) → hides x y ≡ v.hidden y
  pub shown : (c : Cell) → v.hidden c.thing ≡ true → (scene_of x).kept c ≡ v.shown c

-- what is kept, with nothing shown or veiled
abbrev pub plain_view : Kept → StoreView
plain_view k = record { kept = k; hidden = λ y. false; shown = k }

-- the same view, with this signal or memory shown or veiled too
abbrev pub also_hiding : ℕ → StoreView → StoreView
also_hiding t v = record v { hidden = λ y. (t == y) || v.hidden y }
